-- A number of bytes that a list has.
use Rattle.std.proofs.Common.{ℕ, ◌≤◌, List, length, length-take-le, sym}
use Rattle.io.specs.Counts.{IsPrefixLen}

pub counted : (n : ℕ) (xs : List ℕ) → n ≤ length xs → IsPrefixLen n xs
counted n xs h = (h, sym (length-take-le _ _ h))
