-- What putting a text into a lent one leaves.
use Rattle.std.specs.Prelude.{ℕ, ◌+◌, ◌≤◌, ◌≡◌, List, length}
use Rattle.std.proofs.lemmas.List.Edits.{sets}

-- `text` stands whole from place `at` on, all else is as it was, and `r` is the place after it
pub record Put (text : List ℕ) (at r : ℕ) (old new : List ℕ) : Type 0 where
  pub next : r ≡ at + length text
  pub within : r ≤ length old
  pub holds : new ≡ sets old at text
