-- The filled part is all zeros: a copied byte is the byte.
use Rattle.std.proofs.Common.{◌≡◌, ℕ, ◌≤◌, List, ◌++◌, length, take, drop, replicate, length-take-le}
use Rattle.session.specs.Journal.{cleared}
use Rattle.session.proofs.journal.clear_journal.Goals as goal

zeros_before : (n : ℕ) (old new : List ℕ) → new ≡ replicate (length (take n old)) 0 → n ≤ length old → new ++ drop n old ≡ replicate n 0 ++ drop n old
zeros_before n old new e h = rw (e, length-take-le n old h)

pub returns : goal.returns
unfolding cleared
returns c = zeros_before 1024 _ _ (c.fill.ensures.after (λ y e. e)) c.requires
