-- A run grows by one word that is equal to its first.
use Rattle.std.proofs.Common.{ℕ, ◌+◌, ◌≤◌, ◌≡◌, ap, List, arith, below_more, get_or}
use Rattle.report.specs.Runs.{Equal}

pub equal-one : (words : List ℕ) (start : ℕ) → Equal words start (start + 1)
equal-one words start = λ k h g. ap {B = ℕ} (λ (j : ℕ). get_or words j 0) (omega arith)

pub equal-more : (words : List ℕ) (start end : ℕ) → Equal words start end → get_or words end 0 ≡ get_or words start 0 → Equal words start (end + 1)
equal-more words start end h e = below_more (λ k. start ≤ k → get_or words k 0 ≡ get_or words start 0) end h (λ g. e)
