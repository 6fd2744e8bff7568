-- A run of equal words: from `start` up to `end`, where another word stands or the list ends.
use Rattle.std.specs.Prelude.{ℕ, ◌<◌, ◌≤◌, ◌≡◌, List, length, get_or}

abbrev pub Equal : List ℕ → ℕ → ℕ → Type 0
Equal words start end = (k : ℕ) → k < end → start ≤ k → get_or words k 0 ≡ get_or words start 0

pub record EqualRun (words : List ℕ) (start end : ℕ) : Type 0 where
  pub some : start < end
  pub within : end ≤ length words
  pub equal : Equal words start end
  pub whole : end < length words → get_or words end 0 ≡ get_or words start 0 → ⊥

-- the zeros that the words begin with
pub record Zeros (words : List ℕ) (n : ℕ) : Type 0 where
  pub within : n ≤ length words
  pub zero : (k : ℕ) → k < n → get_or words k 0 ≡ 0
  pub whole : n < length words → get_or words n 0 ≡ 0 → ⊥
