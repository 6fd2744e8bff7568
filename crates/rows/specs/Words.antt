-- What a function leaves in the scratch words: a stretch of them written, all others as they were.
use Rattle.std.specs.Prelude.{ℕ, ◌+◌, ◌≤◌, ◌<◌, ◌≡◌, List, length, get_or}

-- `new` is `old` with F 0, .., F (n - 1) from `at`
pub record Filled (F : ℕ → ℕ) (at n : ℕ) (old new : List ℕ) : Type 0 where
  pub same : length new ≡ length old
  pub done : (k : ℕ) → k < n → get_or new (at + k) 0 ≡ F k
  pub low : (k : ℕ) → k < at → get_or new k 0 ≡ get_or old k 0
  pub high : (k : ℕ) → at + n ≤ k → get_or new k 0 ≡ get_or old k 0

-- the words from `at` up to `end` are as they were
abbrev pub Kept : ℕ → ℕ → List ℕ → List ℕ → Type 0
Kept at end old new = (k : ℕ) → at ≤ k → k < end → get_or new k 0 ≡ get_or old k 0

-- and those from `at` on
abbrev pub KeptFrom : ℕ → List ℕ → List ℕ → Type 0
KeptFrom at old new = (k : ℕ) → at ≤ k → get_or new k 0 ≡ get_or old k 0
