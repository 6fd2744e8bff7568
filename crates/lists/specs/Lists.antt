-- A list of cells in the scratch words, with a flag a cell that says whether it is listed.
use Rattle.std.specs.Prelude.{ℕ, zero, suc, ◌+◌, ◌*◌, ◌≤◌, ◌<◌, ◌≡◌, List, length, get_or}
use Rattle.layout.specs.Layout.{active_at, next_at, listed_at, seeds_at}

-- f 0 + .. + f (n - 1)
unfoldable pub sum_below : ℕ → (ℕ → ℕ) → ℕ
sum_below zero f = 0
sum_below (suc n) f = sum_below n f + f n

abbrev pub flag_of : ℕ → List ℕ → ℕ → ℕ
flag_of n words c = get_or words (n * listed_at + c) 0

pub record ListedAt (n : ℕ) (words : List ℕ) (base count c : ℕ) : Type 0 where
  pub at : ℕ
  pub below : at < count
  pub holds : get_or words (base + at) 0 ≡ c

-- The list at `base`, of `count` cells: each flagged cell is on it once, and no other.
pub record Listed (n : ℕ) (words : List ℕ) (base count : ℕ) : Type 0 where
  pub bits : (c : ℕ) → c < n → flag_of n words c ≤ 1
  pub cells : (i : ℕ) → i < count → get_or words (base + i) 0 < n
  pub flagged : (i : ℕ) → i < count → flag_of n words (get_or words (base + i) 0) ≡ 1
  pub covered : (c : ℕ) → c < n → flag_of n words c ≡ 1 → ListedAt n words base count c
  pub counted : count ≡ sum_below n (flag_of n words)

-- After `enlist`: the cell is listed; the other flags and all words but those of this list and the flags stay.
pub record Enlisted (n base count cell : ℕ) (old new : List ℕ) (next : ℕ) : Type 0 where
  pub same : length new ≡ length old
  pub listed : Listed n new base next
  pub now-flagged : flag_of n new cell ≡ 1
  pub others : (c : ℕ) → c < n → (c ≡ cell → ⊥) → flag_of n new c ≡ flag_of n old c
  pub low : (k : ℕ) → k < base + count → get_or new k 0 ≡ get_or old k 0
  pub middle : (k : ℕ) → base + n ≤ k → k < n * listed_at → get_or new k 0 ≡ get_or old k 0
  pub high : (k : ℕ) → n * seeds_at ≤ k → get_or new k 0 ≡ get_or old k 0

-- After `take_list`: the active list is the next list; all other words stay.
pub record Taken (n count : ℕ) (old new : List ℕ) : Type 0 where
  pub same : length new ≡ length old
  pub listed : Listed n new (n * active_at) count
  pub low : (k : ℕ) → k < n * active_at → get_or new k 0 ≡ get_or old k 0
  pub high : (k : ℕ) → n * next_at ≤ k → get_or new k 0 ≡ get_or old k 0
