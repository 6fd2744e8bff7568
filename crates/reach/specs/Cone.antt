-- Cells that are not in the cone leave the active list.
use Rattle.std.specs.Prelude.{ℕ, ◌+◌, ◌*◌, ◌≤◌, ◌<◌, ◌≡◌, Bool, List, T, length, get_or}
use Rattle.layout.specs.Layout.{active_at, next_at, seeds_at, trail_at}
use Rattle.lists.specs.Lists.{flag_of, ListedAt, Listed}
use Rattle.problem.specs.declared.Problem.{Problem}

-- no cell is flagged, and there are `active` cells at the active list
pub record ListAsks (n active width : ℕ) (words : List ℕ) : Type 0 where
  pub unflagged : (c : ℕ) → c < n → flag_of n words c ≡ 0
  pub short : active ≤ n
  pub cells : (i : ℕ) → i < active → get_or words (n * active_at + i) 0 < n
  pub wide : 0 < width
  pub few : n ≤ 1024
  pub room : n * trail_at ≤ length words

-- After `list_inside`: the next list has the cells of the active list that are in P, and no other.
pub record ListedInside (n active : ℕ) (P : ℕ → Bool) (old new : List ℕ) (count : ℕ) : Type 0 where
  pub same : length new ≡ length old
  pub listed : Listed n new (n * next_at) count
  pub fewer : (c : ℕ) → c < n → flag_of n new c ≡ 1 → ListedAt n old (n * active_at) active c
  pub inside : (i : ℕ) → i < active → T (P (get_or old (n * active_at + i) 0)) → flag_of n new (get_or old (n * active_at + i) 0) ≡ 1
  pub low : (k : ℕ) → k < n * next_at → get_or new k 0 ≡ get_or old k 0
  pub high : (k : ℕ) → n * seeds_at ≤ k → get_or new k 0 ≡ get_or old k 0

pub record DropAsks (p : Problem) (n active : ℕ) (words : List ℕ) : Type 0 where
  pub listed : Listed n words (n * active_at) active
  pub wide : 0 < p.width
  pub narrow : p.width ≤ 32
  pub low : p.height ≤ 32
  pub few : n ≤ 1024
  pub room : n * trail_at ≤ length words

-- After `drop_outside`: only cells that are not in P have left the list.
pub record Dropped (n : ℕ) (P : ℕ → Bool) (old new : List ℕ) (active : ℕ) : Type 0 where
  pub same : length new ≡ length old
  pub listed : Listed n new (n * active_at) active
  pub fewer : (c : ℕ) → c < n → flag_of n new c ≡ 1 → flag_of n old c ≡ 1
  pub inside : (c : ℕ) → c < n → T (P c) → flag_of n new c ≡ flag_of n old c
  pub low : (k : ℕ) → k < n * active_at → get_or new k 0 ≡ get_or old k 0
  pub high : (k : ℕ) → n * seeds_at ≤ k → get_or new k 0 ≡ get_or old k 0
