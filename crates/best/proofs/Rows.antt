-- Rows hold their table: a layer of rows is the layer of the table.
use Prim.Native.Nat.{ℕ, zero, suc, ◌+◌, ◌-◌, ◌≤◌, ◌<◌, max}
use mathlib.Core.Path.{◌≡◌, refl, sym, ap, ◌∙◌}
use mathlib.Core.List.{List, []}
use mathlib.Core.Logic.{◌⊎◌, inl, inr}
use native.Mathlib.Omega.{arith}
use lib.ListN.{get_or}
use Rattle.timing.specs.Formulas.{wire_delay}
use Rattle.rules.specs.Rules.{Rules}
use Rattle.plan.proofs.Truth.{split}
use Rattle.budget.specs.Table.{Table, Seeds, max_below, load_at, arrival, given, layer}
use Rattle.budget.proofs.Max.{only-test, only-value}
use Rattle.budget.proofs.Active.{max-most, max-same, arrival-past, given-row}
use Rattle.best.specs.Rows.{Rows, list_from, table_of, rows_of, layer_rows, Bounded}

-- a table is 0 outside of the plan and above the load limit
abbrev pub Inside : Rules → Table → Type 0
Inside R A = (c l : ℕ) → (c < R.cell_count → l ≤ R.limit → ⊥) → A c l ≡ 0

-- a list by its places

list-from : {A : Type 0} (f : ℕ → A) (count from i : ℕ) (d : A) → i < count → get_or (list_from f from count) i d ≡ f (from + i)
unfolding list_from
list-from f zero from i d h = absurd (omega arith)
list-from f (suc count) from zero d h = ap f (omega arith)
list-from f (suc count) from (suc i) d h = list-from f count (suc from) i d (omega arith) ∙ ap f (omega arith)

pub list_at : {A : Type 0} (f : ℕ → A) (count i : ℕ) (d : A) → i < count → get_or (list_from f 0 count) i d ≡ f i
list_at f count i d h = list-from f count 0 i d h ∙ ap f (omega arith)

pub list-past : {A : Type 0} (f : ℕ → A) (count from i : ℕ) (d : A) → count ≤ i → get_or (list_from f from count) i d ≡ d
unfolding list_from
list-past f zero from i d h = refl
list-past f (suc count) from zero d h = absurd (omega arith)
list-past f (suc count) from (suc i) d h = list-past f count (suc from) i d (omega arith)

-- rows hold the table that was written out, and no more

module _ (R : Rules) (A : Table) where
  abbrev row : ℕ → List ℕ
  row c = list_from (A c) 0 (suc R.limit)

  pub rows_at : (c l : ℕ) → c < R.cell_count → l ≤ R.limit → table_of (rows_of R A) c l ≡ A c l
  unfolding table_of rows_of
  rows_at c l h k = rw (list_at row R.cell_count c [] h) (list_at (A c) (suc R.limit) l 0 (omega arith))

  pub rows_inside : Inside R (table_of (rows_of R A))
  unfolding table_of rows_of
  rows_inside c l out = go (split R.cell_count c) (split (suc R.limit) l)
    where
      go : (R.cell_count ≤ c) ⊎ (c < R.cell_count) → (suc R.limit ≤ l) ⊎ (l < suc R.limit) → table_of (rows_of R A) c l ≡ 0
      go (inl h) k = rw (list-past row R.cell_count 0 c [] h)
      go (inr h) (inl k) = rw (list_at row R.cell_count c [] h) (list-past (A c) (suc R.limit) 0 l 0 k)
      go (inr h) (inr k) = absurd (out h (omega arith))

-- no rows: the zero table
pub empty-zero : (c l : ℕ) → table_of [] c l ≡ 0
unfolding table_of
empty-zero c l = refl

module _ (R : Rules) (bounded : Bounded R) (seed : Seeds) where
  -- a cell gives only over a wire, at a load within the limit
  given_inside : (bound : ℕ) (A : Table) (n c l : ℕ) → 0 < given R (arrival R seed bound A) n c l → (c < R.cell_count) × (l ≤ R.limit)
  unfolding given load_at
  given_inside bound A n c l h = (bounded.from_plan c n (only-test (R.linked c n) _ 0 h), go (split (load_at R c n l) R.limit))
    where
      some : 0 < arrival R seed bound A n (load_at R c n l) - wire_delay (R.wire c n) l
      some = only-value (R.linked c n) _ 0 h

      go : (load_at R c n l ≤ R.limit) ⊎ (R.limit < load_at R c n l) → l ≤ R.limit
      go (inl q) = omega arith
      go (inr q) = absurd (omega (arith, some, arrival-past R seed bound A n (load_at R c n l) q))

  pub layer-inside : (bound : ℕ) (A : Table) → Inside R A → Inside R (layer R seed bound A)
  unfolding layer
  layer-inside bound A inside c l out =
      omega (arith, inside c l out, max-most R.cell_count (λ n. given R (arrival R seed bound A) n c l) 0 (λ n h. none n (split (given R (arrival R seed bound A) n c l) 0)))
    where
      none : (n : ℕ) → (given R (arrival R seed bound A) n c l ≤ 0) ⊎ (0 < given R (arrival R seed bound A) n c l) → given R (arrival R seed bound A) n c l ≤ 0
      none n (inl h) = h
      none n (inr h) =
          let in-range = given_inside bound A n c l h in
          absurd (out in-range.0 in-range.1)

  module _ (f : ℕ) (rows : Rows) (inside : Inside R (table_of rows)) where
    abbrev arrivals : Table
    arrivals = arrival R seed (R.bound 0 f) (table_of rows)

    arrivals-at : (n l : ℕ) → n < R.cell_count → table_of (rows_of R arrivals) n l ≡ arrivals n l
    arrivals-at n l h = go (split l R.limit)
      where
        go : (l ≤ R.limit) ⊎ (R.limit < l) → table_of (rows_of R arrivals) n l ≡ arrivals n l
        go (inl k) = rows_at R arrivals n l h k
        go (inr k) = omega (arith, rows_inside R arrivals n l (λ a b. omega arith), arrival-past R seed (R.bound 0 f) (table_of rows) n l k)

    pub layer-rows : (c l : ℕ) → table_of (layer_rows R seed f rows) c l ≡ layer R seed (R.bound 0 f) (table_of rows) c l
    unfolding layer_rows layer
    layer-rows c l = go (split R.cell_count c) (split (suc R.limit) l)
      where
        F : Table
        F c l = max (table_of rows c l) (max_below R.cell_count (λ n. given R (table_of (rows_of R arrivals)) n c l))

        out : (c < R.cell_count → l ≤ R.limit → ⊥) → table_of (layer_rows R seed f rows) c l ≡ layer R seed (R.bound 0 f) (table_of rows) c l
        out h = rows_inside R F c l h ∙ sym (layer-inside (R.bound 0 f) (table_of rows) inside c l h)

        go : (R.cell_count ≤ c) ⊎ (c < R.cell_count) → (suc R.limit ≤ l) ⊎ (l < suc R.limit) → table_of (layer_rows R seed f rows) c l ≡ layer R seed (R.bound 0 f) (table_of rows) c l
        go (inl h) k = out (λ a b. omega arith)
        go (inr h) (inl k) = out (λ a b. omega arith)
        go (inr h) (inr k) = rows_at R F c l h (omega arith) ∙ ap (max (table_of rows c l)) (max-same R.cell_count _ _ (λ n i. given-row R arrivals (table_of (rows_of R arrivals)) n (λ l. arrivals-at n l i) c l))

  pub layer-rows-inside : (f : ℕ) (rows : Rows) → Inside R (table_of (layer_rows R seed f rows))
  unfolding layer_rows
  layer-rows-inside f rows = rows_inside R _
