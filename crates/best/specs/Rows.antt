-- Delay-budget tables held as lists, a row of `limit + 1` words a cell, so that a layer is computed once and then read.
use Rattle.std.specs.Prelude.{ℕ, zero, suc, ◌<◌, max, List, [], ◌∷◌, T, get_or}
use Rattle.rules.specs.Rules.{Rules}
use Rattle.budget.specs.Table.{Table, Seeds, max_below, arrival, given}

-- f from, f (from + 1), .., in all `count` values
unfoldable pub list_from : {A : Type 0} → (ℕ → A) → ℕ → ℕ → List A
list_from f from zero = []
list_from f from (suc count) = f from ∷ list_from f (suc from) count

abbrev pub Rows : Type 0
Rows = List (List ℕ)

-- the table that the rows hold; 0 outside of them
unfoldable pub table_of : Rows → Table
table_of rows c l = get_or (get_or rows c []) l 0

-- a table written out, for the cells of the plan and the loads within the limit
unfoldable pub rows_of : Rules → Table → Rows
rows_of R A = list_from (λ c. list_from (λ l. A c l) 0 (suc R.limit)) 0 R.cell_count

-- one layer of side f; the arrival table is held as rows too
unfoldable pub layer_rows : Rules → Seeds → ℕ → Rows → Rows
layer_rows R seed f rows =
    let arrivals : Rows = rows_of R (arrival R seed (R.bound 0 f) (table_of rows)) in
    rows_of R (λ c l. max (table_of rows c l) (max_below R.cell_count (λ n. given R (table_of arrivals) n c l)))

-- an uncut wire leads only from cells of the plan
pub record Bounded (R : Rules) : Type 0 where
  pub from_plan : (c n : ℕ) → T (R.linked c n) → c < R.cell_count
