-- The arrival row of one cell, step by step: where a buffer may stand, and the row that the first buffers have raised.
use Rattle.std.specs.Prelude.{ℕ, ◌+◌, ◌*◌, ◌-◌, ◌≤◌, ◌<◌, max, Bool, ◌&&◌, not, cond, List, eqb, leb, length, get_or}
use Rattle.plan.specs.Plan.{blocked}
use Rattle.timing.specs.declared.elements.Elements.{Elements}
use Rattle.timing.specs.Formulas.{gate_delay, buffer_driver, buffer_load}
use Rattle.timing.specs.Valid.{Valid}
use Rattle.budget.specs.Table.{only, max_below}
use Rattle.costs.specs.Costs.{row_words, cost_words, buffer_at, BufferRows, CostsOf}
use Rattle.rows.specs.Rows.{view_of, raised}
use Rattle.problem.specs.declared.Problem.{Problem}
use Rattle.problem.specs.declared.net.Net.{Net}
use Rattle.problem.specs.Net.{fifo_of}
use Rattle.table.specs.Problem.{NetReady, Room}

-- a cell of a plan that has passed the checks, the costs, and room for the scratch words
pub record CellReady (net : Net) (marks costs words : List ℕ) (cell : ℕ) : Type 0 where
  pub ready : NetReady net marks
  pub costed : CostsOf net.problem.elements (fifo_of net) costs
  pub inside : cell < length marks
  pub room : Room (length marks) words

-- checked tables with the buffers' costs, and two rows in the words, the cell's row of the table before the one at `to`
pub record RowsReady (e : Elements) (costs : List ℕ) (cell to : ℕ) (words : List ℕ) : Type 0 where
  pub valid : Valid e
  pub costed : BufferRows e e.count costs
  pub before : cell * row_words + row_words ≤ to
  pub inside : to + row_words ≤ length words

-- a buffer may stand on a cell with these marks: the cell is no end and not blocked
unfoldable pub takes_buffers : ℕ → Problem → ℕ → Bool
takes_buffers marks p cell = not (eqb cell p.source) && not (eqb cell p.sink) && not (blocked marks)

-- what the cell's row of the table leaves before buffer i, under load l
unfoldable pub behind : List ℕ → ℕ → Elements → ℕ → ℕ → ℕ
behind words cell e l i =
    only (leb (buffer_load (buffer_at e i)) e.limit.0) (view_of words cell (buffer_load (buffer_at e i)) - gate_delay (buffer_driver (buffer_at e i)) l)

-- the row at `to`, raised within the limit by the first `count` buffers
unfoldable pub raised_by_buffers : List ℕ → ℕ → ℕ → Elements → ℕ → ℕ → ℕ
raised_by_buffers words cell to e count l =
    cond (leb l e.limit.0) (max (get_or words (to + l) 0) (max_below count (behind words cell e l))) (get_or words (to + l) 0)

-- a mark and a row in the words, and a row of the costs
pub record SeedAsks (mark to base : ℕ) (words : List ℕ) : Type 0 where
  pub mark_in : mark < length words
  pub row_in : to + row_words ≤ length words
  pub costs_in : base + row_words ≤ cost_words

-- the row at `to`, raised where a span may close
unfoldable pub seeded : Bool → List ℕ → ℕ → ℕ → List ℕ → ℕ → ℕ → ℕ
seeded seed words to top costs base l = cond seed (raised words to top costs base l) (get_or words (to + l) 0)
