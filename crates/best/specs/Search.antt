-- The search of Rattle.budget, computed on tables and labels held as lists: side by side, from the source's on.
use Rattle.std.specs.Prelude.{ℕ, zero, suc, ◌+◌, ◌*◌, Bool, ◌&&◌, cond, List, [], eqb, ltb}
use Rattle.rules.specs.Rules.{Rules, register_code, fifo_code}
use Rattle.budget.specs.Table.{budget_sum}
use Rattle.budget.specs.Done.{Labels, seed_at}
use Rattle.best.specs.Rows.{Rows, table_of, layer_rows, list_from}
use Rattle.best.specs.Labels.{Label, unknown, known, by_code, places, relabel, next_label}

-- what a side's search knows: the labels of its registers, and those of the FIFOs that lead into it
pub record Labelling : Type 0 where
  pub registers : List Label
  pub watched : List Label

-- the least weight after the first span and the least steps from the sink, with the labels so far; or the labels when nothing more can be done
pub data Found : Type 0 where
  figures : ℕ → ℕ → Labelling → Found
  nothing : Labelling → Found

-- what a turn leads to: the end, or another turn at weight k after the current span and s steps
pub data Turn : Type 0 where
  ends : Found → Turn
  goes_on : ℕ → ℕ → Rows → Labelling → Turn

-- the sink, on the side with no FIFO passed, has its start state in the table
unfoldable pub at_sink : Rules → ℕ → Rows → Bool
at_sink R f rows = eqb f 0 && ltb R.start.delay (table_of rows R.sink R.start.load)

-- new labels of registers, and of FIFOs where a side is before this one
unfoldable pub relabelled : Rules → ℕ → ℕ → ℕ → Rows → Labelling → Labelling
relabelled R f w s rows m =
    record {
      registers = relabel R register_code w s (table_of rows) m.registers;
      watched = cond (eqb f 0) [] (relabel R fifo_code w s (table_of rows) m.watched);
    }

-- after a layer that adds to the table: the end, if the sink's start state has come in
unfoldable pub layer_turn : Rules → ℕ → ℕ → ℕ → Rows → Labelling → Turn
layer_turn R f k s next m =
    cond (at_sink R f next) (ends (figures k (suc s) m))
    (goes_on k (suc s) next (relabelled R f (R.weight f + k) (suc s) next m))

-- after a layer that adds nothing: the next label, or else the end
unfoldable pub quiet_turn : Rows → Labelling → Label → Turn
quiet_turn rows m unknown = ends (nothing m)
quiet_turn rows m (known w t) = goes_on w t rows m

unfoldable pub turn : Rules → List Label → ℕ → ℕ → ℕ → Rows → Labelling → Turn
turn R exits f k s rows m =
    let by : ℕ → Labels = by_code m.registers exits in
    let next : Rows = layer_rows R (seed_at by k s) f rows in
    cond (ltb (budget_sum R (table_of rows)) (budget_sum R (table_of next))) (layer_turn R f k s next m)
    (quiet_turn rows m (next_label (places R) by k s))

-- `fuel` turns; it is more than there are
unfoldable pub search_from : Rules → List Label → ℕ → ℕ → ℕ → ℕ → Rows → Labelling → Found
search_from R exits f zero k s rows m = nothing m
search_from R exits f (suc fuel) k s rows m =
    elim (turn R exits f k s rows m) [ ends x ↦ x | goes_on j t next more ↦ search_from R exits f fuel j t next more ]

-- all budgets at the closing bound
unfoldable pub most_sum : Rules → ℕ → ℕ
most_sum R f = R.cell_count * (suc R.limit * R.bound 0 f)

-- a turn adds to the sum of the budgets or to the number of seeds
unfoldable pub most_turns : Rules → ℕ → ℕ
most_turns R f = most_sum R f + 2 * places R

-- on the source's side the source is labelled beforehand
unfoldable pub start_labels : Rules → ℕ → Labelling
start_labels R f =
    record {
      registers = list_from (λ c. cond (eqb f R.fifos && eqb c R.source) (known 0 0) unknown) 0 (places R);
      watched = [];
    }

-- the search of side f; `exits` are the labels of its FIFOs
unfoldable pub search_side : Rules → List Label → ℕ → Found
search_side R exits f = search_from R exits f (suc (most_turns R f)) 0 0 [] (start_labels R f)

unfoldable pub labelling : Found → Labelling
labelling (figures k s m) = m
labelling (nothing m) = m

-- the labels of the FIFOs of side f, `more` sides before the source's
unfoldable pub exits_of : Rules → ℕ → ℕ → List Label
exits_of R zero f = []
exits_of R (suc more) f = (labelling (search_side R (exits_of R more (suc f)) (suc f))).watched
