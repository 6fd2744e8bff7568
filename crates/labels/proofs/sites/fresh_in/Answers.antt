-- `labels::sites::fresh_in`: the word that it reads is the table's, where a span starts with the gate's load and setup.
use Rattle.std.proofs.Common.{ℕ, ◌+◌, ◌*◌, ◌≤◌, ◌≡◌, List, arith, ltb, get_or}
use Rattle.timing.specs.declared.elements.Register.{Register}
use Rattle.timing.specs.Ranges.{load_max, setup_max}
use Rattle.timing.specs.Formulas.{register_load, setup_delay}
use Rattle.timing.specs.Elements.{RegisterInRange}
use Rattle.costs.specs.Costs.{row_words}
use Rattle.table.proofs.Views.{budget-at}
use Rattle.labels.specs.Additions.{FreshIn}
use Rattle.labels.proofs.sites.fresh_in.Goals as goal

load-most : {gate : Register} → RegisterInRange gate → register_load gate ≤ load_max
unfolding register_load
load-most v = v.load

delay-most : {gate : Register} → RegisterInRange gate → setup_delay gate ≤ 2 * setup_max
unfolding setup_delay
delay-most v = omega (arith, v.setup)

fresh-word : (gate : Register) → RegisterInRange gate → (words : List ℕ) (cell delay load : ℕ) → delay ≡ setup_delay gate → load ≡ register_load gate → FreshIn gate words cell (ltb delay (get_or words (cell * row_words + load) 0))
fresh-word gate v words cell delay load d l n h = rw (d, l, budget-at n words cell (register_load gate) h (omega (arith, load-most v)))

pub overflow_cast-start : goal.overflow_cast-start
overflow_cast-start c = omega (arith, c.start_delay-start.ensures, delay-most c.requires.0)

pub view-requires : goal.view-requires
view-requires c =
    (omega (arith, c.load-load.ensures, load-most c.requires.0), omega arith)

pub returns : goal.returns
returns c =
    rw c.view.ensures (fresh-word c.args.gate c.requires.0 _ c.args.cell _ _ c.start_delay-start.ensures c.load-load.ensures)
