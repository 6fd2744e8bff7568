-- `table::layer::clear_flags` meets its contract: after i turns the flags of the first i cells of the list are cleared.
use Rattle.table.proofs.Clears.{Clearing}
use Rattle.table.proofs.layer.clear_flags.Given as goal

abbrev pub invariant-loop-i : goal.invariant-loop-i
invariant-loop-i l = Clearing l.n l.i l.initial.scratch l.scratch
