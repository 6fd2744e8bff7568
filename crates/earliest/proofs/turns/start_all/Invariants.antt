-- The loop keeps: at the first cells the next span has started.
use Rattle.earliest.proofs.Parts.{Starting}
use Rattle.earliest.proofs.turns.start_all.Given as goal

abbrev pub invariant-loop-cell : goal.invariant-loop-cell
invariant-loop-cell l = Starting l.p l.plan l.period l.initial.scratch l.count l.cell l.scratch l.waiting
