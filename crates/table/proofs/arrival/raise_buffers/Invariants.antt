-- After i buffers the row at `to` is `raised_by_buffers` by the first i; the cell's row lies before it, so it is as it was.
use Rattle.costs.specs.Costs.{row_words}
use Rattle.rows.specs.Words.{Filled}
use Rattle.table.specs.ArrivalRow.{raised_by_buffers}
use Rattle.table.proofs.arrival.raise_buffers.Given as goal

abbrev pub invariant-loop-i : goal.invariant-loop-i
invariant-loop-i l = Filled (raised_by_buffers l.initial.scratch l.cell l.to l.elements l.i) l.to row_words l.initial.scratch l.scratch
