-- The words before load l are filled; the row read lies before them, so it is as it was.
use Rattle.rows.specs.Words.{Filled}
use Rattle.rows.specs.Rows.{copied}
use Rattle.rows.proofs.copy_row.Given as goal

abbrev pub invariant-loop-l : goal.invariant-loop-l
invariant-loop-l l = Filled (copied l.initial.scratch l.cell l.costs l.base) l.to l.l l.initial.scratch l.scratch
