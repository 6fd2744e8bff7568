-- The words before load l are filled; the word at l is as it was when it is read.
use Rattle.rows.specs.Words.{Filled}
use Rattle.rows.specs.Rows.{raised}
use Rattle.rows.proofs.raise_row.Given as goal

abbrev pub invariant-loop-l : goal.invariant-loop-l
invariant-loop-l l = Filled (raised l.initial.scratch l.at l.top l.costs l.base) l.at l.l l.initial.scratch l.scratch
