-- The words before load l are filled; the word at l and the row read, which lies after them, are as they were.
use Rattle.rows.specs.Words.{Filled}
use Rattle.rows.specs.Rows.{pushed}
use Rattle.rows.proofs.push_row.Given as goal

abbrev pub invariant-loop-l : goal.invariant-loop-l
invariant-loop-l l = Filled (pushed l.initial.scratch l.from l.to l.costs l.base l.step) l.to l.l l.initial.scratch l.scratch
