-- The words from `start` up to `i` are equal.
use Rattle.report.specs.Runs.{Equal}
use Rattle.report.proofs.words.run_end.Given as goal

abbrev pub invariant-loop-i : goal.invariant-loop-i
invariant-loop-i l = Equal l.words l.start l.i
