-- The visits before i are right, and the verdict is that on the others.
use Rattle.verdict.specs.Visits.{Judging}
use Rattle.verdict.proofs.list.judge_rest.Given as goal

abbrev pub invariant-loop-i : goal.invariant-loop-i
invariant-loop-i l = Judging l.p l.plan l.words l.i l.at
