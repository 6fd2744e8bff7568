-- `labels::arrive`: the invariant: the labels from `at` up to i have become seeds. The order and the labels stay as they are.
use Rattle.labels.specs.Labels.{Arrived}
use Rattle.labels.proofs.arrive.Given as goal

abbrev pub invariant-loop-i : goal.invariant-loop-i
invariant-loop-i l = Arrived l.n l.set l.code l.idle l.at l.i l.weight l.steps l.initial.scratch l.scratch l.listed
