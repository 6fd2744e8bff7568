-- Each check is what `ends_fault` computes to.
use mathlib.Core.Path.{ap}
use mathlib.Core.Bool.{not}
use Rattle.answers.specs.Ends.{ends_fault}
use Rattle.timing_check.proofs.answer.ends.Goals as goal

pub expect-requires : goal.expect-requires
unfolding ends_fault
expect-requires c = ap not c.ends_fault.ensures

pub expect-requires-2 : goal.expect-requires-2
unfolding ends_fault
expect-requires-2 c = c.ends_fault-2.ensures

pub expect-requires-3 : goal.expect-requires-3
unfolding ends_fault
expect-requires-3 c = c.ends_fault-3.ensures

pub expect-requires-4 : goal.expect-requires-4
unfolding ends_fault
expect-requires-4 c = c.ends_fault-4.ensures
