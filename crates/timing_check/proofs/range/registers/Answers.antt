-- Each check is what the range test computes to.
use mathlib.Core.Path.{ap}
use mathlib.Core.Bool.{not}
use Rattle.timing.specs.Elements.{register_in_range}
use Rattle.timing_check.proofs.range.registers.Goals as goal

pub expect-requires : goal.expect-requires
unfolding register_in_range
expect-requires c = c.has_register.ensures

pub expect-requires-2 : goal.expect-requires-2
unfolding register_in_range
expect-requires-2 c = c.has_register-2.ensures

pub expect-requires-3 : goal.expect-requires-3
unfolding register_in_range
expect-requires-3 c = ap not c.has_register-3.ensures

pub expect-requires-4 : goal.expect-requires-4
unfolding register_in_range
expect-requires-4 c = ap not c.has_register-4.ensures

pub expect-requires-5 : goal.expect-requires-5
unfolding register_in_range
expect-requires-5 c = ap not c.has_register-5.ensures

pub expect-requires-6 : goal.expect-requires-6
unfolding register_in_range
expect-requires-6 c = ap not c.has_register-6.ensures
