-- Each check is what the range test computes to.
use mathlib.Core.Path.{ap}
use mathlib.Core.Bool.{not}
use Rattle.timing.specs.Elements.{wire_in_range}
use Rattle.timing_check.proofs.range.wires.Goals as goal

pub expect-requires : goal.expect-requires
unfolding wire_in_range
expect-requires c = c.has_wire.ensures

pub expect-requires-2 : goal.expect-requires-2
unfolding wire_in_range
expect-requires-2 c = c.has_wire-2.ensures

pub expect-requires-3 : goal.expect-requires-3
unfolding wire_in_range
expect-requires-3 c = ap not c.has_wire-3.ensures

pub expect-requires-4 : goal.expect-requires-4
unfolding wire_in_range
expect-requires-4 c = ap not c.has_wire-4.ensures
