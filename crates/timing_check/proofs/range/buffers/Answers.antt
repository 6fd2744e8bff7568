-- Each check is what the range test computes to.
use mathlib.Core.Path.{ap}
use mathlib.Core.Bool.{not}
use Rattle.timing.specs.Elements.{buffer_in_range}
use Rattle.timing_check.proofs.range.buffers.Goals as goal

pub expect-requires : goal.expect-requires
unfolding buffer_in_range
expect-requires c = c.has_buffer.ensures

pub expect-requires-2 : goal.expect-requires-2
unfolding buffer_in_range
expect-requires-2 c = c.has_buffer-2.ensures

pub expect-requires-3 : goal.expect-requires-3
unfolding buffer_in_range
expect-requires-3 c = ap not c.has_buffer-3.ensures

pub expect-requires-4 : goal.expect-requires-4
unfolding buffer_in_range
expect-requires-4 c = ap not c.has_buffer-4.ensures

pub expect-requires-5 : goal.expect-requires-5
unfolding buffer_in_range
expect-requires-5 c = ap not c.has_buffer-5.ensures
