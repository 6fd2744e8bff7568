-- Each check is what `crossing_fault` computes to.
use borrow.Author.Tests.{eq-eqb}
use Rattle.timing.specs.Elements.{wire_in_range, buffer_in_range, register_in_range}
use Rattle.answers.specs.Tables.{period_in_range, wire_ok, register_ok, buffer_ok, buffer_fault, buffers_fault, list_fault}
use Rattle.answers.specs.Crossing.{crossing_fault}
use Rattle.timing_check.specs.Faults.{tables_with, list_with, crossing_with, crossing_number_of}
use Rattle.timing_check.proofs.crossing.fifos.Goals as goal

pub expect-requires : goal.expect-requires
unfolding crossing_number_of crossing_with tables_with list_with crossing_fault period_in_range wire_ok register_ok buffer_ok buffer_fault buffers_fault list_fault wire_in_range register_in_range buffer_in_range
expect-requires c = eq-eqb c.with_fifo.result 0 c.with_fifo.ensures

pub expect-requires-2 : goal.expect-requires-2
unfolding crossing_number_of crossing_with tables_with list_with crossing_fault period_in_range wire_ok register_ok buffer_ok buffer_fault buffers_fault list_fault wire_in_range register_in_range buffer_in_range
expect-requires-2 c = eq-eqb c.with_fifo-2.result 0 c.with_fifo-2.ensures

pub expect-requires-3 : goal.expect-requires-3
unfolding crossing_number_of crossing_with tables_with list_with crossing_fault period_in_range wire_ok register_ok buffer_ok buffer_fault buffers_fault list_fault wire_in_range register_in_range buffer_in_range
expect-requires-3 c = eq-eqb c.with_fifo-3.result 109 c.with_fifo-3.ensures

pub expect-requires-4 : goal.expect-requires-4
unfolding crossing_number_of crossing_with tables_with list_with crossing_fault period_in_range wire_ok register_ok buffer_ok buffer_fault buffers_fault list_fault wire_in_range register_in_range buffer_in_range
expect-requires-4 c = eq-eqb c.with_fifo-4.result 109 c.with_fifo-4.ensures

pub expect-requires-5 : goal.expect-requires-5
unfolding crossing_number_of crossing_with tables_with list_with crossing_fault period_in_range wire_ok register_ok buffer_ok buffer_fault buffers_fault list_fault wire_in_range register_in_range buffer_in_range
expect-requires-5 c = eq-eqb c.with_fifo-5.result 109 c.with_fifo-5.ensures

pub expect-requires-6 : goal.expect-requires-6
unfolding crossing_number_of crossing_with tables_with list_with crossing_fault period_in_range wire_ok register_ok buffer_ok buffer_fault buffers_fault list_fault wire_in_range register_in_range buffer_in_range
expect-requires-6 c = eq-eqb c.with_fifo-6.result 109 c.with_fifo-6.ensures
