-- Each check is what `tables_fault` computes to.
use borrow.Author.Tests.{eq-eqb}
use Rattle.timing.specs.Elements.{wire_in_range, buffer_in_range, register_in_range}
use Rattle.answers.specs.Tables.{period_in_range, wire_ok, register_ok, buffer_ok, buffer_fault, buffers_fault, list_fault, tables_fault}
use Rattle.timing_check.specs.Faults.{tables_with, list_with, fault_with}
use Rattle.timing_check.proofs.fault.order.Goals as goal

pub expect-requires : goal.expect-requires
unfolding fault_with tables_with list_with tables_fault period_in_range wire_ok register_ok buffer_ok buffer_fault buffers_fault list_fault wire_in_range register_in_range buffer_in_range
expect-requires c = eq-eqb c.fault.result 101 c.fault.ensures

pub expect-requires-2 : goal.expect-requires-2
unfolding fault_with tables_with list_with tables_fault period_in_range wire_ok register_ok buffer_ok buffer_fault buffers_fault list_fault wire_in_range register_in_range buffer_in_range
expect-requires-2 c = eq-eqb c.fault-2.result 110 c.fault-2.ensures

pub expect-requires-3 : goal.expect-requires-3
unfolding fault_with tables_with list_with tables_fault period_in_range wire_ok register_ok buffer_ok buffer_fault buffers_fault list_fault wire_in_range register_in_range buffer_in_range
expect-requires-3 c = eq-eqb c.fault-3.result 102 c.fault-3.ensures

pub expect-requires-4 : goal.expect-requires-4
unfolding fault_with tables_with list_with tables_fault period_in_range wire_ok register_ok buffer_ok buffer_fault buffers_fault list_fault wire_in_range register_in_range buffer_in_range
expect-requires-4 c = eq-eqb c.fault-4.result 103 c.fault-4.ensures

pub expect-requires-5 : goal.expect-requires-5
unfolding fault_with tables_with list_with tables_fault period_in_range wire_ok register_ok buffer_ok buffer_fault buffers_fault list_fault wire_in_range register_in_range buffer_in_range
expect-requires-5 c = eq-eqb c.fault-5.result 104 c.fault-5.ensures

pub expect-requires-6 : goal.expect-requires-6
unfolding fault_with tables_with list_with tables_fault period_in_range wire_ok register_ok buffer_ok buffer_fault buffers_fault list_fault wire_in_range register_in_range buffer_in_range
expect-requires-6 c = eq-eqb c.fault-6.result 105 c.fault-6.ensures

pub expect-requires-7 : goal.expect-requires-7
unfolding fault_with tables_with list_with tables_fault period_in_range wire_ok register_ok buffer_ok buffer_fault buffers_fault list_fault wire_in_range register_in_range buffer_in_range
expect-requires-7 c = eq-eqb c.fault-7.result 106 c.fault-7.ensures

pub expect-requires-8 : goal.expect-requires-8
unfolding fault_with tables_with list_with tables_fault period_in_range wire_ok register_ok buffer_ok buffer_fault buffers_fault list_fault wire_in_range register_in_range buffer_in_range
expect-requires-8 c = eq-eqb c.fault-8.result 2 c.fault-8.ensures
