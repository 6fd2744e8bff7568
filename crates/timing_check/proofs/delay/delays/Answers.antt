-- Each check is what the formula computes to.
use borrow.Author.Tests.{eq-eqb}
use Rattle.timing.specs.Elements.{wire_in_range, buffer_in_range, register_in_range, wire_of, driver_of, buffer_of, register_of}
use Rattle.timing.specs.Formulas.{wire_delay, gate_delay, buffer_driver, setup_delay}
use Rattle.timing_check.proofs.delay.delays.Goals as goal

pub expect-requires : goal.expect-requires
unfolding wire_in_range wire_delay wire_of
expect-requires c = eq-eqb c.step.result 10 c.step.ensures

pub expect-requires-2 : goal.expect-requires-2
unfolding wire_in_range wire_delay wire_of
expect-requires-2 c = eq-eqb c.step-2.result 22 c.step-2.ensures

pub expect-requires-3 : goal.expect-requires-3
unfolding wire_in_range wire_delay wire_of
expect-requires-3 c = eq-eqb c.step-3.result 48195 c.step-3.ensures

pub expect-requires-4 : goal.expect-requires-4
unfolding buffer_in_range gate_delay buffer_driver buffer_of driver_of
expect-requires-4 c = eq-eqb c.gate.result 18 c.gate.ensures

pub expect-requires-5 : goal.expect-requires-5
unfolding buffer_in_range gate_delay buffer_driver buffer_of driver_of
expect-requires-5 c = eq-eqb c.gate-2.result 34130 c.gate-2.ensures

pub expect-requires-6 : goal.expect-requires-6
unfolding register_in_range setup_delay register_of
expect-requires-6 c = eq-eqb c.start.result 2 c.start.ensures

pub expect-requires-7 : goal.expect-requires-7
unfolding register_in_range setup_delay register_of
expect-requires-7 c = eq-eqb c.start-2.result 60000 c.start-2.ensures
