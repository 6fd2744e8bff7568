use Rattle.std.proofs.Common.{arith}
use Rattle.timing.proofs.Bounds.{gate-delay-max}
use Rattle.costs.specs.Costs.{gate_cost}
use Rattle.costs.proofs.fn.gate_row.cost.Goals as goal

pub overflow_cast-delay : goal.overflow_cast-delay
overflow_cast-delay c =
    omega (arith, c.delay.ensures, gate-delay-max c.captures.driver c.args.l c.requires.1 (omega arith))

pub returns : goal.returns
unfolding gate_cost
returns c = rw (← c.delay.ensures) c.limited.ensures
