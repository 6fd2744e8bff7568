use Rattle.std.proofs.Common.{arith}
use Rattle.timing.proofs.Bounds.{wire-delay-max}
use Rattle.costs.specs.Costs.{step_cost}
use Rattle.costs.proofs.fn.step_row.cost.Goals as goal

pub overflow_cast-delay : goal.overflow_cast-delay
overflow_cast-delay c =
    omega (arith, c.delay-delay.ensures, wire-delay-max c.captures.wire c.args.l c.requires.1 (omega arith))

pub returns : goal.returns
unfolding step_cost
returns c = rw (← c.load.ensures, ← c.delay-delay.ensures) c.limited.ensures
