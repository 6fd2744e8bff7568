-- `reach::span::first_exit`: where there are labels of FIFOs, `first_with` in their order.
use Rattle.std.proofs.Common.{arith}
use Rattle.reach.proofs.span.first_exit.Goals as goal

pub overflow_mul-n : goal.overflow_mul-n
overflow_mul-n c = omega (arith, (c.requires c.if-exits-gt0.true).1.small)

pub first_with-requires : goal.first_with-requires
first_with-requires c = c.requires c.if-exits-gt0.true

pub returns-then-exits-gt0 : goal.returns-then-exits-gt0
returns-then-exits-gt0 c = record { within = c.first_with.ensures.within; first = λ h. c.first_with.ensures }

pub returns-else-exits-gt0 : goal.returns-else-exits-gt0
returns-else-exits-gt0 c = record { within = omega arith; first = λ h. absurd (omega (arith, c.if-exits-gt0.false)) }
