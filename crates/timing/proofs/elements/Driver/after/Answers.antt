-- A driver's delay is at most 34130 half-ticks, so the sum fits.
use native.Mathlib.Omega.{arith}
use Rattle.timing.proofs.Bounds.{gate-delay-max}
use Rattle.timing.proofs.elements.Driver.after.Goals as goal

pub plus-requires : goal.plus-requires
plus-requires c = omega (arith, c.delay.ensures, gate-delay-max c.args.self c.args.load.0 c.requires.0 (omega arith))
