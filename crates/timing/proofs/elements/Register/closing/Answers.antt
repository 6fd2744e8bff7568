-- The gate's delay, then twice the skew.
use Rattle.std.proofs.Common.{arith}
use Rattle.timing.specs.Formulas.{register_driver}
use Rattle.timing.proofs.Bounds.{gate-delay-max}
use Rattle.timing.proofs.Skew.{skew-paid}
use Rattle.timing.proofs.elements.Register.closing.Goals as goal

pub plus-requires : goal.plus-requires
plus-requires c =
    omega (arith, c.after.ensures, gate-delay-max c.args.self.driver c.args.load.0 c.requires.0.driver c.requires.1.1.0)

pub returns : goal.returns
unfolding register_driver
returns c =
    omega (arith, c.plus.ensures, c.after.ensures, skew-paid c.args.skew (register_driver c.args.self) c.args.load.0)
