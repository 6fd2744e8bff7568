use mathlib.Core.Path.{refl}
use native.Mathlib.Omega.{arith}
use Rattle.timing.specs.Formulas.{wire_delay}
use Rattle.timing.proofs.Bounds.{wire-delay-max}
use Rattle.timing.proofs.elements.Wire.delay.Goals as goal

pub overflow_mul-result-2 : goal.overflow_mul-result-2
unfolding wire_delay
overflow_mul-result-2 c =
    let a = c.args in
    omega (arith, wire-delay-max a.self a.load.0 c.requires.0 c.requires.1)

pub returns : goal.returns
unfolding wire_delay
returns c = refl
