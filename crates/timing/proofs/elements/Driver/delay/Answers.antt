use mathlib.Core.Path.{refl}
use native.Mathlib.Omega.{arith}
use Rattle.timing.specs.Formulas.{gate_delay}
use Rattle.timing.proofs.Bounds.{gate-delay-max}
use Rattle.timing.proofs.elements.Driver.delay.Goals as goal

pub overflow_mul-result : goal.overflow_mul-result
unfolding gate_delay
overflow_mul-result c =
    let a = c.args in
    omega (arith, gate-delay-max a.self a.load.0 c.requires.0 c.requires.1)

pub overflow_add-result : goal.overflow_add-result
unfolding gate_delay
overflow_add-result c =
    let a = c.args in
    omega (arith, gate-delay-max a.self a.load.0 c.requires.0 c.requires.1)

pub overflow_mul-result-2 : goal.overflow_mul-result-2
unfolding gate_delay
overflow_mul-result-2 c =
    let a = c.args in
    omega (arith, gate-delay-max a.self a.load.0 c.requires.0 c.requires.1)

pub returns : goal.returns
unfolding gate_delay
returns c = refl
