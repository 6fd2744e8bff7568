use mathlib.Core.Path.{refl}
use Rattle.timing.specs.Formulas.{setup_delay}
use Rattle.timing.proofs.elements.Register.start_delay.Goals as goal

pub returns : goal.returns
unfolding setup_delay
returns c = refl
