use mathlib.Core.Path.{refl}
use Rattle.timing.specs.Formulas.{register_driver}
use Rattle.timing.proofs.elements.Register.driver.Goals as goal

pub returns : goal.returns
unfolding register_driver
returns c = refl
