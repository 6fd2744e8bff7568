use mathlib.Core.Path.{refl}
use Rattle.timing.specs.Formulas.{buffer_driver}
use Rattle.timing.proofs.elements.Buffer.driver.Goals as goal

pub returns : goal.returns
unfolding buffer_driver
returns c = refl
