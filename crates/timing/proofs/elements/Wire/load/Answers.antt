use mathlib.Core.Path.{refl}
use Rattle.timing.specs.Formulas.{wire_load}
use Rattle.timing.proofs.elements.Wire.load.Goals as goal

pub returns : goal.returns
unfolding wire_load
returns c = refl
