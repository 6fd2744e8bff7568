use mathlib.Core.Path.{refl}
use Rattle.timing.specs.Formulas.{buffer_load}
use Rattle.timing.proofs.elements.Buffer.load.Goals as goal

pub returns : goal.returns
unfolding buffer_load
returns c = refl
