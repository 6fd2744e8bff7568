use mathlib.Core.Path.{refl}
use Rattle.timing.specs.Formulas.{register_load}
use Rattle.timing.proofs.elements.Register.load.Goals as goal

pub returns : goal.returns
unfolding register_load
returns c = refl
