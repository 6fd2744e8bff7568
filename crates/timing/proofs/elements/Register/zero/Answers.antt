use mathlib.Core.Path.{refl}
use Rattle.timing.specs.Elements.{register_of, driver_of}
use Rattle.timing.proofs.elements.Register.zero.Goals as goal

pub returns : goal.returns
unfolding register_of driver_of
returns c = refl
