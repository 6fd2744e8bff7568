use mathlib.Core.Path.{refl}
use Rattle.timing.specs.Elements.{buffer_of, driver_of}
use Rattle.timing.proofs.elements.Buffer.zero.Goals as goal

pub returns : goal.returns
unfolding buffer_of driver_of
returns c = refl
