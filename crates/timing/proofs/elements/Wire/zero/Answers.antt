use mathlib.Core.Path.{refl}
use Rattle.timing.specs.Elements.{wire_of}
use Rattle.timing.proofs.elements.Wire.zero.Goals as goal

pub returns : goal.returns
unfolding wire_of
returns c = refl
