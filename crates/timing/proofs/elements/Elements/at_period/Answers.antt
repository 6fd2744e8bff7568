use mathlib.Core.Path.{refl}
use Rattle.timing.specs.Relaxed.{at_period}
use Rattle.timing.proofs.elements.Elements.at_period.Goals as goal

pub returns : goal.returns
unfolding at_period
returns c = refl
