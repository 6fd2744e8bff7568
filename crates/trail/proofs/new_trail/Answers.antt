-- `trail::new_trail`: the words of both stretches, by the words of a slot.
use Rattle.std.proofs.Common.{refl}
use Rattle.trail.specs.Trail.{slots_of}
use Rattle.trail.proofs.new_trail.Goals as goal

pub returns : goal.returns
unfolding slots_of
returns c = refl
