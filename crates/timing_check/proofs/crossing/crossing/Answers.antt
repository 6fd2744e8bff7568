-- The record of `crossing_with`.
use Rattle.timing_check.specs.Faults.{crossing_with}
use mathlib.Core.Path.{refl}
use Rattle.timing_check.proofs.crossing.crossing.Goals as goal

pub returns : goal.returns
unfolding crossing_with
returns c = refl
