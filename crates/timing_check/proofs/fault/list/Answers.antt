-- The record of `list_with`.
use Rattle.timing_check.specs.Faults.{list_with}
use mathlib.Core.Path.{refl}
use Rattle.timing_check.proofs.fault.list.Goals as goal

pub returns : goal.returns
unfolding list_with
returns c = refl
