-- The record of `tables_with`.
use Rattle.timing_check.specs.Faults.{tables_with}
use mathlib.Core.Path.{refl}
use Rattle.timing_check.proofs.fault.tables.Goals as goal

pub returns : goal.returns
unfolding tables_with
returns c = refl
