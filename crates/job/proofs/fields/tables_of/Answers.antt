-- `job::fields::tables_of` meets its contract: eleven words in the order of the fields.
use mathlib.Core.Path.{refl}
use Rattle.job.specs.Fields.{tables_of}
use Rattle.job.proofs.fields.tables_of.Goals as goal

pub returns : goal.returns
unfolding tables_of
returns c = refl
