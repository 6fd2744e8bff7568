use Rattle.timing.specs.Elements.{checked_register}
use Rattle.answers.specs.Tables.{register_ok, register_from}
use Rattle.answers.proofs.records.RegisterRecord.checked.Goals as goal

pub returns : goal.returns
unfolding register_ok register_from checked_register
returns c = c.checked.ensures
