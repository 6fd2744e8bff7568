use Rattle.timing.specs.Elements.{checked_buffer}
use Rattle.answers.specs.Tables.{buffer_ok, buffer_from}
use Rattle.answers.proofs.records.BufferRecord.checked.Goals as goal

pub returns : goal.returns
unfolding buffer_ok buffer_from checked_buffer
returns c = c.checked.ensures
