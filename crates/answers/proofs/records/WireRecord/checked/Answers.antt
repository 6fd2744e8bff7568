use Rattle.timing.specs.Elements.{checked_wire}
use Rattle.answers.specs.Tables.{wire_ok, wire_from}
use Rattle.answers.proofs.records.WireRecord.checked.Goals as goal

pub returns : goal.returns
unfolding wire_ok wire_from checked_wire
returns c = c.checked.ensures
