-- Nothing waits, or the look through all that waits has said it.
use Rattle.earliest.proofs.Parts.{lines-space}
use Rattle.earliest.proofs.turns.goes_first.Goals as goal

pub none_before-requires : goal.none_before-requires
none_before-requires c = (lines-space c.requires.0, c.requires.1)
