use mathlib.Core.Path.{◌∙◌}
use mir.Syntax.{w32}
use mir.Facts.{to_z-of_z}
use Rattle.timing.proofs.elements.Register.slack.Goals as goal

pub closing-requires : goal.closing-requires
closing-requires c = (c.requires.0, c.requires.1.1)

pub returns : goal.returns
returns c =
    to_z-of_z {w = w32} {z = c.slack.result} (record { sfits = c.slack.type_inv }) ∙ rw c.closing.ensures at c.slack.ensures
