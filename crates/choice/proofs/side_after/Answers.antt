-- One more after the FIFO's code.
use Rattle.std.proofs.Common.{sym, add-one}
use Rattle.rules.proofs.View.{side-fifo, side_same}
use Rattle.choice.proofs.side_after.Goals as goal

pub returns-then-code-eq8 : goal.returns-then-code-eq8
returns-then-code-eq8 c = rw (side-fifo _ _ c.if-code-eq8.true) (add-one _)

pub returns-else-code-eq8 : goal.returns-else-code-eq8
returns-else-code-eq8 c = sym (side_same _ _ c.if-code-eq8.false)
