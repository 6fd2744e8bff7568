use borrow.Author.Tests.{le-leb, lt-leb}
use Rattle.router.proofs.writing.words_for.Goals as goal

pub returns-then-need-lent : goal.returns-then-need-lent
returns-then-need-lent c = simp (le-leb _ _ c.if-need-lent.true)

pub returns-else-need-lent : goal.returns-else-need-lent
returns-else-need-lent c = simp (lt-leb _ _ c.if-need-lent.false)
