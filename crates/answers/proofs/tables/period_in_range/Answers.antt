-- The two bounds are those of `period_in_range`.
use borrow.Author.Tests.{le-leb, lt-leb}
use Rattle.answers.specs.Tables.{period_in_range}
use Rattle.answers.proofs.tables.period_in_range.Goals as goal

pub returns-then-period-ge-PERIOD_MIN : goal.returns-then-period-ge-PERIOD_MIN
unfolding period_in_range
returns-then-period-ge-PERIOD_MIN c = simp (le-leb _ _ c.if-period-ge-PERIOD_MIN.true)

pub returns-else-period-ge-PERIOD_MIN : goal.returns-else-period-ge-PERIOD_MIN
unfolding period_in_range
returns-else-period-ge-PERIOD_MIN c = simp (lt-leb _ _ c.if-period-ge-PERIOD_MIN.false)
