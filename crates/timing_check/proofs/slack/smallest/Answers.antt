-- Each check is what the definition computes to. Signed numbers are compared by their 32 bits.
use mathlib.Core.Path.{ap}
use borrow.Author.Tests.{eq-eqb}
use mir.Syntax.{w32}
use mir.Val.{of_z}
use Rattle.timing.specs.Slack.{smaller}
use Rattle.timing_check.proofs.slack.smallest.Goals as goal

pub expect-requires : goal.expect-requires
unfolding smaller
expect-requires c = eq-eqb (of_z w32 c.smaller_slack.result) 0 (ap (of_z w32) c.smaller_slack.ensures)

pub expect-requires-2 : goal.expect-requires-2
unfolding smaller
expect-requires-2 c = eq-eqb (of_z w32 c.smaller_slack-2.result) 4294967295 (ap (of_z w32) c.smaller_slack-2.ensures)

pub expect-requires-3 : goal.expect-requires-3
unfolding smaller
expect-requires-3 c = eq-eqb (of_z w32 c.smaller_slack-3.result) 4294967294 (ap (of_z w32) c.smaller_slack-3.ensures)
