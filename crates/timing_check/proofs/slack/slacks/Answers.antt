-- Each check is what the definition computes to. Signed numbers are compared by their 32 bits.
use mathlib.Core.Path.{ap}
use borrow.Author.Tests.{eq-eqb}
use mir.Syntax.{w32}
use mir.Val.{of_z}
use Rattle.timing.specs.Slack.{slack_of}
use Rattle.timing_check.proofs.slack.slacks.Goals as goal

pub expect-requires : goal.expect-requires
unfolding slack_of
expect-requires c = eq-eqb (of_z w32 c.slack.result) 60000 (ap (of_z w32) c.slack.ensures)

pub expect-requires-2 : goal.expect-requires-2
unfolding slack_of
expect-requires-2 c = eq-eqb (of_z w32 c.slack-2.result) 0 (ap (of_z w32) c.slack-2.ensures)

pub expect-requires-3 : goal.expect-requires-3
unfolding slack_of
expect-requires-3 c = eq-eqb (of_z w32 c.slack-3.result) 4294967295 (ap (of_z w32) c.slack-3.ensures)

pub expect-requires-4 : goal.expect-requires-4
unfolding slack_of
expect-requires-4 c = eq-eqb (of_z w32 c.slack-4.result) 4294967294 (ap (of_z w32) c.slack-4.ensures)

pub expect-requires-5 : goal.expect-requires-5
unfolding slack_of
expect-requires-5 c = eq-eqb (of_z w32 c.slack-5.result) 3294967297 (ap (of_z w32) c.slack-5.ensures)

pub expect-requires-6 : goal.expect-requires-6
unfolding slack_of
expect-requires-6 c = eq-eqb (of_z w32 c.slack-6.result) 3294967296 (ap (of_z w32) c.slack-6.ensures)

pub expect-requires-7 : goal.expect-requires-7
unfolding slack_of
expect-requires-7 c = eq-eqb (of_z w32 c.slack-7.result) 3294967296 (ap (of_z w32) c.slack-7.ensures)

pub expect-requires-8 : goal.expect-requires-8
unfolding slack_of
expect-requires-8 c = eq-eqb (of_z w32 c.slack-8.result) 3294967296 (ap (of_z w32) c.slack-8.ensures)
