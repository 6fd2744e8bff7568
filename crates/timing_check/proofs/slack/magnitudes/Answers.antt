-- Each check is what the definition computes to.
use borrow.Author.Tests.{eq-eqb}
use Rattle.timing_check.proofs.slack.magnitudes.Goals as goal

pub expect-requires : goal.expect-requires
expect-requires c = eq-eqb c.slack_magnitude.result 0 c.slack_magnitude.ensures

pub expect-requires-2 : goal.expect-requires-2
expect-requires-2 c = eq-eqb c.slack_magnitude-2.result 1 c.slack_magnitude-2.ensures

pub expect-requires-3 : goal.expect-requires-3
expect-requires-3 c = eq-eqb c.slack_magnitude-3.result 2147483647 c.slack_magnitude-3.ensures

pub expect-requires-4 : goal.expect-requires-4
expect-requires-4 c = eq-eqb c.slack_magnitude-4.result 2147483648 c.slack_magnitude-4.ensures
