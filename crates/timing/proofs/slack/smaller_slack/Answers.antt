-- The test reads both figures back as they are.
use mir.Syntax.{w32}
use mir.ValLaws.{to_z-of_z}
use Rattle.timing.specs.Slack.{smaller}
use Rattle.timing.proofs.slack.smaller_slack.Goals as goal

pub returns-then-b-a : goal.returns-then-b-a
unfolding smaller
returns-then-b-a c =
    simp (to_z-of_z w32 c.args.b c.ranges.b, rw (to_z-of_z w32 c.args.a c.ranges.a, to_z-of_z w32 c.args.b c.ranges.b) at c.if-b-a.true)

pub returns-else-b-a : goal.returns-else-b-a
unfolding smaller
returns-else-b-a c =
    simp (to_z-of_z w32 c.args.a c.ranges.a, rw (to_z-of_z w32 c.args.a c.ranges.a, to_z-of_z w32 c.args.b c.ranges.b) at c.if-b-a.false)
