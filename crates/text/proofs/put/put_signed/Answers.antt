-- `text::put::put_signed` meets its contract: below zero a minus sign, then the magnitude.
use mathlib.Core.Path.{◌≡◌, ap, ◌∙◌}
use mathlib.Core.List.{◌∷◌}
use native.Mathlib.Omega.{arith}
use lib.ListN.{length}
use mir.Syntax.{w32}
use mir.Val.{to_z, of_z}
use mir.ValLaws.{to_z-of_z}
use Rattle.timing.specs.Slack.{magnitude}
use Rattle.text.specs.Decimal.{decimal, signed}
use Rattle.text.proofs.Texts.{put_then, put_same, put-length, signed_below, signed-natural}
use Rattle.text.proofs.put.put_signed.Goals as goal
use Rattle.text.proofs.put.put_signed.Goals.{After-slack_magnitude-n, Else-z-lt0, Start, Then-z-lt0}

-- the test and the call read z back as it is
back : (c : Start) → to_z w32 (of_z w32 c.args.z) ≡ c.args.z
back c = to_z-of_z w32 c.args.z c.ranges.z

number : (c : After-slack_magnitude-n) → c.slack_magnitude-n.result ≡ magnitude c.args.z
number c = c.slack_magnitude-n.ensures ∙ ap magnitude (back (goal.at.After-slack_magnitude-n c).Start)

below : (c : Then-z-lt0) → 45 ∷ decimal c.slack_magnitude-n.result ≡ signed c.args.z
below c = rw (number (goal.at.Then-z-lt0 c).After-slack_magnitude-n) (signed_below _ (rw (back (goal.at.Then-z-lt0 c).Start) at c.if-z-lt0.true))

natural : (c : Else-z-lt0) → decimal c.slack_magnitude-n.result ≡ signed c.args.z
natural c = rw (number (goal.at.Else-z-lt0 c).After-slack_magnitude-n) (signed-natural _ (rw (back (goal.at.Else-z-lt0 c).Start) at c.if-z-lt0.false))

pub put_byte-digits-requires : goal.put_byte-digits-requires
put_byte-digits-requires c = omega (arith, ap length (below (goal.at.put_byte-digits-requires c).Then-z-lt0))

pub put_decimal-requires : goal.put_decimal-requires
put_decimal-requires c = omega (arith, ap length (below (goal.at.put_decimal-requires c).Then-z-lt0), put-length c.put_byte-digits.ensures, c.put_byte-digits.ensures.next)

pub returns-then-z-lt0 : goal.returns-then-z-lt0
returns-then-z-lt0 c = put_same (below (goal.at.returns-then-z-lt0 c).Then-z-lt0) (put_then c.put_byte-digits.ensures c.put_decimal.ensures)

pub put_decimal-requires-2 : goal.put_decimal-requires-2
put_decimal-requires-2 c = omega (arith, ap length (natural (goal.at.put_decimal-requires-2 c).Else-z-lt0))

pub returns : goal.returns
returns c = put_same (natural (goal.at.returns c).Else-z-lt0) c.put_decimal-2.ensures
