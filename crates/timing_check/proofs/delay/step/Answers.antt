-- The delay of the wire that the constructor made.
use mathlib.Core.Path.{◌≡◌, sym, ◌∙◌}
use mathlib.Core.Bool.{true}
use Rattle.timing.specs.Elements.{wire_in_range, wire_of}
use Rattle.timing.proofs.Checked.{wire-valid, wire-out, wire-in}
use Rattle.timing_check.proofs.delay.step.Goals as goal
use Rattle.timing_check.proofs.delay.step.Goals.{In-Some}

-- the wire, and that it is in range
made : (c : In-Some) → (wire_in_range c.args.resistance c.args.load ≡ true) × (c.in-Some.wire ≡ wire_of c.args.resistance c.args.load)
made c = wire-valid _ _ _ (sym c.checked.ensures ∙ c.in-Some.is)

pub returns-in_default : goal.returns-in_default
returns-in_default c = simp (wire-out _ _ (sym c.checked.ensures ∙ c.in_default.is))

pub delay-requires : goal.delay-requires
delay-requires c = (rw (made c).1 (wire-in _ _ (made c).0), c.requires)

pub returns : goal.returns
returns c = c.delay.ensures ∙ simp ((made (goal.at.returns c).In-Some).1, (made (goal.at.returns c).In-Some).0)
