-- The delay of the driver of the buffer that the constructor made.
use mathlib.Core.Path.{◌≡◌, sym, ◌∙◌}
use mathlib.Core.Bool.{true}
use Rattle.timing.specs.Elements.{buffer_in_range, buffer_of}
use Rattle.timing.specs.Formulas.{buffer_driver}
use Rattle.timing.proofs.Checked.{buffer-valid, buffer-out, buffer-in}
use Rattle.timing_check.proofs.delay.gate.Goals as goal
use Rattle.timing_check.proofs.delay.gate.Goals.{In-Some}

-- the buffer, and that it is in range
made : (c : In-Some) → (buffer_in_range c.args.resistance c.args.delay 0 ≡ true) × (c.in-Some.buffer ≡ buffer_of c.args.resistance c.args.delay 0)
made c = buffer-valid _ _ _ _ (sym c.checked.ensures ∙ c.in-Some.is)

pub returns-in_default : goal.returns-in_default
returns-in_default c = simp (buffer-out _ _ _ (sym c.checked.ensures ∙ c.in_default.is))

pub delay-requires : goal.delay-requires
unfolding buffer_driver
delay-requires c =
    let m = made (goal.at.delay-requires c).In-Some in
    (rw (c.driver.ensures, m.1) (buffer-in _ _ _ m.0).driver, c.requires)

pub returns : goal.returns
returns c = c.delay.ensures ∙ simp (c.driver.ensures, (made (goal.at.returns c).In-Some).1, (made (goal.at.returns c).In-Some).0)
