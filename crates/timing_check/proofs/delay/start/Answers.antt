-- The start delay of the register that the constructor made.
use mathlib.Core.Path.{◌≡◌, sym, ◌∙◌}
use mathlib.Core.Bool.{true}
use Rattle.timing.specs.Elements.{register_in_range, register_of}
use Rattle.timing.proofs.Checked.{register-valid, register-out, register-in}
use Rattle.timing_check.proofs.delay.start.Goals as goal
use Rattle.timing_check.proofs.delay.start.Goals.{In-Some}

-- the register, and that it is in range
made : (c : In-Some) → (register_in_range 0 0 0 c.args.setup ≡ true) × (c.in-Some.register ≡ register_of 0 0 0 c.args.setup)
made c = register-valid _ _ _ _ _ (sym c.checked.ensures ∙ c.in-Some.is)

pub returns-in_default : goal.returns-in_default
returns-in_default c = simp (register-out _ _ _ _ (sym c.checked.ensures ∙ c.in_default.is))

pub start_delay-requires : goal.start_delay-requires
start_delay-requires c = rw (made c).1 (register-in _ _ _ _ (made c).0)

pub returns : goal.returns
returns c = c.start_delay.ensures ∙ simp ((made (goal.at.returns c).In-Some).1, (made (goal.at.returns c).In-Some).0)
