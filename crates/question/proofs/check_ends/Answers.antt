-- Refusal 5, or the problem.
use Rattle.std.proofs.Common.{sym, ◌∙◌}
use Rattle.question.specs.Checked.{checked_as}
use Rattle.question.proofs.check_ends.Goals as goal

pub returns-then-ends_fault : goal.returns-then-ends_fault
unfolding checked_as
returns-then-ends_fault c = rw (sym c.ends_fault.ensures ∙ c.if-ends_fault.true)

pub returns : goal.returns
unfolding checked_as
returns c = rw (sym c.ends_fault.ensures ∙ c.if-ends_fault.false)
