-- The two periods, then what follows them.
use Rattle.std.proofs.Common.{sym, ◌∙◌}
use Rattle.answers.specs.Crossing.{checked_crossing, checked_elements, crossing_fault}
use Rattle.answers.proofs.tables.check_crossing.Goals as goal

pub returns-then-not-period_in_range : goal.returns-then-not-period_in_range
unfolding checked_crossing crossing_fault
returns-then-not-period_in_range c = simp (sym c.period_in_range.ensures ∙ c.if-not-period_in_range.true)

pub returns-then-not-period_in_range-2 : goal.returns-then-not-period_in_range-2
unfolding checked_crossing crossing_fault
returns-then-not-period_in_range-2 c =
    simp (sym c.period_in_range.ensures ∙ c.if-not-period_in_range.false, sym c.period_in_range-2.ensures ∙ c.if-not-period_in_range-2.true)

pub returns : goal.returns
unfolding checked_crossing checked_elements crossing_fault
returns c =
    c.check_elements.ensures ∙ simp (sym c.period_in_range.ensures ∙ c.if-not-period_in_range.false, sym c.period_in_range-2.ensures ∙ c.if-not-period_in_range-2.false)
