-- What refusals 1 and 2 leave is `Sized`.
use Rattle.std.proofs.Common.{sym, ◌∙◌}
use borrow.Author.Tests.{eq-eqb}
use Rattle.plan.specs.Plan.{cells}
use Rattle.plan.specs.Check.{length_fault}
use Rattle.plan.proofs.Check.{sized}
use Rattle.plan.proofs.check_plan.Goals as goal

pub mark_fault-requires : goal.mark_fault-requires
unfolding length_fault cells
mark_fault-requires c = sized _ (sym c.grid_fault.ensures ∙ c.if-grid_fault.false) (simp (eq-eqb _ _ c.if-plan-width.false))
