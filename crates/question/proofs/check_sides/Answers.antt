-- The refusal of the plan's fault, or none.
use Rattle.std.proofs.Common.{sym, ◌∙◌}
use Rattle.std.proofs.lemmas.Result.{err_from_is_err_and}
use Rattle.question.specs.Question.{after_plan}
use Rattle.question.specs.Checked.{checked_as}
use Rattle.question.proofs.Checks.{plan-told}
use Rattle.question.proofs.check_sides.Goals as goal

pub returns-in_err-check_plan : goal.returns-in_err-check_plan
returns-in_err-check_plan c =
    let p = err_from_is_err_and c.from_residual.result c.from_residual.ensures.1 in
    rw (p.1, p.2, ← c.in_err-check_plan.ensures) (plan-told _)

pub returns : goal.returns
unfolding after_plan checked_as
returns c = rw (← c.in_ok-check_plan.ensures)
