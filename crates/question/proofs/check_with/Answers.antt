-- What each check tells rewrites the chain of checks, for any question with this plan and these ends.
use Rattle.std.proofs.Common.{sym, ◌∙◌, arith}
use Rattle.std.proofs.lemmas.Result.{err_from_is_err_and}
use Rattle.plan.specs.Plan.{cells}
use Rattle.plan.proofs.Check.{valid-sized, cells-most}
use Rattle.question.specs.Question.{after_plan, after_tables, cells_asked}
use Rattle.question.specs.Checked.{checked_as, checked_with}
use Rattle.question.proofs.Checks.{plan-fails, plan-passes}
use Rattle.question.proofs.check_with.Goals as goal

pub returns-in_err-check_sides : goal.returns-in_err-check_sides
unfolding checked_with checked_as
returns-in_err-check_sides c = λ t list.
    let p = err_from_is_err_and c.from_residual.result c.from_residual.ensures.1 in
    rw (p.1, p.2, plan-fails _ _ (sym c.in_err-check_sides.ensures))

pub returns-in-Some : goal.returns-in-Some
unfolding checked_with checked_as after_plan after_tables
returns-in-Some c = λ t list.
    let valid = plan-passes _ (sym c.in_ok-check_sides.ensures) in
    rw (c.in-Some.is, valid)

pub check_ends-requires : goal.check_ends-requires
unfolding cells
check_ends-requires c =
    omega (arith, cells-most _ (valid-sized _ (plan-passes _ (sym c.in_ok-check_sides.ensures))))

pub returns : goal.returns
unfolding checked_with after_plan after_tables cells_asked
returns c = λ t list.
    let valid = plan-passes _ (sym c.in_ok-check_sides.ensures) in
    c.check_ends.ensures ∙ rw (valid, c.in_default.is)
