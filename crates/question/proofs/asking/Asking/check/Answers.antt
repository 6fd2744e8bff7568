-- What each check tells rewrites the chain of checks.
use Rattle.std.proofs.Common.{sym, ◌∙◌, arith}
use Rattle.std.proofs.lemmas.Result.{err_from_is_err_and}
use Rattle.plan.specs.Plan.{cells}
use Rattle.plan.proofs.Check.{valid-sized, cells-most}
use Rattle.answers.specs.Tables.{checked_tables}
use Rattle.answers.proofs.Made.{found-fault, found-none}
use Rattle.question.specs.Question.{after_plan, after_tables, cells_asked, question_checks}
use Rattle.question.specs.Checked.{checked_as, checked_question, problem_asked}
use Rattle.question.proofs.Checks.{plan-fails, plan-passes}
use Rattle.question.proofs.asking.Asking.check.Goals as goal

pub returns-in_err-check_sides : goal.returns-in_err-check_sides
unfolding checked_question question_checks checked_as
returns-in_err-check_sides c =
    let p = err_from_is_err_and c.from_residual.result c.from_residual.ensures.1 in
    rw (p.1, p.2, plan-fails _ _ (sym c.in_err-check_sides.ensures))

pub returns-in_err-elements : goal.returns-in_err-elements
unfolding checked_question question_checks checked_as checked_tables after_plan after_tables
returns-in_err-elements c =
    let p = err_from_is_err_and c.from_residual-in_err-elements.result c.from_residual-in_err-elements.ensures.1 in
    let valid = plan-passes _ (sym c.in_ok-check_sides.ensures) in
    let found = found-fault _ _ (sym c.in_err-elements.ensures) in
    rw (p.1, p.2, valid, found)

pub check_ends-requires : goal.check_ends-requires
unfolding cells
check_ends-requires c =
    omega (arith, cells-most _ (valid-sized _ (plan-passes _ (sym c.in_ok-check_sides.ensures))))

pub returns : goal.returns
unfolding checked_question question_checks checked_tables after_plan after_tables problem_asked cells_asked
returns c =
    let valid = plan-passes _ (sym c.in_ok-check_sides.ensures) in
    let found = found-none _ _ (sym c.in_ok-elements.ensures) in
    c.check_ends.ensures ∙ rw (valid, found.0, found.1)
