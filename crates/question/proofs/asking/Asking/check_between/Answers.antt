-- What each check tells rewrites the chain of checks.
use Rattle.std.proofs.Common.{sym, arith}
use Rattle.std.proofs.lemmas.Result.{err_from_is_err_and}
use Rattle.plan.specs.Plan.{cells}
use Rattle.plan.proofs.Check.{valid-sized, cells-most}
use Rattle.answers.specs.Crossing.{checked_crossing, crossing_elements}
use Rattle.answers.proofs.Made.{found-fault, found-none}
use Rattle.question.specs.Question.{after_plan, after_tables, cells_asked}
use Rattle.question.specs.Checked.{checked_as, problem_asked}
use Rattle.question.specs.Crossing.{crossing_checks, crossing_checked}
use Rattle.question.proofs.Checks.{plan-fails, plan-passes, as-fails, as-passes}
use Rattle.question.proofs.asking.Asking.check_between.Goals as goal

pub returns-in_err-check_sides : goal.returns-in_err-check_sides
unfolding crossing_checked crossing_checks checked_as
returns-in_err-check_sides c =
    let p = err_from_is_err_and c.from_residual.result c.from_residual.ensures.1 in
    rw (p.1, p.2, plan-fails _ _ (sym c.in_err-check_sides.ensures))

pub returns-in_err-made : goal.returns-in_err-made
unfolding crossing_checked crossing_checks checked_as checked_crossing after_plan after_tables
returns-in_err-made c =
    let p = err_from_is_err_and c.from_residual-in_err-made.result c.from_residual-in_err-made.ensures.1 in
    let valid = plan-passes _ (sym c.in_ok-check_sides.ensures) in
    let found = found-fault _ _ (sym c.in_err-made.ensures) in
    rw (p.1, p.2, valid, found)

pub check_ends-requires : goal.check_ends-requires
unfolding cells
check_ends-requires c =
    omega (arith, cells-most _ (valid-sized _ (plan-passes _ (sym c.in_ok-check_sides.ensures))))

pub returns-in_err-problem : goal.returns-in_err-problem
unfolding crossing_checked crossing_checks checked_as checked_crossing after_plan after_tables cells_asked
returns-in_err-problem c =
    let p = err_from_is_err_and c.from_residual-in_err-problem.result c.from_residual-in_err-problem.ensures.1 in
    let valid = plan-passes _ (sym c.in_ok-check_sides.ensures) in
    let found = found-none _ _ (sym c.in_ok-made.ensures) in
    rw (p.1, p.2, valid, found.0, as-fails _ _ (sym c.in_err-problem.ensures))

pub returns : goal.returns
unfolding crossing_checked crossing_checks checked_as checked_crossing crossing_elements after_plan after_tables problem_asked cells_asked
returns c =
    let valid = plan-passes _ (sym c.in_ok-check_sides.ensures) in
    let found = found-none _ _ (sym c.in_ok-made.ensures) in
    let apart = as-passes _ _ (sym c.in_ok-problem.ensures) in
    rw (valid, found.0, apart.0, apart.1, found.1)
