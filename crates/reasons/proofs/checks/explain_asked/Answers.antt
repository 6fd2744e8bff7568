-- Refusals 1 to 5, then 6, or the answer.
use Rattle.std.proofs.Common.{[], sym, arith}
use Rattle.std.proofs.lemmas.Result.{err_from_is_err_and}
use Rattle.problem.proofs.Sizes.{few-cells}
use Rattle.question.proofs.Checks.{told-fails, told-passes, passed-ready}
use Rattle.router.specs.Route.{passes}
use Rattle.router.proofs.Refusals.{refused-five, refused-scratch}
use Rattle.reasons.proofs.Refusals.{refused, explained}
use Rattle.reasons.proofs.checks.explain_asked.Goals as goal

pub returns-in_err-p : goal.returns-in_err-p
returns-in_err-p c =
    let p = err_from_is_err_and c.from_residual.result c.from_residual.ensures.1 in
    rw (p.1, p.2) (refused _ _ _ (refused-five _ c.args.scratch.now [] _ (told-fails _ (sym c.in_err-p.ensures))))

pub overflow_mul-asking : goal.overflow_mul-asking
overflow_mul-asking c = omega (arith, few-cells _ _ (passed-ready _ passes (told-passes _ (sym c.in_ok-p.ensures)).0))

pub returns-then-scratch-asking : goal.returns-then-scratch-asking
returns-then-scratch-asking c =
    refused _ _ _ (refused-scratch _ c.args.scratch.now [] (told-passes _ (sym c.in_ok-p.ensures)).0 c.if-scratch-asking.true)

pub reason_ready-requires : goal.reason_ready-requires
reason_ready-requires c =
    let f = told-passes _ (sym c.in_ok-p.ensures) in
    (rw f.1 (passed-ready _ passes f.0), c.if-scratch-asking.false)

pub returns : goal.returns
returns c =
    let f = told-passes _ (sym c.in_ok-p.ensures) in
    explained _ _ f.0 c.if-scratch-asking.false _ _ (rw f.1 at c.reason_ready.ensures)
