-- `router::checks::route` meets its contract: refusals 1 to 5, then 6, or the route.
use Rattle.std.proofs.Common.{sym, arith}
use Rattle.problem.proofs.Sizes.{few-cells}
use Rattle.question.proofs.Checks.{told-fails, told-passes, passed-ready}
use Rattle.router.specs.Route.{passes}
use Rattle.router.proofs.Refusals.{refused, refused-five, refused-scratch, routed}
use Rattle.router.proofs.checks.route_asked.Goals as goal

pub returns-in-Err : goal.returns-in-Err
returns-in-Err c = refused _ _ _ _ (refused-five _ c.args.scratch.now c.args.visits.now _ (told-fails _ (sym c.in-Err.ensures)))

pub overflow_mul-plan : goal.overflow_mul-plan
overflow_mul-plan c = omega (arith, few-cells _ _ (passed-ready _ passes (told-passes _ (sym c.in-Ok.ensures)).0))

pub returns-in-Ok : goal.returns-in-Ok
returns-in-Ok c =
    refused _ _ _ _ (refused-scratch _ c.args.scratch.now c.args.visits.now (told-passes _ (sym c.in-Ok.ensures)).0 c.if-scratch-plan.true)

pub costs_of-costs-requires : goal.costs_of-costs-requires
costs_of-costs-requires c =
    let f = told-passes _ (sym c.in-Ok.ensures) in
    let valid = (passed-ready _ passes f.0).valid in
    rw f.1 (valid, valid.register)

pub route_ready-requires : goal.route_ready-requires
route_ready-requires c =
    let f = told-passes _ (sym c.in-Ok.ensures) in
    (rw f.1 (passed-ready _ passes f.0), (c.if-scratch-plan.false, c.costs_of-costs.ensures))

pub returns-in-Ok-2 : goal.returns-in-Ok-2
returns-in-Ok-2 c =
    let f = told-passes _ (sym c.in-Ok.ensures) in
    routed _ _ _ f.0 c.if-scratch-plan.false _ _ _ (rw f.1 at c.route_ready.ensures)
