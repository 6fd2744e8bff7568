-- `crossing_router::checks::route_crossing` meets its contract: refusals 1 to 5, then 6, or the route.
use Rattle.std.proofs.Common.{sym, arith}
use Rattle.problem.proofs.Sizes.{few-cells}
use Rattle.question.proofs.Crossing.{crossing-ready, crossing-told-fails}
use Rattle.crossing_router.specs.Route.{passes}
use Rattle.crossing_router.proofs.Refusals.{refused, refused-five, refused-scratch, handed-five, handed-valid, two-asks, handed-routed}
use Rattle.crossing_router.proofs.checks.route_crossing_asked.Goals as goal

pub returns-in-Err : goal.returns-in-Err
returns-in-Err c =
    refused _ _ _ _ (refused-five _ c.args.scratch.now c.args.visits.now _ (crossing-told-fails _ (sym c.in-Err.ensures)))

pub overflow_mul-plan : goal.overflow_mul-plan
overflow_mul-plan c = omega (arith, few-cells _ _ (crossing-ready _ passes (handed-five _ (sym c.in-Ok.ensures))))

pub returns-in-Ok : goal.returns-in-Ok
returns-in-Ok c =
    refused _ _ _ _ (refused-scratch _ c.args.scratch.now c.args.visits.now (handed-five _ (sym c.in-Ok.ensures)) c.if-scratch-plan.true)

pub costs_of-costs-requires : goal.costs_of-costs-requires
costs_of-costs-requires c = handed-valid _ (sym c.in-Ok.ensures)

pub crossing_ready-requires : goal.crossing_ready-requires
crossing_ready-requires c = two-asks _ (sym c.in-Ok.ensures) _ _ c.if-scratch-plan.false c.costs_of-costs.ensures

pub returns-in-Ok-2 : goal.returns-in-Ok-2
returns-in-Ok-2 c =
    handed-routed _ (sym c.in-Ok.ensures) _ _ c.if-scratch-plan.false _ _ _ c.crossing_ready.ensures
