-- `router::ready::write_route` meets its contract: the figures are those of the best route, written or not.
use mathlib.Core.Path.{◌≡◌}
use native.Mathlib.Omega.{arith}
use mir.Facts.{to_z-of_z}
use mir.Syntax.{w32}
use mir.Val.{to_z, of_z}
use Rattle.rules.specs.Ranking.{registers}
use Rattle.problem.specs.Problem.{rules_for}
use Rattle.problem.proofs.Sizes.{few-cells}
use Rattle.emission.proofs.BestMade.{made-best}
use Rattle.router.proofs.OneClock.{net-ready, net-costed, one-reaching, one_written}
use Rattle.router.proofs.BestRoute.{BestIs, best-is, sink-in, cost}
use Rattle.router.proofs.Outcomes.{done-no-room, done-found}
use Rattle.router.proofs.ready.write_route.Goals as goal
use Rattle.router.proofs.ready.write_route.Goals.{After-struct_told-1, Start}

-- the best route, by what holds at the entry
best-at : (s : Start) → BestIs (rules_for s.args.p s.args.plan.now) s.args.p.elements.period s.args.weight s.args.steps
best-at s = best-is _ _ s.requires.0 _ _ _ _ _ _ s.requires.1.1.0

-- the figure as it was returned
figure : (c : After-struct_told-1) → let r = c.write_out-written.result in to_z w32 (of_z w32 r.told.slack) ≡ r.told.slack
figure c = to_z-of_z {w = w32} (record { sfits = omega (arith, c.write_out-written.type_inv) })

pub overflow_add-latency : goal.overflow_add-latency
overflow_add-latency c = omega (arith, (best-at (goal.at.overflow_add-latency c).Start).registers_fit)

pub overflow_mul-latency : goal.overflow_mul-latency
overflow_mul-latency c = omega (arith, (best-at (goal.at.overflow_mul-latency c).Start).latency_fits)

pub overflow_mul-plan : goal.overflow_mul-plan
overflow_mul-plan c = omega (arith, few-cells _ _ c.requires.0)

pub write_out-written-requires : goal.write_out-written-requires
write_out-written-requires c =
    let one = c.one_clock-net.ensures in
    record {
      ready = net-ready _ _ one _ c.requires.0;
      costed = net-costed _ _ one _ c.requires.1.1.1;
      reaching = one-reaching _ _ one _ c.requires.1.1.0;
      ahead = λ h. absurd (omega arith);
      own = omega arith;
      within = c.requires.1.0;
    }

pub overflow_cast-figures : goal.overflow_cast-figures
overflow_cast-figures c = omega (arith, (best-at (goal.at.overflow_cast-figures c).Start).registers_fit)

pub returns-then-written : goal.returns-then-written
returns-then-written c =
    let b = best-at (goal.at.returns-then-written c).Start in
    let w = one_written _ _ c.one_clock-net.ensures _ c.write_out-written.ensures in
    rw (figure (goal.at.returns-then-written c).After-struct_told-1) (done-found _ _ _ _ _ _ _ _ b _ w (made-best w.is_first c.requires.1.1.0.least (sink-in _ _ c.requires.0) registers 1 (cost _ _ c.requires.0) b.route b.is_best) c.if-written.true)

pub returns-else-written : goal.returns-else-written
returns-else-written c =
    let b = best-at (goal.at.returns-else-written c).Start in
    let w = one_written _ _ c.one_clock-net.ensures _ c.write_out-written.ensures in
    rw (figure (goal.at.returns-else-written c).After-struct_told-1) (done-no-room _ _ _ _ _ _ _ _ b _ w (made-best w.is_first c.requires.1.1.0.least (sink-in _ _ c.requires.0) registers 1 (cost _ _ c.requires.0) b.route b.is_best) c.if-written.false)
