-- `crossing_router::sides::write_crossing` meets its contract: the figures are those of the best route, written or not.
use mathlib.Core.Path.{◌≡◌, sym, ◌∙◌}
use native.Mathlib.Omega.{arith}
use mir.Facts.{to_z-of_z}
use mir.Syntax.{w32}
use mir.Val.{to_z, of_z}
use Rattle.problem.specs.Net.{net_rules}
use Rattle.problem.proofs.Sizes.{few-cells}
use Rattle.problem.proofs.Clocks.{net-weight}
use Rattle.labels.proofs.Ready.{ready-short}
use Rattle.emission.proofs.BestMade.{made-best}
use Rattle.crossing_router.proofs.BestCrossing.{cost, sink-in, best-at}
use Rattle.crossing_router.proofs.Outcomes.{done-no-room, done-found}
use Rattle.crossing_router.proofs.sides.write_crossing.Goals as goal
use Rattle.crossing_router.proofs.sides.write_crossing.Goals.{After-struct_told-1, After-weight}

-- the first span's weight
latency : (c : After-weight) → c.weight.result ≡ (net_rules c.args.net c.args.plan.now).weight 0
latency c = c.weight.ensures ∙ sym (net-weight c.args.net c.args.plan.now 0)

-- the figure as it was returned
figure : (c : After-struct_told-1) → let r = c.write_out-written.result in to_z w32 (of_z w32 r.told.slack) ≡ r.told.slack
figure c = to_z-of_z {w = w32} (record { sfits = omega (arith, c.write_out-written.type_inv) })

pub overflow_add-latency : goal.overflow_add-latency
overflow_add-latency c =
    omega (arith, latency c, (ready-short _ _ c.requires.0.ready 0 (omega arith) _ c.requires.1.0.least).1)

pub overflow_mul-plan : goal.overflow_mul-plan
overflow_mul-plan c = omega (arith, few-cells _ _ c.requires.0.ready.ready)

pub write_out-written-requires : goal.write_out-written-requires
write_out-written-requires c =
    record {
      ready = c.requires.0.ready;
      costed = c.requires.0.costed;
      reaching = c.requires.1.0;
      ahead = λ h. c.requires.1.1;
      own = omega arith;
      within = c.requires.0.room;
    }

pub returns-then-written : goal.returns-then-written
returns-then-written c =
    let b = best-at _ _ c.requires.0.ready c.requires.0.two _ _ c.requires.1.0.least in
    let w = c.write_out-written.ensures in
    rw (figure (goal.at.returns-then-written c).After-struct_told-1, c.saturating_sub.ensures, latency (goal.at.returns-then-written c).After-weight)
    (done-found _ _ _ _ _ _ _ _ b _ w (made-best w.is_first c.requires.1.0.least (sink-in _ _ c.requires.0.ready c.requires.0.two) _ 0 (cost _ _ c.requires.0.ready c.requires.0.two) b.route b.is_best) c.if-written.true)

pub returns-else-written : goal.returns-else-written
returns-else-written c =
    let b = best-at _ _ c.requires.0.ready c.requires.0.two _ _ c.requires.1.0.least in
    let w = c.write_out-written.ensures in
    rw (figure (goal.at.returns-else-written c).After-struct_told-1, c.saturating_sub.ensures, latency (goal.at.returns-else-written c).After-weight)
    (done-no-room _ _ _ _ _ _ _ _ b _ w (made-best w.is_first c.requires.1.0.least (sink-in _ _ c.requires.0.ready c.requires.0.two) _ 0 (cost _ _ c.requires.0.ready c.requires.0.two) b.route b.is_best) c.if-written.false)
