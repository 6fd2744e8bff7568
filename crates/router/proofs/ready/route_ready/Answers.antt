-- `router::ready::route_ready` meets its contract: the search, then the route, 7 or 8.
use Prim.Native.Nat.{◌*◌}
use mathlib.Core.Path.{refl, ◌∙◌}
use native.Mathlib.Omega.{arith}
use lib.ListN.{length}
use Rattle.layout.specs.Layout.{cell_words}
use Rattle.problem.proofs.Sizes.{few-cells}
use Rattle.router.proofs.Splice.{zeroed-is, zeroed-kept}
use Rattle.router.proofs.BestRoute.{best-is-none}
use Rattle.router.proofs.Outcomes.{done_none}
use Rattle.router.proofs.OneClock.{one-rest, net-ready, net-costed, one_side, one-searched}
use Rattle.router.proofs.Searched.{reached-sink, reached-nothing}
use Rattle.router.proofs.ready.route_ready.Goals as goal

pub search_anew-requires : goal.search_anew-requires
search_anew-requires c =
    let one = c.one_clock-net.ensures in
    (net-ready _ _ one _ c.requires.0, (c.requires.1.0, (one_side _ _ one _ _, net-costed _ _ one _ c.requires.1.1)))

pub write_route-requires : goal.write_route-requires
write_route-requires c =
    (c.requires.0, (omega (arith, c.requires.1.0, c.search_anew.ensures.same), (reached-sink (rw c.in-Sink.is at (one-searched _ _ c.one_clock-net.ensures _ c.search_anew.ensures).done), c.requires.1.1)))

pub returns-in-Sink : goal.returns-in-Sink
returns-in-Sink c =
    let w = c.write_route.ensures in
    let n = length c.args.plan.now in
    record {
      answer = w.answer;
      zero-words = w.zero-words ∙ zeroed-kept (n * cell_words) (n * cell_words) c.args.scratch.now _ (omega arith) c.search_anew.ensures.same (one-rest c.search_anew.ensures.beyond);
      filled = w.filled;
    }

pub overflow_mul-plan : goal.overflow_mul-plan
overflow_mul-plan c = omega (arith, few-cells _ _ c.requires.0)

pub clear-requires : goal.clear-requires
clear-requires c =
    (omega arith, omega (arith, c.requires.1.0, c.search_anew.ensures.same))

pub shape_of-scratch-in-Nothing : goal.shape_of-scratch-in-Nothing
shape_of-scratch-in-Nothing c = c.clear.ensures.same ∙ c.search_anew.ensures.same

pub returns-in-Nothing : goal.returns-in-Nothing
returns-in-Nothing c =
    let n = length c.args.plan.now in
    done_none _ _ _ _ _
    (zeroed-is (n * cell_words) (n * cell_words) c.args.scratch.now _ _ (omega arith) c.requires.1.0 c.search_anew.ensures.same (one-rest c.search_anew.ensures.beyond) c.clear.ensures)
    (best-is-none _ _ c.requires.0 ((reached-nothing (rw c.in-Nothing.is at (one-searched _ _ c.one_clock-net.ensures _ c.search_anew.ensures).done)).none refl))
