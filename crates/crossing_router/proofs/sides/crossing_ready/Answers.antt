-- `crossing_router::sides::crossing_ready` meets its contract: the source's side, the sink's, then the route, 7 or 8.
use Prim.Native.Nat.{◌*◌}
use mathlib.Core.Path.{◌≡◌, refl, ◌∙◌}
use native.Mathlib.Omega.{arith}
use lib.ListN.{length}
use Rattle.layout.specs.Layout.{crossing_words}
use Rattle.rows.specs.Words.{KeptFrom}
use Rattle.problem.proofs.Sizes.{few-cells}
use Rattle.router.proofs.Splice.{zeroed-is, zeroed-kept}
use Rattle.router.proofs.Searched.{reached-sink, reached-nothing}
use Rattle.crossing_router.proofs.FarSide.{aside-kept}
use Rattle.crossing_router.proofs.BestCrossing.{best-is-none}
use Rattle.crossing_router.proofs.Outcomes.{done_none}
use Rattle.crossing_router.proofs.sides.crossing_ready.Goals as goal
use Rattle.crossing_router.proofs.sides.crossing_ready.Goals.{After-search_anew}

-- both searches keep the words past their own
same : (c : After-search_anew) → length c.search_anew.new.scratch ≡ length c.args.scratch.now
same c = c.search_anew.ensures.same ∙ c.search_far-far.ensures.same

kept : (c : After-search_anew) → KeptFrom (length c.args.plan.now * crossing_words) c.args.scratch.now c.search_anew.new.scratch
kept c i h = c.search_anew.ensures.beyond.rest i (omega arith) ∙ c.search_far-far.ensures.rest i h

pub search_anew-requires : goal.search_anew-requires
search_anew-requires c =
    let far = c.search_far-far.ensures in
    (c.requires.ready, (omega (arith, c.requires.room, far.same), (far.asks, c.requires.costed)))

pub write_crossing-requires : goal.write_crossing-requires
write_crossing-requires c =
    let found = c.search_anew.ensures in (
      record { ready = c.requires.ready; two = c.requires.two; room = omega (arith, c.requires.room, same (goal.at.write_crossing-requires c).After-search_anew); costed = c.requires.costed },
      (reached-sink (rw c.in-Sink.is at found.done), aside-kept c.search_far-far.ensures.aside found.same found.beyond.rest),
    )

pub returns-in-Sink : goal.returns-in-Sink
returns-in-Sink c =
    let w = c.write_crossing.ensures in
    let n = length c.args.plan.now in
    record {
      answer = w.answer;
      zero-words = w.zero-words ∙ zeroed-kept (n * crossing_words) (n * crossing_words) c.args.scratch.now _ (omega arith) (same (goal.at.returns-in-Sink c).After-search_anew) (kept (goal.at.returns-in-Sink c).After-search_anew);
      filled = w.filled;
    }

pub overflow_mul-plan : goal.overflow_mul-plan
overflow_mul-plan c = omega (arith, few-cells _ _ c.requires.ready.ready)

pub clear-requires : goal.clear-requires
clear-requires c = (omega arith, omega (arith, c.requires.room, same (goal.at.clear-requires c).After-search_anew))

pub shape_of-scratch-in-Nothing : goal.shape_of-scratch-in-Nothing
shape_of-scratch-in-Nothing c = c.clear.ensures.same ∙ same (goal.at.shape_of-scratch-in-Nothing c).After-search_anew

pub returns-in-Nothing : goal.returns-in-Nothing
returns-in-Nothing c =
    let n = length c.args.plan.now in
    done_none _ _ _ _ _
    (zeroed-is (n * crossing_words) (n * crossing_words) c.args.scratch.now _ _ (omega arith) c.requires.room (same (goal.at.returns-in-Nothing c).After-search_anew) (kept (goal.at.returns-in-Nothing c).After-search_anew) c.clear.ensures)
    (best-is-none _ _ c.requires.ready c.requires.two ((reached-nothing (rw c.in-Nothing.is at c.search_anew.ensures.done)).none refl))
