-- `reach::layers::load_layer`: back on the trail, or the span again.
use Rattle.std.proofs.Common.{sym, ◌∙◌}
use Rattle.plan.proofs.Truth.{of-true}
use Rattle.problem.proofs.Sizes.{few-cells}
use Rattle.reach.proofs.Trailing.{held-parts, back-loaded}
use Rattle.reach.proofs.layers.load_layer.Goals as goal

pub held_by-requires : goal.held_by-requires
held_by-requires c = c.requires.held.wide

pub rewind-trail-requires : goal.rewind-trail-requires
rewind-trail-requires c =
    record { sound = c.requires.held.past.sound; few = few-cells _ _ c.requires.ready.ready; room = c.requires.room }

pub returns-then-held_by : goal.returns-then-held_by
returns-then-held_by c =
    let held = held-parts c.args.layers c.args.side c.args.cell c.args.weight c.args.steps (of-true _ (sym c.held_by.ensures ∙ c.if-held_by.true)) in
    back-loaded _ _ _ _ _ _ _ _ c.requires.held held.low held.high _ _ c.rewind-trail.ensures held.own _ _ held.span held.near

pub run_span-requires : goal.run_span-requires
run_span-requires c = c.requires

pub returns-else-held_by : goal.returns-else-held_by
returns-else-held_by c = c.run_span.ensures
