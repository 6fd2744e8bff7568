-- `reach::span::start_span`: the labels of the span are in the orders from the first of their weight on; those with no steps become seeds.
use native.Mathlib.Omega.{arith}
use mathlib.Core.Bool.{true}
use Rattle.table.specs.Problem.{net_rules}
use Rattle.problem.proofs.Sizes.{few-cells}
use Rattle.labels.proofs.Labels.{ordered-kept, set-in, exits-in}
use Rattle.reach.proofs.Turns.{both-ask}
use Rattle.reach.proofs.Start.{start-near, start-far, labels-start, labels-started}
use Rattle.reach.proofs.span.start_span.Goals as goal

pub clear_span-requires : goal.clear_span-requires
clear_span-requires c =
    (c.requires.past, (few-cells _ _ c.requires.ready.ready, c.requires.room))

pub first_with-at-requires : goal.first_with-at-requires
first_with-at-requires c =
    let R = net_rules c.args.net c.args.plan.now in
    (ordered-kept c.requires.ordered _ (start-near R _ _ _ c.clear_span.ensures), set-in _ _ (few-cells _ _ c.requires.ready.ready) (omega (arith, c.requires.room, c.clear_span.ensures.same)))

pub first_exit-exit-requires : goal.first_exit-exit-requires
first_exit-exit-requires c =
    let R = net_rules c.args.net c.args.plan.now in
    λ h. (ordered-kept (c.requires.exits_ordered h) _ (start-far R _ _ _ c.clear_span.ensures), exits-in _ _ (few-cells _ _ c.requires.ready.ready) (omega (arith, c.requires.exits_in h, c.clear_span.ensures.same)))

pub arrive_both-requires : goal.arrive_both-requires
arrive_both-requires c =
    let R = net_rules c.args.net c.args.plan.now in
    let same = c.clear_span.ensures.same in
    let r = labels-start R _ _ _ c.clear_span.ensures _ _ _ c.requires.ordered c.requires.exits_ordered c.requires.in_step _ _ c.first_with-at.ensures c.first_exit-exit.ensures 0 (λ u e. true) in
    both-ask R _ _ _ _ _ _ _ _ _ _ _ _ r (few-cells _ _ c.requires.ready.ready) (omega (arith, c.requires.room, same)) (λ h. omega (arith, c.requires.exits_in h, same))

pub returns : goal.returns
returns c =
    let R = net_rules c.args.net c.args.plan.now in
    labels-started R _ _ _ c.clear_span.ensures _ _ _ c.requires.ordered c.requires.exits_ordered c.requires.in_step _ _ c.first_with-at.ensures c.first_exit-exit.ensures _ _ _ _ (rw c.no_idle.ensures at c.arrive_both.ensures)
