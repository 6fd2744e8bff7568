-- `table::pushes::spread` meets its contract: the arrival row and the four offers, by proofs/Spreads.
use Rattle.std.proofs.Common.{◌∙◌, arith}
use Rattle.plan.proofs.Sides.{ascending}
use Rattle.costs.specs.Costs.{horizontal_at, vertical_at}
use Rattle.table.specs.Problem.{plan_for}
use Rattle.problem.proofs.Sizes.{cells_are, cells-product}
use Rattle.table.proofs.Spreads.{step_row, offer-asks, filled-listed, filled-follows, spread-whole}
use Rattle.table.proofs.pushes.spread.Goals as goal

pub neighbours_of-near-requires : goal.neighbours_of-near-requires
unfolding plan_for
neighbours_of-near-requires c =
    (c.requires.ready.ready.sized, omega (arith, cells-product _ _ c.requires.ready.ready, c.requires.cell_in))

pub offer-a-requires : goal.offer-a-requires
unfolding plan_for
offer-a-requires c =
    offer-asks c.args.net c.args.plan.now c.args.costs.now c.args.cell c.args.next c.args.scratch.now c.requires _ vertical_at _ _ _ (rw c.load-vertical.ensures (step_row c.args.net c.args.plan.now c.args.costs.now c.args.cell c.args.next c.args.scratch.now c.requires c.args.net.problem.elements.vertical vertical_at (omega arith) c.requires.ready.ready.valid.vertical c.requires.costed.vertical))
    (rw c.neighbours_of-near.ensures.is (ascending _ c.requires.ready.ready.sized c.args.cell (omega (arith, cells_are _ _ c.requires.ready.ready, c.requires.cell_in))).up-most)
    c.fill_arrival.ensures.same (filled-listed c.args.net c.args.plan.now c.args.costs.now c.args.cell c.args.next c.args.scratch.now c.requires _ _ c.fill_arrival.ensures) (filled-follows c.args.net c.args.plan.now c.args.costs.now c.args.cell c.args.next c.args.scratch.now c.requires _ _ c.fill_arrival.ensures).sound

pub offer-b-requires : goal.offer-b-requires
unfolding plan_for
offer-b-requires c =
    offer-asks c.args.net c.args.plan.now c.args.costs.now c.args.cell c.args.next c.args.scratch.now c.requires _ horizontal_at _ _ _ (rw c.load-horizontal.ensures (step_row c.args.net c.args.plan.now c.args.costs.now c.args.cell c.args.next c.args.scratch.now c.requires c.args.net.problem.elements.horizontal horizontal_at (omega arith) c.requires.ready.ready.valid.horizontal c.requires.costed.horizontal))
    (rw c.neighbours_of-near.ensures.is (ascending _ c.requires.ready.ready.sized c.args.cell (omega (arith, cells_are _ _ c.requires.ready.ready, c.requires.cell_in))).left-most)
    (c.offer-a.ensures.raised.same ∙ c.fill_arrival.ensures.same) c.offer-a.ensures.raised.listed c.offer-a.ensures.follows.sound

pub offer-c-requires : goal.offer-c-requires
unfolding plan_for
offer-c-requires c =
    offer-asks c.args.net c.args.plan.now c.args.costs.now c.args.cell c.args.next c.args.scratch.now c.requires _ horizontal_at _ _ _ (rw c.load-horizontal.ensures (step_row c.args.net c.args.plan.now c.args.costs.now c.args.cell c.args.next c.args.scratch.now c.requires c.args.net.problem.elements.horizontal horizontal_at (omega arith) c.requires.ready.ready.valid.horizontal c.requires.costed.horizontal))
    (rw c.neighbours_of-near.ensures.is (ascending _ c.requires.ready.ready.sized c.args.cell (omega (arith, cells_are _ _ c.requires.ready.ready, c.requires.cell_in))).right-most)
    (c.offer-b.ensures.raised.same ∙ c.offer-a.ensures.raised.same ∙ c.fill_arrival.ensures.same) c.offer-b.ensures.raised.listed c.offer-b.ensures.follows.sound

pub offer-requires : goal.offer-requires
unfolding plan_for
offer-requires c =
    offer-asks c.args.net c.args.plan.now c.args.costs.now c.args.cell c.args.next c.args.scratch.now c.requires _ vertical_at _ _ _ (rw c.load-vertical.ensures (step_row c.args.net c.args.plan.now c.args.costs.now c.args.cell c.args.next c.args.scratch.now c.requires c.args.net.problem.elements.vertical vertical_at (omega arith) c.requires.ready.ready.valid.vertical c.requires.costed.vertical))
    (rw c.neighbours_of-near.ensures.is (ascending _ c.requires.ready.ready.sized c.args.cell (omega (arith, cells_are _ _ c.requires.ready.ready, c.requires.cell_in))).down-most)
    (c.offer-c.ensures.raised.same ∙ c.offer-b.ensures.raised.same ∙ c.offer-a.ensures.raised.same ∙ c.fill_arrival.ensures.same) c.offer-c.ensures.raised.listed c.offer-c.ensures.follows.sound

pub returns : goal.returns
unfolding plan_for
returns c =
    let e = c.neighbours_of-near.ensures.is in
    let h = c.load-horizontal.ensures in
    let v = c.load-vertical.ensures in
    spread-whole c.args.net c.args.plan.now c.args.costs.now c.args.cell c.args.next c.args.scratch.now c.requires _ _ c.fill_arrival.ensures _ _ _ _ _ _ _ _
    (rw (e, v) at c.offer-a.ensures) (rw (e, h) at c.offer-b.ensures) (rw (e, h) at c.offer-c.ensures) (rw (e, v) at c.offer.ensures)
