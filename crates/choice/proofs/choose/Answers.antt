-- The four sides one after another, by the laws of `Sides`.
use Rattle.std.proofs.Common.{◌≡◌, arith}
use Rattle.plan.specs.Joined.{neighbours_of}
use Rattle.table.specs.Problem.{plan_for}
use Rattle.problem.proofs.Sizes.{cells-product}
use Rattle.choice.proofs.Sides.{Only, Empty, empty, up-asks, left-asks, right-asks, down-asks, up_first, left-first, right-first, down-last}
use Rattle.choice.proofs.choose.Goals as goal
use Rattle.choice.proofs.choose.Goals.{After-neighbours_of-near, After-try_cell, After-try_cell-2, After-try_cell-3, In_default, In_default-try_cell, In_default-try_cell-2}

near : (c : After-neighbours_of-near) → let a = c.args in c.neighbours_of-near.result ≡ neighbours_of (plan_for a.net.problem a.plan.now) a.from.cell
unfolding plan_for
near c = c.neighbours_of-near.ensures.is

pub neighbours_of-near-requires : goal.neighbours_of-near-requires
unfolding plan_for
neighbours_of-near-requires c =
    (c.requires.ready.ready.sized, omega (arith, c.requires.in_range.in_plan, cells-product _ _ c.requires.ready.ready))

-- what was found on each side, and that it was nothing

up : (c : After-try_cell) → Only c.args.net c.args.plan.now c.args.exits c.args.scratch.now c.args.from c.requires (neighbours_of (plan_for c.args.net.problem c.args.plan.now) c.args.from.cell).up c.try_cell.result
up c = rw (near (goal.at.After-try_cell c).After-neighbours_of-near) at c.try_cell.ensures

no-up : (c : In_default) → Empty c.args.net c.args.plan.now c.args.exits c.args.scratch.now c.args.from c.requires (neighbours_of (plan_for c.args.net.problem c.args.plan.now) c.args.from.cell).up
no-up c = empty c.args.net c.args.plan.now c.args.exits c.args.scratch.now c.args.from c.requires _ (rw c.in_default.is at (up (goal.at.In_default c).After-try_cell))

left : (c : After-try_cell-2) → Only c.args.net c.args.plan.now c.args.exits c.args.scratch.now c.args.from c.requires (neighbours_of (plan_for c.args.net.problem c.args.plan.now) c.args.from.cell).left c.try_cell-2.result
left c = rw (near (goal.at.After-try_cell-2 c).After-neighbours_of-near) at c.try_cell-2.ensures

no-left : (c : In_default-try_cell) → Empty c.args.net c.args.plan.now c.args.exits c.args.scratch.now c.args.from c.requires (neighbours_of (plan_for c.args.net.problem c.args.plan.now) c.args.from.cell).left
no-left c = empty c.args.net c.args.plan.now c.args.exits c.args.scratch.now c.args.from c.requires _ (rw c.in_default-try_cell.is at (left (goal.at.In_default-try_cell c).After-try_cell-2))

right : (c : After-try_cell-3) → Only c.args.net c.args.plan.now c.args.exits c.args.scratch.now c.args.from c.requires (neighbours_of (plan_for c.args.net.problem c.args.plan.now) c.args.from.cell).right c.try_cell-3.result
right c = rw (near (goal.at.After-try_cell-3 c).After-neighbours_of-near) at c.try_cell-3.ensures

no-right : (c : In_default-try_cell-2) → Empty c.args.net c.args.plan.now c.args.exits c.args.scratch.now c.args.from c.requires (neighbours_of (plan_for c.args.net.problem c.args.plan.now) c.args.from.cell).right
no-right c = empty c.args.net c.args.plan.now c.args.exits c.args.scratch.now c.args.from c.requires _ (rw c.in_default-try_cell-2.is at (right (goal.at.In_default-try_cell-2 c).After-try_cell-3))

pub try_cell-requires : goal.try_cell-requires
try_cell-requires c = rw (near (goal.at.try_cell-requires c).After-neighbours_of-near) (up-asks c.args.net c.args.plan.now c.args.exits c.args.scratch.now c.args.from c.requires)

pub try_cell-requires-2 : goal.try_cell-requires-2
try_cell-requires-2 c = rw (near (goal.at.try_cell-requires-2 c).After-neighbours_of-near) (left-asks c.args.net c.args.plan.now c.args.exits c.args.scratch.now c.args.from c.requires)

pub try_cell-requires-3 : goal.try_cell-requires-3
try_cell-requires-3 c = rw (near (goal.at.try_cell-requires-3 c).After-neighbours_of-near) (right-asks c.args.net c.args.plan.now c.args.exits c.args.scratch.now c.args.from c.requires)

pub try_cell-requires-4 : goal.try_cell-requires-4
try_cell-requires-4 c = rw (near (goal.at.try_cell-requires-4 c).After-neighbours_of-near) (down-asks c.args.net c.args.plan.now c.args.exits c.args.scratch.now c.args.from c.requires)

pub returns-in-Some : goal.returns-in-Some
returns-in-Some c = up_first c.args.net c.args.plan.now c.args.exits c.args.scratch.now c.args.from c.requires _ (rw c.in-Some.is at (up (goal.at.returns-in-Some c).After-try_cell))

pub returns-in-Some-try_cell : goal.returns-in-Some-try_cell
returns-in-Some-try_cell c = left-first c.args.net c.args.plan.now c.args.exits c.args.scratch.now c.args.from c.requires (no-up (goal.at.returns-in-Some-try_cell c).In_default) _ (rw c.in-Some-try_cell.is at (left (goal.at.returns-in-Some-try_cell c).After-try_cell-2))

pub returns-in-Some-try_cell-2 : goal.returns-in-Some-try_cell-2
returns-in-Some-try_cell-2 c = right-first c.args.net c.args.plan.now c.args.exits c.args.scratch.now c.args.from c.requires (no-up (goal.at.returns-in-Some-try_cell-2 c).In_default) (no-left (goal.at.returns-in-Some-try_cell-2 c).In_default-try_cell) _ (rw c.in-Some-try_cell-2.is at (right (goal.at.returns-in-Some-try_cell-2 c).After-try_cell-3))

pub returns : goal.returns
returns c = down-last c.args.net c.args.plan.now c.args.exits c.args.scratch.now c.args.from c.requires (no-up (goal.at.returns c).In_default) (no-left (goal.at.returns c).In_default-try_cell) (no-right (goal.at.returns c).In_default-try_cell-2) _ (rw (near (goal.at.returns c).After-neighbours_of-near) at c.try_cell-4.ensures)
