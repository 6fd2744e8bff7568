-- The cell's tests, by cases.
use Rattle.std.proofs.Common.{sym, ◌∙◌}
use borrow.Author.Tests.{le-ltb}
use Rattle.verdict.proofs.Places.{cell-outside, cell-last, cell-between}
use Rattle.verdict.proofs.visits.cell_right.Goals as goal

pub returns-then-not-last : goal.returns-then-not-last
returns-then-not-last c =
    rw c.if-not-last.true (sym (cell-between c.args.p c.args.plan.now c.requires c.args.cell c.if-cell-plan.true c.args.code))

pub returns-else-not-last : goal.returns-else-not-last
returns-else-not-last c =
    rw c.if-not-last.false (sym (cell-last c.args.p c.args.plan.now c.requires c.args.cell c.if-cell-plan.true c.args.code))

pub returns-else-cell-plan : goal.returns-else-cell-plan
returns-else-cell-plan c =
    le-ltb _ _ c.if-cell-plan.false ∙ sym (cell-outside c.args.p c.args.plan.now c.requires c.args.cell c.args.last c.args.code c.if-cell-plan.false)
