-- The neighbour step gives exactly the joined cells, each on its side (document 02, C-14).
use Rattle.std.proofs.Common.{arith, inl, inr}
use Rattle.problem.specs.Problem.{plan_for}
use Rattle.problem.proofs.Sizes.{cells-product}
use Rattle.verdict.proofs.Links.{over-across, over-along, no-wire}
use Rattle.verdict.proofs.wires.wire_between.Goals as goal

pub neighbours_of-near-requires : goal.neighbours_of-near-requires
unfolding plan_for
neighbours_of-near-requires c =
    (c.requires.0.sized, omega (arith, c.requires.1.0, cells-product _ _ c.requires.0))

pub returns-then-cell-near : goal.returns-then-cell-near
unfolding plan_for
returns-then-cell-near c =
    over-across c.args.p c.args.plan.now c.requires.0 c.args.from c.requires.1.0 c.args.cell c.requires.1.1 c.neighbours_of-near.result c.neighbours_of-near.ensures.is (elim c.then-cell-near.either [ inl e ↦ inl e | inr e ↦ inr e.1 ])

pub returns-then-cell-near-3 : goal.returns-then-cell-near-3
unfolding plan_for
returns-then-cell-near-3 c =
    over-along c.args.p c.args.plan.now c.requires.0 c.args.from c.requires.1.0 c.args.cell c.requires.1.1 c.neighbours_of-near.result c.neighbours_of-near.ensures.is (elim c.then-cell-near-3.either [ inl e ↦ inl e | inr e ↦ inr e.1 ])

pub returns : goal.returns
unfolding plan_for
returns c =
    no-wire c.args.p c.args.plan.now c.requires.0 c.args.from c.requires.1.0 c.args.cell c.requires.1.1 c.neighbours_of-near.result c.neighbours_of-near.ensures.is c.if-cell-near.false c.if-cell-near-2.false c.if-cell-near-3.false c.if-cell-near-4.false
