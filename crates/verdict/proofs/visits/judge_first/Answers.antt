-- The first visit's three tests.
use Rattle.std.proofs.Common.{◌≡◌, refl, sym, ◌∙◌, arith}
use borrow.Author.Tests.{leb-true}
use lib.Dec.{leb}
use Rattle.timing.specs.Formulas.{register_load, setup_delay}
use Rattle.verdict.proofs.Arriving.{first_cell, first-site, first_load, first-right, start-at}
use Rattle.verdict.proofs.visits.judge_first.Goals as goal
use Rattle.verdict.proofs.visits.judge_first.Goals.{After-at_most}

own : (c : After-at_most) → leb (register_load c.args.p.elements.register) c.args.p.elements.limit.0 ≡ c.at_most.result
own c = sym (rw c.load-load.ensures at c.at_most.ensures)

pub returns-then-cell-p : goal.returns-then-cell-p
returns-then-cell-p c =
    first_cell c.args.p c.args.plan.now (record { cell = c.args.cell; code = c.args.code }) c.if-cell-p.true

pub returns-then-code-ne7 : goal.returns-then-code-ne7
returns-then-code-ne7 c =
    first-site c.args.p c.args.plan.now c.requires (record { cell = c.args.cell; code = c.args.code }) c.if-cell-p.false c.if-code-ne7.true

pub returns-then-not-at_most : goal.returns-then-not-at_most
returns-then-not-at_most c =
    first_load c.args.p c.args.plan.now c.requires (record { cell = c.args.cell; code = c.args.code }) c.if-cell-p.false c.if-code-ne7.false (own (goal.at.returns-then-not-at_most c).After-at_most ∙ c.if-not-at_most.true)

pub invariant_of-result : goal.invariant_of-result
unfolding setup_delay
invariant_of-result c = record { early = omega (arith, c.start_delay-delay.ensures, c.requires.valid.register.setup) }

pub returns : goal.returns
returns c =
    let light = own (goal.at.returns c).After-at_most ∙ c.if-not-at_most.false in
    record {
      is_right = first-right c.args.p c.args.plan.now c.requires (record { cell = c.args.cell; code = c.args.code }) c.if-cell-p.false c.if-code-ne7.false light;
      here = start-at c.args.p c.args.plan.now c.requires _ _ refl c.load-load.ensures c.start_delay-delay.ensures;
      slack = refl;
      light = λ e. rw c.load-load.ensures (leb-true (register_load c.args.p.elements.register) c.args.p.elements.limit.0 light);
    }
