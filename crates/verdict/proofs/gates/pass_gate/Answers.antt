-- One case a kind of gate.
use mathlib.Core.Path.{refl, sym, ◌∙◌}
use Rattle.verdict.proofs.Passing.{gate-heavy, plain_step}
use Rattle.verdict.proofs.gates.pass_gate.Goals as goal

pub returns-then-not-at_most : goal.returns-then-not-at_most
returns-then-not-at_most c =
    λ P from to a none k.
    gate-heavy P c.args.elements from to c.args.last a c.args.at.cell c.args.code (rw k.load at (sym c.at_most.ensures ∙ c.if-not-at_most.true))

pub returns-in-0 : goal.returns-in-0
returns-in-0 c =
    let light = sym c.at_most.ensures ∙ c.if-not-at_most.false in
    rw c.in-0.is
    (λ P from to a none k. plain_step P c.args.elements from to c.args.last a c.args.at.cell (rw k.load at light) none c.args.at k refl)
