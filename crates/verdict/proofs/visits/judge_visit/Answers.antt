-- The tests in their order; the load and the delay on arrival; then the gate.
use Rattle.std.proofs.Common.{◌≡◌, ◌+◌, min, true, sym, ◌∙◌, arith, Some, None}
use Rattle.std.proofs.lemmas.Result.{err_from_is_err_and}
use mir.Syntax.{w32}
use mir.Facts.{to_z-of_z}
use Rattle.timing.specs.Elements.{WireInRange}
use Rattle.timing.specs.Formulas.{wire_delay, wire_load}
use Rattle.timing.proofs.Bounds.{wire-delay-max}
use Rattle.rules.specs.Legal.{cell_right, code_right}
use Rattle.answers.specs.declared.verdicts.VisitFault.{VisitFault}
use Rattle.problem.specs.Problem.{plan_for, rules_for}
use Rattle.verdict.specs.Gates.{delay_cap}
use Rattle.verdict.specs.Visits.{LinkIs}
use Rattle.verdict.proofs.Places.{right-cell, right-code}
use Rattle.verdict.proofs.Arriving.{cell-wrong, wire-wrong, site-wrong, gate-next, arrived, wire-fits, wire-load-most}
use Rattle.verdict.proofs.visits.judge_visit.Goals as goal
use Rattle.verdict.proofs.visits.judge_visit.Goals.{Else-not-cell_right, In_ok-wire, Else-not-code_right}

cell-is : (c : Else-not-cell_right) → cell_right (rules_for c.args.p c.args.plan.now) c.args.last (record { cell = c.args.cell; code = c.args.code }) ≡ true
cell-is c = sym c.cell_right.ensures ∙ c.if-not-cell_right.false

-- the wire
link-is : (c : In_ok-wire) → LinkIs (rules_for c.args.p c.args.plan.now) c.args.from.cell c.args.cell (Some c.in_ok-wire.wire)
link-is c =
    let some : c.wire_between.result ≡ Some c.in_ok-wire.wire = grind arith in
    rw some at c.wire_between.ensures

pub returns-then-not-cell_right : goal.returns-then-not-cell_right
returns-then-not-cell_right c =
    λ a k. cell-wrong (rules_for c.args.p c.args.plan.now) a c.args.last (record { cell = c.args.cell; code = c.args.code }) (sym c.cell_right.ensures ∙ c.if-not-cell_right.true)

pub wire_between-requires : goal.wire_between-requires
wire_between-requires c =
    (c.requires.0, (c.requires.1.in_plan, right-cell c.args.p c.args.plan.now c.requires.0 c.args.cell c.args.last c.args.code (cell-is c)))

pub returns-in_err-wire : goal.returns-in_err-wire
returns-in_err-wire c =
    let p = err_from_is_err_and c.from_residual.result c.from_residual.ensures.1 in
    let none : c.wire_between.result ≡ None = grind arith in
    let fault : c.in_err-wire.field-0.0 ≡ VisitFault.Wire = grind arith in
    rw (p.1, p.2, fault)
    (λ a k. wire-wrong (rules_for c.args.p c.args.plan.now) a c.args.last (record { cell = c.args.cell; code = c.args.code }) (cell-is (goal.at.returns-in_err-wire c).Else-not-cell_right) c.args.from k (rw none at c.wire_between.ensures))

pub code_right-requires : goal.code_right-requires
code_right-requires c =
    (c.requires.0, right-cell c.args.p c.args.plan.now c.requires.0 c.args.cell c.args.last c.args.code (cell-is (goal.at.code_right-requires c).Else-not-cell_right))

pub returns-then-not-code_right : goal.returns-then-not-code_right
returns-then-not-code_right c =
    λ a k. site-wrong (rules_for c.args.p c.args.plan.now) a c.args.last (record { cell = c.args.cell; code = c.args.code }) (cell-is (goal.at.returns-then-not-code_right c).Else-not-cell_right) c.args.from k (link-is (goal.at.returns-then-not-code_right c).In_ok-wire).0 (sym c.code_right.ensures ∙ c.if-not-code_right.true)

fits : (c : In_ok-wire) → WireInRange c.in_ok-wire.wire
fits c =
    wire-fits c.args.p c.args.plan.now c.requires.0 c.args.from.cell c.args.cell _ (link-is c).1

pub plus-load-requires : goal.plus-load-requires
plus-load-requires c =
    (omega (arith, c.requires.1.light, c.requires.0.valid.limit), omega (arith, c.load.ensures, wire-load-most _ (fits (goal.at.plus-load-requires c).In_ok-wire)))

pub delay-requires : goal.delay-requires
delay-requires c =
    (fits (goal.at.delay-requires c).In_ok-wire, omega (arith, c.requires.1.light, c.requires.0.valid.limit))

pub plus-requires : goal.plus-requires
plus-requires c =
    omega (arith, c.delay.ensures, c.args.from.early, wire-delay-max _ c.args.from.load.0 (fits (goal.at.plus-requires c).In_ok-wire) (omega (arith, c.requires.1.light, c.requires.0.valid.limit)))

-- the code is right
code_is : (c : Else-not-code_right) → code_right (rules_for c.args.p c.args.plan.now) 0 c.args.last (record { cell = c.args.cell; code = c.args.code }) ≡ true
code_is c = sym c.code_right.ensures ∙ c.if-not-code_right.false

pub pass_gate-requires : goal.pass_gate-requires
pass_gate-requires c =
    record {
      valid = c.requires.0.valid;
      codes = right-code c.args.p c.args.plan.now c.requires.0 c.args.cell c.args.last c.args.code (code_is (goal.at.pass_gate-requires c).Else-not-code_right);
    }

pub returns : goal.returns
unfolding rules_for
returns c =
    let R = rules_for c.args.p c.args.plan.now in
    let wire = c.in_ok-wire.wire in
    let load : c.plus-load.result.0 ≡ c.args.from.load.0 + wire_load wire = rw c.load.ensures at c.plus-load.ensures in
    let sum : c.plus.result.0 ≡ c.args.from.delay.0 + wire_delay wire c.args.from.load.0 = rw c.delay.ensures at c.plus.ensures in
    let delay : c.capped-delay.result.0 ≡ min (c.args.from.delay.0 + wire_delay wire c.args.from.load.0) delay_cap = rw sum at c.capped-delay.ensures in
    let kept = to_z-of_z {w = w32} {z = c.args.from.slack} (record { sfits = c.struct_told-1.given.1.1.1.0.1 }) in
    λ a k.
    rw (← kept, gate-next R a c.args.last (record { cell = c.args.cell; code = c.args.code }) (cell-is (goal.at.returns c).Else-not-cell_right) c.args.from k (link-is (goal.at.returns c).In_ok-wire).0 (code_is (goal.at.returns c).Else-not-code_right))
    (c.pass_gate.ensures (plan_for c.args.p c.args.plan.now) c.args.p.source c.args.p.sink a k.fifos (arrived R a c.args.cell wire c.args.from _ k (link-is (goal.at.returns c).In_ok-wire).1 load delay))
