-- The load and the delay on arrival are the rules', so that the first code there makes the first visit.
use Rattle.std.proofs.Common.{◌+◌, ◌<◌, ◌≤◌, ◌≡◌, refl, sym, ◌∙◌, arith, leb-true, leb-false, length, to_z-of_z, w32, to_z, of_z}
use borrow.Author.Tests.{not-true, not-false}
use Rattle.std.proofs.lemmas.Option.{MatchOption-at_some}
use Rattle.timing.specs.Formulas.{wire_delay, wire_load}
use Rattle.timing.proofs.Bounds.{wire-delay-max}
use Rattle.rules.specs.Rules.{fifo_code}
use Rattle.choice.proofs.Visits.{no-neighbour, too-heavy, at-asks, leave-asks, no_code, first-visit}
use Rattle.choice.proofs.try_cell.Goals as goal
use Rattle.choice.proofs.try_cell.Goals.{After-plus, After-plus-load, After-struct_told-1, Else-cell-plan, In_ok-code, Else-not-at_most, Then-not-at_most}

inside : (c : Else-cell-plan) → c.args.cell < length c.args.plan.now
inside c = omega (arith, c.requires.within, c.if-cell-plan.false)

loads : (c : After-plus-load) → let a = c.args in c.plus-load.result.0 ≡ a.from.load.0 + wire_load a.wire
loads c = omega (arith, c.plus-load.ensures, c.load.ensures)

delays : (c : After-plus) → let a = c.args in c.plus.result.0 ≡ a.from.delay.0 + wire_delay a.wire a.from.load.0
delays c = omega (arith, c.plus.ensures, c.delay.ensures)

-- the test of the load on arrival
light : (c : Else-not-at_most) → c.plus-load.result.0 ≤ c.args.net.problem.elements.limit.0
light c = leb-true _ _ (sym c.at_most.ensures ∙ not-false _ c.if-not-at_most.false-raw)

heavy : (c : Then-not-at_most) → c.args.net.problem.elements.limit.0 < c.plus-load.result.0
heavy c = leb-false _ _ (sym c.at_most.ensures ∙ not-true _ c.if-not-at_most.true-raw)

-- the smallest figure so far, handed on
figure : (c : After-struct_told-1) → let a = c.args in to_z w32 (of_z w32 a.from.slack) ≡ a.from.slack
figure c = to_z-of_z {w = w32} (record { sfits = c.struct_told-1.given.1.1.1.1.1.0.1 })

-- a code that goes on
small : (c : In_ok-code) → c.in_ok-code.code ≤ fifo_code
small c = let first = MatchOption-at_some _ _ c.in_ok-code.code c.in_ok-code.was c.first_code.ensures.told in first.within

pub returns-then-cell-plan : goal.returns-then-cell-plan
returns-then-cell-plan c =
    no-neighbour c.args.net c.args.plan.now c.args.exits c.args.scratch.now c.args.from c.args.cell c.args.wire c.requires c.if-cell-plan.true

pub plus-load-requires : goal.plus-load-requires
unfolding wire_load
plus-load-requires c =
    (c.requires.asks.in_range.light, omega (arith, c.load.ensures, c.requires.wire_fits.load))

pub returns-then-not-at_most : goal.returns-then-not-at_most
returns-then-not-at_most c =
    let from = c.args.from in
    too-heavy c.args.net c.args.plan.now c.args.exits c.args.scratch.now c.args.from c.args.cell c.args.wire c.requires (inside (goal.at.returns-then-not-at_most c).Else-cell-plan) _ (from.delay.0 + wire_delay c.args.wire from.load.0) from.slack (loads (goal.at.returns-then-not-at_most c).After-plus-load) refl refl (heavy c)

pub plus-requires : goal.plus-requires
plus-requires c =
    omega (arith, c.delay.ensures, c.requires.asks.in_range.early, wire-delay-max c.args.wire c.args.from.load.0 c.requires.wire_fits c.requires.asks.in_range.light)

pub first_code-requires : goal.first_code-requires
first_code-requires c =
    at-asks c.args.net c.args.plan.now c.args.exits c.args.scratch.now c.args.from c.args.cell c.args.wire c.requires (inside (goal.at.first_code-requires c).Else-cell-plan) _ _ _ (loads (goal.at.first_code-requires c).After-plus-load) (delays (goal.at.first_code-requires c).After-plus) (figure c) (light (goal.at.first_code-requires c).Else-not-at_most)

pub returns-in_err-code : goal.returns-in_err-code
returns-in_err-code c =
    rw c.from_residual.ensures
    (no_code c.args.net c.args.plan.now c.args.exits c.args.scratch.now c.args.from c.args.cell c.args.wire c.requires (inside (goal.at.returns-in_err-code c).Else-cell-plan) _ _ _ (loads (goal.at.returns-in_err-code c).After-plus-load) (delays (goal.at.returns-in_err-code c).After-plus) (figure (goal.at.returns-in_err-code c).After-struct_told-1) (light (goal.at.returns-in_err-code c).Else-not-at_most) (rw c.in_err-code.was at c.first_code.ensures))

pub leave-state-requires : goal.leave-state-requires
leave-state-requires c =
    leave-asks c.args.net c.args.plan.now c.args.exits c.args.scratch.now c.args.from c.args.cell c.args.wire c.requires (inside (goal.at.leave-state-requires c).Else-cell-plan) _ _ _ (loads (goal.at.leave-state-requires c).After-plus-load) (delays (goal.at.leave-state-requires c).After-plus) (figure (goal.at.leave-state-requires c).After-struct_told-1) (light (goal.at.leave-state-requires c).Else-not-at_most) _ (small c)

pub returns : goal.returns
returns c =
    first-visit c.args.net c.args.plan.now c.args.exits c.args.scratch.now c.args.from c.args.cell c.args.wire c.requires (inside (goal.at.returns c).Else-cell-plan) _ _ _ (loads (goal.at.returns c).After-plus-load) (delays (goal.at.returns c).After-plus) (figure (goal.at.returns c).After-struct_told-1) (light (goal.at.returns c).Else-not-at_most) _ _ c.leave-state.ensures (rw c.in_ok-code.was at c.first_code.ensures)
