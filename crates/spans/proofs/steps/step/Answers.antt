-- The load and the delay on arrival are the rules'.
use Prim.Native.Nat.{◌+◌, ◌≤◌, ◌<◌}
use mathlib.Core.Path.{◌≡◌, sym, ◌∙◌}
use native.Mathlib.Omega.{arith}
use borrow.Author.Tests.{leb-true, leb-false}
use lib.ListN.{length}
use Rattle.timing.specs.Formulas.{wire_delay, wire_load}
use Rattle.timing.proofs.Bounds.{wire-delay-max}
use Rattle.spans.proofs.Stepping.{step-none, step-heavy, step-late, step-asks, step-done}
use Rattle.spans.proofs.steps.step.Goals as goal
use Rattle.spans.proofs.steps.step.Goals.{After-plus-heavier, After-plus-later, Else-not-at_most, Else-to-plan, Then-not-at_most}

inside : (c : Else-to-plan) → let a = c.args in a.to < length a.plan.now
inside c = omega (arith, c.requires.within, c.if-to-plan.false)

loads : (c : After-plus-heavier) → let a = c.args in c.plus-heavier.result.0 ≡ a.load.0 + wire_load a.wire
loads c = omega (arith, c.plus-heavier.ensures, c.load.ensures)

delays : (c : After-plus-later) → let a = c.args in c.plus-later.result.0 ≡ a.delay.0 + wire_delay a.wire a.load.0
delays c = omega (arith, c.plus-later.ensures, c.delay.ensures)

-- the test of the load on arrival

light : (c : Else-not-at_most) → c.plus-heavier.result.0 ≤ c.args.p.elements.limit.0
light c = leb-true _ _ (sym c.at_most.ensures ∙ c.if-not-at_most.false)

heavy : (c : Then-not-at_most) → c.args.p.elements.limit.0 < c.plus-heavier.result.0
heavy c = leb-false _ _ (sym c.at_most.ensures ∙ c.if-not-at_most.true)

pub returns-then-to-plan : goal.returns-then-to-plan
returns-then-to-plan c =
    let a = c.args in
    step-none a.p a.plan.now a.period a.scratch.now a.count a.cell a.load.0 a.delay.0 a.to a.wire c.requires c.if-to-plan.true

pub plus-heavier-requires : goal.plus-heavier-requires
unfolding wire_load
plus-heavier-requires c =
    (omega (arith, c.requires.light), omega (arith, c.load.ensures, c.requires.wire_fits.load))

pub returns-then-not-at_most : goal.returns-then-not-at_most
returns-then-not-at_most c =
    let a = c.args in
    step-heavy a.p a.plan.now a.period a.scratch.now a.count a.cell a.load.0 a.delay.0 a.to a.wire c.requires (omega (arith, loads (goal.at.returns-then-not-at_most c).After-plus-heavier, heavy c))

pub delay-requires : goal.delay-requires
delay-requires c =
    (c.requires.wire_fits, omega (arith, c.requires.light))

pub plus-later-requires : goal.plus-later-requires
plus-later-requires c =
    let a = c.args in
    omega (arith, c.delay.ensures, c.requires.small, wire-delay-max a.wire a.load.0 c.requires.wire_fits (omega (arith, c.requires.light)))

pub returns-then-later-gt-LATEST : goal.returns-then-later-gt-LATEST
returns-then-later-gt-LATEST c =
    let a = c.args in
    step-late a.p a.plan.now a.period a.scratch.now a.count a.cell a.load.0 a.delay.0 a.to a.wire c.requires (omega (arith, delays (goal.at.returns-then-later-gt-LATEST c).After-plus-later, c.if-later-gt-LATEST.true))

pub arrive-requires : goal.arrive-requires
arrive-requires c =
    let a = c.args in
    step-asks a.p a.plan.now a.period a.scratch.now a.count a.cell a.load.0 a.delay.0 a.to a.wire c.requires (inside (goal.at.arrive-requires c).Else-to-plan) _ _ (loads (goal.at.arrive-requires c).After-plus-heavier) (delays (goal.at.arrive-requires c).After-plus-later) (light (goal.at.arrive-requires c).Else-not-at_most) c.if-later-gt-LATEST.false

pub shape_of-scratch : goal.shape_of-scratch
shape_of-scratch c = c.arrive.ensures.0.same

pub returns : goal.returns
returns c =
    let a = c.args in
    step-done a.p a.plan.now a.period a.scratch.now a.count a.cell a.load.0 a.delay.0 a.to a.wire c.requires (inside (goal.at.returns c).Else-to-plan) _ _ (loads (goal.at.returns c).After-plus-heavier) (delays (goal.at.returns c).After-plus-later) (light (goal.at.returns c).Else-not-at_most) c.if-later-gt-LATEST.false _ _ c.arrive.ensures
