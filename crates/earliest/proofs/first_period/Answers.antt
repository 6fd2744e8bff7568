use mathlib.Core.Path.{refl, ◌∙◌}
use native.Mathlib.Omega.{arith}
use Rattle.problem.proofs.Sizes.{few-cells}
use Rattle.earliest.proofs.Parts.{first_found, first-none, first-unknown, too-heavy, turn_on, turn-ended}
use Rattle.earliest.proofs.first_period.Goals as goal

pub returns-then-p-load : goal.returns-then-p-load
returns-then-p-load c = first-none _ _ refl (λ k h. refl) (λ t h k. too-heavy _ _ (omega (arith, c.load.ensures)) t)

pub begin-count-requires : goal.begin-count-requires
begin-count-requires c =
    (c.requires.0, (c.requires.1, omega (arith, c.load.ensures)))

pub loop-f-init : goal.loop-f-init
loop-f-init c = (c.begin-count.ensures.passing, (refl, λ k h. refl))

pub overflow_add-n : goal.overflow_add-n
overflow_add-n c =
    let ready = c.requires.0 in
    omega (arith, few-cells _ _ ready, ready.source)

pub offset_bounds-scratch-n : goal.offset_bounds-scratch-n
offset_bounds-scratch-n c =
    let ready = c.requires.0 in
    omega (arith, few-cells _ _ ready, ready.source)

pub shape_of-scratch-then-left-eq0 : goal.shape_of-scratch-then-left-eq0
shape_of-scratch-then-left-eq0 c =
    c.loop-f.invariant.1.0 ∙ c.begin-count.ensures.same

pub returns-then-left-eq0 : goal.returns-then-left-eq0
returns-then-left-eq0 c =
    let begun = c.begin-count.ensures in
    first-unknown _ _ (c.loop-f.invariant.1.0 ∙ begun.same) (λ k h. c.loop-f.invariant.1.1 k h ∙ begun.rest k h)

pub take_turn-requires : goal.take_turn-requires
take_turn-requires c = (c.loop-f.invariant.0, omega arith)

pub returns-in_default : goal.returns-in_default
returns-in_default c =
    let end = turn-ended _ _ c.in_default.ensures refl in
    let begun = c.begin-count.ensures in
    first-none _ _ (end.0 ∙ (c.loop-f.invariant.1.0 ∙ begun.same)) (λ k h. end.1.0 k h ∙ (c.loop-f.invariant.1.1 k h ∙ begun.rest k h)) end.1.1

pub loop-f-preserved : goal.loop-f-preserved
loop-f-preserved c =
    let done = turn_on _ _ c.in-Some.ensures _ refl in
    (done.passing, (done.same ∙ c.loop-f.invariant.1.0, λ k h. done.rest k h ∙ c.loop-f.invariant.1.1 k h))

pub returns : goal.returns
returns c =
    let begun = c.begin-count.ensures in
    first_found _ _ (c.loop-f.invariant.1.0 ∙ begun.same) (λ k h. c.loop-f.invariant.1.1 k h ∙ begun.rest k h) c.loop-f.invariant.0 (omega arith)
