-- The comparison by its three tests; the ranking is tried only where both lists are legal.
use Rattle.std.proofs.Common.{true, false, refl, sym, ◌∙◌}
use Rattle.comparison.proofs.Better.{known}
use Rattle.comparison.proofs.compare.compare_ready.Goals as goal

pub returns-in-true-true : goal.returns-in-true-true
returns-in-true-true c =
    known _ _ _ true true true (sym c.in-true-true.ensures) (sym c.in-true-true.ensures') (sym c.ranks_before.ensures ∙ c.if-ranks_before.true)

pub returns-in-true-default : goal.returns-in-true-default
returns-in-true-default c =
    known _ _ _ true true false (sym c.in-true-true.ensures) (sym c.in-true-true.ensures') (sym c.ranks_before.ensures ∙ c.if-ranks_before.false)

pub returns-in-true-default-2 : goal.returns-in-true-default-2
returns-in-true-default-2 c =
    known _ _ _ true false _ (sym c.in-true-default.ensures) (sym c.in-true-default.ensures') refl

pub returns-in-false-true : goal.returns-in-false-true
returns-in-false-true c =
    known _ _ _ false true _ (sym c.in-false-true.ensures) (sym c.in-false-true.ensures') refl

pub returns-in-false-false : goal.returns-in-false-false
returns-in-false-false c =
    known _ _ _ false false _ (sym c.in-false-false.ensures) (sym c.in-false-false.ensures') refl
