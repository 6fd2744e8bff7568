-- `reach::cone::in_cone`: the test of the sum, by differences.
use Rattle.std.proofs.Common.{ℕ, ◌+◌, ◌-◌, ◌≤◌, ◌≡◌, sym, ap, ◌∙◌, arith, leb, leb→le, le→leb}
use borrow.Author.Tests.{lt-leb}
use Rattle.plan.specs.Apart.{gap, apart_by}
use Rattle.plan.proofs.Truth.{tests, of-true, of-false}
use Rattle.budget.specs.Cone.{in_cone}
use Rattle.labels.proofs.Seeds.{bool_same}
use Rattle.reach.proofs.cone.in_cone.Goals as goal
use Rattle.reach.proofs.cone.in_cone.Goals.{then-u-most, else-u-most}

leb-moved : (rows columns u most : ℕ) → u ≤ most → rows ≤ most - u → leb columns (most - u - rows) ≡ leb (rows + columns + u) most
leb-moved rows columns u most h k =
    bool_same (leb columns (most - u - rows)) (leb (rows + columns + u) most)
    (λ t. le→leb (rows + columns + u) most (omega (arith, leb→le columns (most - u - rows) t)))
    (λ t. le→leb columns (most - u - rows) (omega (arith, leb→le (rows + columns + u) most t)))

pub returns-then-rows-most : goal.returns-then-rows-most
unfolding in_cone apart_by gap
returns-then-rows-most c =
    elim c.if-u-most.branch [
      | then-u-most w ↦
          let near = of-true _ (sym w.value-is ∙ c.if-rows-most.true) in
          leb-moved _ _ _ _ (omega arith) (omega (arith, tests, near)) ∙ ap (λ (x : ℕ). leb (x + c.args.u) c.args.most) (omega (arith, c.abs_diff-rows.ensures, c.abs_diff-columns.ensures))
      | else-u-most w ↦ absurd (omega (arith, tests, of-true _ (sym w.value-is ∙ c.if-rows-most.true)))
    ]

pub returns-else-rows-most : goal.returns-else-rows-most
unfolding in_cone apart_by gap
returns-else-rows-most c =
    let a = c.args in
    elim c.if-u-most.branch [
      | then-u-most w ↦
          let far = of-false _ (sym w.value-is ∙ c.if-rows-most.false) in
          c.if-rows-most.false ∙ sym (lt-leb (apart_by a.width a.from a.cell + a.u) a.most (omega (arith, tests, far, c.abs_diff-rows.ensures)))
      | else-u-most w ↦ c.if-rows-most.false ∙ sym (lt-leb (apart_by a.width a.from a.cell + a.u) a.most (omega arith))
    ]
