-- The label's word is one more than its weight, 0 for none; then its weight and its steps are compared.
use Rattle.std.proofs.Common.{sym, ◌∙◌, arith}
use Rattle.plan.proofs.Truth.{tests, of-true, of-false, neqb→ne}
use Rattle.choice.proofs.Seeds.{seed-none, seed-elsewhere, seed-label}
use Rattle.choice.proofs.is_seed.Goals as goal
use Rattle.choice.proofs.is_seed.Goals.{then-word-ne0, else-word-ne0}

pub returns-then-word-at : goal.returns-then-word-at
returns-then-word-at c =
    elim c.if-word-ne0.branch [
      | then-word-ne0 w ↦ let same = of-true _ (sym w.value-is ∙ c.if-word-at.true) in
          simp c.steps_of.ensures
          (sym (seed-label c.args.n c.args.set c.args.scratch.now c.args.at c.requires.1 (λ e. w.if-word-ne0.true (c.weight_word-word.ensures ∙ e)) (omega (arith, tests, same, c.weight_word-word.ensures))))
      | else-word-ne0 w ↦ let no = of-true _ (sym w.value-is ∙ c.if-word-at.true) in absurd (neqb→ne _ _ no w.if-word-ne0.false)
    ]

pub returns-else-word-at : goal.returns-else-word-at
returns-else-word-at c =
    elim c.if-word-ne0.branch [
      | then-word-ne0 w ↦ let other = of-false _ (sym w.value-is ∙ c.if-word-at.false) in
          c.if-word-at.false ∙ sym (seed-elsewhere c.args.n c.args.set c.args.scratch.now c.args.at (λ e. omega (arith, tests, other, e, c.weight_word-word.ensures)))
      | else-word-ne0 w ↦ c.if-word-at.false ∙ sym (seed-none c.args.n c.args.set c.args.scratch.now c.args.at (sym c.weight_word-word.ensures ∙ w.if-word-ne0.false))
    ]
