-- `labels::marked`: the codes that close a span are 7 and 8, so the other one is 15 less the code.
use Rattle.std.proofs.Common.{ℕ, ◌-◌, ◌≤◌, ◌<◌, ◌≡◌, refl, sym, ◌∙◌, true, false, ◌⊎◌, inl, inr, arith, eq-eqb, ne_eqb, T}
use Rattle.rules.specs.Rules.{register_code, fifo_code, is_closing}
use Rattle.rules.proofs.View.{closing-codes}
use Rattle.table.specs.Problem.{marks_seed}
use Rattle.labels.specs.Labels.{MarkedWith}
use Rattle.labels.proofs.Codes.{closing-small, other_differs}
use Rattle.labels.proofs.marked.Goals as goal

module _ (code : ℕ) (closes : T (is_closing code)) where
  other : (a : ℕ) → T (is_closing a) → (a ≡ code → ⊥) → a ≡ 15 - code
  other a z f = go (closing-codes a z) (closing-codes code closes)
    where
      go : (a ≡ register_code) ⊎ (a ≡ fifo_code) → (code ≡ register_code) ⊎ (code ≡ fifo_code) → a ≡ 15 - code
      go (inl p) (inl q) = absurd (f (p ∙ sym q))
      go (inl p) (inr q) = omega arith
      go (inr p) (inl q) = omega arith
      go (inr p) (inr q) = absurd (f (p ∙ sym q))

  small : code ≤ 8
  small = closing-small code closes

  both-marked : (word : ℕ) → marks_seed word (15 - code) ≡ true → MarkedWith word code 15
  unfolding marks_seed
  both-marked word h =
      record {
        has = simp (ne_eqb 15 code (λ z. omega (arith, small))) tt;
        others = λ a z f. rw (other a z f) (simp (ne_eqb 15 (15 - code) (λ z. omega (arith, some))) (sym h));
      }
    where
      some : 0 < code
      some = go (closing-codes code closes)
        where
          go : (code ≡ register_code) ⊎ (code ≡ fifo_code) → 0 < code
          go (inl q) = omega arith
          go (inr q) = omega arith

  newly-marked : (word : ℕ) → marks_seed word (15 - code) ≡ false → MarkedWith word code code
  unfolding marks_seed
  newly-marked word h =
      record {
        has = simp (eq-eqb code code refl) tt;
        others = λ a z f. rw (other a z f) (simp (ne_eqb code (15 - code) (λ z. other_differs code closes (sym z)), ne_eqb code 15 (λ z. omega (arith, small))) (sym h));
      }

pub overflow_sub-code : goal.overflow_sub-code
overflow_sub-code c = omega (arith, small _ c.requires)

pub returns-then-marks_seed-2 : goal.returns-then-marks_seed-2
returns-then-marks_seed-2 c = both-marked _ c.requires _ (sym c.marks_seed-else-marks_seed.ensures ∙ c.if-marks_seed-2.true)

pub returns-else-marks_seed-2 : goal.returns-else-marks_seed-2
returns-else-marks_seed-2 c = newly-marked _ c.requires _ (sym c.marks_seed-else-marks_seed.ensures ∙ c.if-marks_seed-2.false)
