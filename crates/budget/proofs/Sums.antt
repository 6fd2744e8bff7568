-- Counts of the numbers that pass a test, and the sum of a table.
use Prim.Native.Nat.{ℕ, suc, ◌*◌, ◌≤◌, ◌<◌}
use mathlib.Core.Path.{◌≡◌}
use mathlib.Core.Bool.{Bool, true, false, cond}
use mathlib.Core.Logic.{◌⊎◌, inl, inr}
use native.Mathlib.Nat.{mul-one}
use native.Mathlib.Omega.{arith}
use lib.Dec.{T}
use Rattle.rules.specs.Rules.{Rules}
use Rattle.plan.proofs.Truth.{split}
use Rattle.budget.specs.Table.{Table, budget_sum}
use Rattle.lists.specs.Lists.{sum_below}
use Rattle.lists.proofs.Sums.{sum_bound, sum-least, sum-grows}

-- how many numbers below n pass a test

abbrev one : Bool → ℕ
one b = cond b 1 0

one-most : (b : Bool) → one b ≤ 1
one-most true = omega arith
one-most false = omega arith

one_more : (a b : Bool) → (T a → T b) → one a ≤ one b
one_more true true h = omega arith
one_more true false h = absurd (h tt)
one_more false b h = omega arith

one_grows : (a b : Bool) → (T a → ⊥) → T b → one a < one b
one_grows true b f h = absurd (f tt)
one_grows false true f h = omega arith
one_grows false false f h = absurd h

pub count : ℕ → (ℕ → Bool) → ℕ
count n test = sum_below n (λ c. one (test c))

pub count_most : (n : ℕ) (test : ℕ → Bool) → count n test ≤ n
unfolding count
count_most n test = omega (arith, sum_bound n 1 (λ c. one (test c)) (λ c i. one-most (test c)), mul-one n)

module _ (n : ℕ) (test more : ℕ → Bool) (stay : (c : ℕ) → T (test c) → T (more c)) where
  pub count-more : count n test ≤ count n more
  unfolding count
  count-more = sum-least n _ _ (λ c i. one_more (test c) (more c) (stay c))

  pub count-grows : (c : ℕ) → c < n → (T (test c) → ⊥) → T (more c) → count n test < count n more
  unfolding count
  count-grows c h f t = sum-grows n _ _ c (λ c i. one_more (test c) (more c) (stay c)) h (one_grows (test c) (more c) f t)

-- a table's sum

module _ (R : Rules) (A B : Table) (above : (c l : ℕ) → A c l ≤ B c l) where
  pub total-grows : (c l : ℕ) → c < R.cell_count → l ≤ R.limit → A c l < B c l → budget_sum R A < budget_sum R B
  unfolding budget_sum
  total-grows c l h k less =
      sum-grows R.cell_count _ _ c (λ c i. sum-least (suc R.limit) _ _ (λ l j. above c l)) h
      (sum-grows (suc R.limit) (A c) (B c) l (λ l j. above c l) (omega arith) less)

  -- a sum that does not grow leaves each number
  pub total-same : budget_sum R B ≤ budget_sum R A → (c l : ℕ) → c < R.cell_count → l ≤ R.limit → A c l ≡ B c l
  total-same same c l h k = go (split (B c l) (A c l))
    where
      go : (B c l ≤ A c l) ⊎ (A c l < B c l) → A c l ≡ B c l
      go (inl q) = omega (arith, above c l)
      go (inr q) = absurd (omega (arith, total-grows c l h k q))

pub total-most : (R : Rules) (A : Table) (x : ℕ) → ((c l : ℕ) → A c l ≤ x) → budget_sum R A ≤ R.cell_count * (suc R.limit * x)
unfolding budget_sum
total-most R A x h = sum_bound R.cell_count _ _ (λ c i. sum_bound (suc R.limit) x (A c) (λ l j. h c l))
