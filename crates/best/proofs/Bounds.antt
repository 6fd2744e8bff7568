-- A state that can be done has a delay below the closing bound, so the budgets have a most; so have the seeds.
use Prim.Native.Nat.{ℕ, ◌+◌, ◌*◌, ◌≤◌, ◌<◌}
use mathlib.Core.Path.{◌≡◌}
use mathlib.Core.Logic.{◌⊎◌, inl, inr}
use native.Mathlib.Omega.{arith}
use lib.Dec.{T}
use Rattle.rules.specs.Rules.{Stage, Rules, register_code, fifo_code, is_closing}
use Rattle.rules.specs.Legal.{Route, arrive, buffered, closing}
use Rattle.plan.proofs.Truth.{split}
use Rattle.rules.proofs.View.{Ending, ending-view, closing-codes}
use Rattle.budget.specs.Table.{Table, Represents, budget_sum}
use Rattle.budget.specs.Done.{stage, Done, Labels, Lawful, seed_at}
use Rattle.budget.proofs.Sums.{count, count_most, count-more, count-grows, total-most}
use Rattle.best.specs.Search.{most_sum}

ending-timely : {R : Rules} → Lawful R → {c i f : ℕ} {st : Stage} {vs : Route} → Ending R c i f st vs → st.delay < R.bound 0 f
unfolding arrive buffered closing
ending-timely law {i = i} {f = f} (Ending.ends h) = omega (arith, h.closed, law.steady i f)
ending-timely law (Ending.passes h e) = omega (arith, ending-timely law e)
ending-timely law (Ending.buffers h e) = omega (arith, ending-timely law e)
ending-timely law {i = i} {f = f} (Ending.closes h e) = omega (arith, h.closed, law.steady i f)

done-timely : {R : Rules} → Lawful R → {f w s c l d : ℕ} → Done R f w s c l d → d < R.bound 0 f
done-timely {R} law {f = f} {c = c} {l = l} {d = d} x = ending-timely law (ending-view R c 0 f (stage l d) x.route x.ending)

-- so a budget is at most the closing bound, and their sum has a most
module _ (R : Rules) (law : Lawful R) (f : ℕ) {w s : ℕ} {A : Table} (rep : Represents A (Done R f w s)) where
  budget-most : (c l : ℕ) → A c l ≤ R.bound 0 f
  budget-most c l = go (split (A c l) (R.bound 0 f))
    where
      go : (A c l ≤ R.bound 0 f) ⊎ (R.bound 0 f < A c l) → A c l ≤ R.bound 0 f
      go (inl h) = h
      go (inr h) = absurd (omega (arith, done-timely law (rep.sound c l (R.bound 0 f) h)))

  pub budgets-most : budget_sum R A ≤ most_sum R f
  unfolding most_sum
  budgets-most = total-most R A (R.bound 0 f) budget-most

-- the number of seeds on n cells
abbrev pub seeds : ℕ → (ℕ → Labels) → ℕ → ℕ → ℕ
seeds n m k s = count n (seed_at m k s register_code) + count n (seed_at m k s fifo_code)

pub seeds-most : (n : ℕ) (m : ℕ → Labels) (k s : ℕ) → seeds n m k s ≤ 2 * n
seeds-most n m k s = omega (arith, count_most n (seed_at m k s register_code), count_most n (seed_at m k s fifo_code))

-- seeds stay seeds
module _ (n : ℕ) (m more : ℕ → Labels) (k s p q : ℕ) (stay : (code c : ℕ) → T (seed_at m k s code c) → T (seed_at more p q code c)) where
  pub seeds-more : seeds n m k s ≤ seeds n more p q
  seeds-more =
      omega (arith, count-more n (seed_at m k s register_code) (seed_at more p q register_code) (stay register_code), count-more n (seed_at m k s fifo_code) (seed_at more p q fifo_code) (stay fifo_code))

  -- and a label that comes in adds one
  pub seeds-grow : (code c : ℕ) → T (is_closing code) → c < n → (T (seed_at m k s code c) → ⊥) → T (seed_at more p q code c) → seeds n m k s < seeds n more p q
  seeds-grow code c shut h new t = go (closing-codes code shut)
    where
      go : (code ≡ register_code) ⊎ (code ≡ fifo_code) → seeds n m k s < seeds n more p q
      go (inl e) =
          omega (
            arith,
            count-grows n (seed_at m k s register_code) (seed_at more p q register_code) (stay register_code) c h (rw e at new) (rw e at t),
            count-more n (seed_at m k s fifo_code) (seed_at more p q fifo_code) (stay fifo_code),
          )
      go (inr e) =
          omega (
            arith,
            count-more n (seed_at m k s register_code) (seed_at more p q register_code) (stay register_code),
            count-grows n (seed_at m k s fifo_code) (seed_at more p q fifo_code) (stay fifo_code) c h (rw e at new) (rw e at t),
          )
