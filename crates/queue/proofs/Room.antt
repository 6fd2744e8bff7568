-- Numbers below `count` with different values below m: no more than m of them, and fewer where a value is left out.
use Prim.Native.Nat.{ℕ, zero, suc, ◌≤◌, ◌<◌}
use mathlib.Core.Path.{◌≡◌, refl}
use mathlib.Core.Bool.{Bool, true, false, not, cond, ◌&&◌}
use mathlib.Core.Logic.{◌⊎◌, inl, inr}
use native.Mathlib.Omega.{arith}
use lib.Dec.{T, ltb, eqb, T_not}
use Rattle.plan.proofs.Truth.{both, fst, snd, tests, decided}
use Rattle.lists.specs.Lists.{sum_below}
use Rattle.lists.proofs.Sums.{sum_bound, sum-grows, sum-short}

unfoldable bit : Bool → ℕ
bit b = cond b 1 0

bit-most : (b : Bool) → bit b ≤ 1
unfolding bit
bit-most true = omega arith
bit-most false = omega arith

bit-yes : (b : Bool) → T b → bit b ≡ 1
unfolding bit
bit-yes true h = refl
bit-yes false h = absurd h

bit-no : (b : Bool) → (T b → ⊥) → bit b ≡ 0
unfolding bit
bit-no true h = absurd (h tt)
bit-no false h = refl

bit-grows : (a b : Bool) → (T a → T b) → bit a ≤ bit b
bit-grows a b h = go (decided a)
  where
    go : T a ⊎ T (not a) → bit a ≤ bit b
    go (inl k) = omega (arith, bit-most a, bit-yes b (h k))
    go (inr k) = omega (arith, bit-no a (T_not a k))

module _ (m : ℕ) (f g : ℕ → ℕ) where
  -- x is the value of a number below count
  abbrev valued : ℕ → ℕ → Bool
  valued count x = ltb (g x) count && eqb (f (g x)) x

  valued-more : (count x : ℕ) → T (valued count x) → T (valued (suc count) x)
  valued-more count x h =
      both (ltb (g x) (suc count)) (eqb (f (g x)) x) (omega (arith, tests, fst (ltb (g x) count) (eqb (f (g x)) x) h)) (snd (ltb (g x) count) (eqb (f (g x)) x) h)

  values : (count : ℕ) → ((i : ℕ) → i < count → f i < m) → ((i : ℕ) → i < count → g (f i) ≡ i) → count ≤ sum_below m (λ x. bit (valued count x))
  values zero b e = omega arith
  values (suc count) b e =
      omega (arith, values count (λ i h. b i (omega arith)) (λ i h. e i (omega arith)), grows)
    where
      own : g (f count) ≡ count
      own = e count (omega arith)

      before : T (valued count (f count)) → ⊥
      before h = omega (arith, tests, own, fst (ltb (g (f count)) count) (eqb (f (g (f count))) (f count)) h)

      after : T (valued (suc count) (f count))
      after = rw own (both (ltb count (suc count)) (eqb (f count) (f count)) (omega (arith, tests)) (omega (arith, tests)))

      grows : sum_below m (λ x. bit (valued count x)) < sum_below m (λ x. bit (valued (suc count) x))
      grows =
          sum-grows m (λ x. bit (valued count x)) (λ x. bit (valued (suc count) x)) (f count) (λ x h. bit-grows (valued count x) (valued (suc count) x) (valued-more count x))
          (b count (omega arith)) (omega (arith, bit-no (valued count (f count)) before, bit-yes (valued (suc count) (f count)) after))

  module _ (count : ℕ) (b : (i : ℕ) → i < count → f i < m) (e : (i : ℕ) → i < count → g (f i) ≡ i) where
    pub room : count ≤ m
    room = omega (arith, values count b e, sum_bound m 1 (λ x. bit (valued count x)) (λ x h. bit-most (valued count x)))

    pub room_for : (x : ℕ) → x < m → (g x < count → f (g x) ≡ x → ⊥) → count < m
    room_for x h absent =
        omega (arith, values count b e, sum-short m (λ x. bit (valued count x)) x (λ x h. bit-most (valued count x)) h (bit-no (valued count x) out))
      where
        out : T (valued count x) → ⊥
        out t = absent (omega (arith, tests, fst (ltb (g x) count) (eqb (f (g x)) x) t)) (omega (arith, tests, snd (ltb (g x) count) (eqb (f (g x)) x) t))
