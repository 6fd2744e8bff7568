-- Laws of the sum of a function below n.
use Rattle.std.proofs.Common.{ℕ, zero, suc, ◌+◌, ◌*◌, ◌≤◌, ◌<◌, ◌≡◌, refl, ◌⊎◌, inl, inr, arith, suc-mul}
use Rattle.plan.proofs.Truth.{equal}
use Rattle.lists.specs.Lists.{sum_below}

-- functions equal at each point have equal sums
pub sum_same : (n : ℕ) (f g : ℕ → ℕ) → ((c : ℕ) → c < n → f c ≡ g c) → sum_below n f ≡ sum_below n g
unfolding sum_below
sum_same zero f g h = refl
sum_same (suc n) f g h = cc (sum_same n f g (λ c k. h c (omega arith)), h n (omega arith))

pub sum_bound : (n b : ℕ) (f : ℕ → ℕ) → ((c : ℕ) → c < n → f c ≤ b) → sum_below n f ≤ n * b
unfolding sum_below
sum_bound zero b f h = omega arith
sum_bound (suc n) b f h = omega (arith, suc-mul n b, sum_bound n b f (λ c k. h c (omega arith)), h n (omega arith))

-- the sum grows with its terms
pub sum-least : (n : ℕ) (f g : ℕ → ℕ) → ((i : ℕ) → i < n → f i ≤ g i) → sum_below n f ≤ sum_below n g
unfolding sum_below
sum-least zero f g h = omega arith
sum-least (suc n) f g h = omega (arith, h n (omega arith), sum-least n f g (λ i k. h i (omega arith)))

pub sum-grows : (n : ℕ) (f g : ℕ → ℕ) (at : ℕ) → ((i : ℕ) → i < n → f i ≤ g i) → at < n → f at < g at → sum_below n f < sum_below n g
unfolding sum_below
sum-grows zero f g at h k m = absurd (omega arith)
sum-grows (suc n) f g at h k m = go (sum-grows n f g at (λ i q. h i (omega arith))) (equal at n)
  where
    go : (at < n → f at < g at → sum_below n f < sum_below n g) → (at ≡ n) ⊎ (at ≡ n → ⊥) → sum_below n f + f n < sum_below n g + g n
    go r (inl e) =
        let q : f n < g n = rw e at m in
        omega (arith, sum-least n f g (λ i q. h i (omega arith)))
    go r (inr e) = omega (arith, r (omega arith) m, h n (omega arith))

-- each term is within the sum
pub sum-part : (n : ℕ) (f : ℕ → ℕ) (at : ℕ) → at < n → f at ≤ sum_below n f
unfolding sum_below
sum-part zero f at h = absurd (omega arith)
sum-part (suc n) f at h = go (sum-part n f at) (equal at n)
  where
    go : (at < n → f at ≤ sum_below n f) → (at ≡ n) ⊎ (at ≡ n → ⊥) → f at ≤ sum_below n f + f n
    go r (inl e) = rw e (omega arith)
    go r (inr e) = omega (arith, r (omega arith))

-- the sum is 0 just where each term is
pub sum-none : (n : ℕ) (f : ℕ → ℕ) → ((c : ℕ) → c < n → f c ≡ 0) → sum_below n f ≡ 0
sum-none n f h = omega (arith, sum_bound n 0 f (λ c k. omega (arith, h c k)))

pub sum-zero : (n : ℕ) (f : ℕ → ℕ) (at : ℕ) → sum_below n f ≡ 0 → at < n → f at ≡ 0
sum-zero n f at e h = omega (arith, sum-part n f at h)

-- one term grows from 0 to 1
pub sum_more : (n : ℕ) (f g : ℕ → ℕ) (at : ℕ) → at < n → f at ≡ 0 → g at ≡ 1 → ((c : ℕ) → c < n → (c ≡ at → ⊥) → g c ≡ f c) → sum_below n g ≡ sum_below n f + 1
unfolding sum_below
sum_more zero f g at h p q k = absurd (omega arith)
sum_more (suc n) f g at h p q k = go (sum_more n f g at) (equal at n)
  where
    go : (at < n → f at ≡ 0 → g at ≡ 1 → ((c : ℕ) → c < n → (c ≡ at → ⊥) → g c ≡ f c) → sum_below n g ≡ sum_below n f + 1) → (at ≡ n) ⊎ (at ≡ n → ⊥) → sum_below n g + g n ≡ (sum_below n f + f n) + 1
    go r (inl e) =
        let z : f n ≡ 0 = rw e at p in
        let o : g n ≡ 1 = rw e at q in
        omega (arith, sum_same n g f (λ c l. k c (omega arith) (λ x. omega arith)))
    go r (inr e) = omega (arith, r (omega arith) p q (λ c l. k c (omega arith)), k n (omega arith) (λ x. omega arith))

-- bits, one of them 0
pub sum-short : (n : ℕ) (f : ℕ → ℕ) (at : ℕ) → ((c : ℕ) → c < n → f c ≤ 1) → at < n → f at ≡ 0 → sum_below n f < n
unfolding sum_below
sum-short zero f at b h p = absurd (omega arith)
sum-short (suc n) f at b h p = go (sum-short n f at) (equal at n)
  where
    less : (c : ℕ) → c < n → f c ≤ 1
    less c k = b c (omega arith)

    go : (((c : ℕ) → c < n → f c ≤ 1) → at < n → f at ≡ 0 → sum_below n f < n) → (at ≡ n) ⊎ (at ≡ n → ⊥) → sum_below n f + f n < suc n
    go r (inl e) =
        let z : f n ≡ 0 = rw e at p in
        omega (arith, sum_bound n 1 f less)
    go r (inr e) = omega (arith, r less (omega arith) p, b n (omega arith))
