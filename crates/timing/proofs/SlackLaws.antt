-- Laws of the spare figure: its sign is the period test, a delay that stops at a cap gives the same figure; the order of figures and the smaller of two.
use Prim.Native.Nat.{ℕ, suc, ◌+◌, ◌-◌, ◌≤◌, ◌<◌, min}
use mathlib.Core.Path.{◌≡◌, refl, sym, ap, ◌∙◌}
use mathlib.Core.Bool.{Bool, true, false}
use mathlib.Core.Logic.{◌⊎◌, inl, inr}
use native.Mathlib.Omega.{arith}
use borrow.Author.Tests.{le-leb, lt-leb, le-ltb, lt-ltb, leb-true, leb-false}
use lib.Dec.{T, leb, ltb, ltb→lt, nltb→le, le→leb, leb→le}
use lib.IntN.{ℤ, pos, negsuc, ◌-ℤ◌}
use lib.Signed.{lt_z, le_z, ◌≤ℤ◌, le_z_yes, lt_z_no, ≤ℤ_refl}
use Rattle.timing.specs.Slack.{miss_most, slack_of, smaller}
use Rattle.timing.proofs.Signed.{by-test, difference-is}

-- "zero when it just fits, below zero by the miss"
pub slack-sign : (allowed used : ℕ) → le_z (pos 0) (slack_of allowed used) ≡ leb used allowed
unfolding slack_of
slack-sign allowed used =
    rw (difference-is allowed (min used (allowed + miss_most)))
    (by-test (ltb allowed (min used (allowed + miss_most))) (negsuc (min used (allowed + miss_most) - suc allowed)) (pos (allowed - min used (allowed + miss_most)))
    (λ z. le_z (pos 0) z ≡ leb used allowed)
    (λ t. sym (lt-leb used allowed (over (ltb→lt _ _ t))))
    (λ t. le-leb 0 (allowed - min used (allowed + miss_most)) (omega arith) ∙ sym (le-leb used allowed (under (nltb→le _ _ t)))))
  where
    over : allowed < min used (allowed + miss_most) → allowed < used
    over h = omega arith

    under : min used (allowed + miss_most) ≤ allowed → used ≤ allowed
    under h = omega arith

-- the same by a bound that the closing delay stays below
pub slack-below : (allowed used : ℕ) → le_z (pos 0) (slack_of allowed used) ≡ ltb used (allowed + 1)
slack-below allowed used = slack-sign allowed used ∙ go (leb used allowed) refl
  where
    go : (b : Bool) → leb used allowed ≡ b → leb used allowed ≡ ltb used (allowed + 1)
    go true e = e ∙ sym (lt-ltb used (allowed + 1) (omega (arith, leb-true used allowed e)))
    go false e = e ∙ sym (le-ltb used (allowed + 1) (omega (arith, leb-false used allowed e)))

-- a delay that stops at a cap gives the same figure
pub slack-capped : (allowed delay gate cap : ℕ) → allowed + miss_most ≤ cap → slack_of allowed (min delay cap + gate) ≡ slack_of allowed (delay + gate)
unfolding slack_of
slack-capped allowed delay gate cap h = ap (λ (n : ℕ). pos allowed -ℤ pos n) same
  where
    same : min (min delay cap + gate) (allowed + miss_most) ≡ min (delay + gate) (allowed + miss_most)
    same = omega arith

-- no figure is above what is allowed
pub slack-most : (allowed used most : ℕ) → allowed ≤ most → slack_of allowed used ≤ℤ pos most
unfolding slack_of
slack-most allowed used most h =
    rw (difference-is allowed (min used (allowed + miss_most)))
    (by-test (ltb allowed (min used (allowed + miss_most))) (negsuc (min used (allowed + miss_most) - suc allowed)) (pos (allowed - min used (allowed + miss_most)))
    (λ z. z ≤ℤ pos most)
    (λ t. le_z_yes tt) (λ t. le_z_yes (le→leb (allowed - min used (allowed + miss_most)) most (omega arith))))

-- the order of figures
pub le_trans : {a b c : ℤ} → a ≤ℤ b → b ≤ℤ c → a ≤ℤ c
le_trans {a} {b} {c} h k = record { le = go a b c h.le k.le }
  where
    go : (a b c : ℤ) → T (le_z a b) → T (le_z b c) → T (le_z a c)
    go (pos a) (pos b) (pos c) h k = le→leb a c (le-le (leb→le a b h) (leb→le b c k))
      where
        le-le : a ≤ b → b ≤ c → a ≤ c
        le-le p q = omega arith
    go (pos a) (pos b) (negsuc c) h k = k
    go (pos a) (negsuc b) c h k = absurd h
    go (negsuc a) b (pos c) h k = tt
    go (negsuc a) (pos b) (negsuc c) h k = absurd k
    go (negsuc a) (negsuc b) (negsuc c) h k = le→leb c a (le-le (leb→le b a h) (leb→le c b k))
      where
        le-le : b ≤ a → c ≤ b → c ≤ a
        le-le p q = omega arith

pub le_antisym : {a b : ℤ} → a ≤ℤ b → b ≤ℤ a → a ≡ b
le_antisym {a} {b} h k = go a b h.le k.le
  where
    go : (a b : ℤ) → T (le_z a b) → T (le_z b a) → a ≡ b
    go (pos a) (pos b) h k = ap pos (same (leb→le a b h) (leb→le b a k))
      where
        same : a ≤ b → b ≤ a → a ≡ b
        same p q = omega arith
    go (pos a) (negsuc b) h k = absurd h
    go (negsuc a) (pos b) h k = absurd k
    go (negsuc a) (negsuc b) h k = ap negsuc (same (leb→le a b k) (leb→le b a h))
      where
        same : a ≤ b → b ≤ a → a ≡ b
        same p q = omega arith

lt-le : (a b : ℤ) → T (lt_z a b) → T (le_z a b)
lt-le (pos a) (pos b) h = le→leb a b (less (ltb→lt a b h))
  where
    less : a < b → a ≤ b
    less p = omega arith
lt-le (pos a) (negsuc b) h = h
lt-le (negsuc a) (pos b) h = tt
lt-le (negsuc a) (negsuc b) h = le→leb b a (less (ltb→lt b a h))
  where
    less : b < a → b ≤ a
    less p = omega arith

-- the smaller is at most each of the two, and one of them
pub smaller-left : (a b : ℤ) → smaller a b ≤ℤ a
unfolding smaller
smaller-left a b = by-test (lt_z b a) b a (λ z. z ≤ℤ a) (λ t. le_z_yes (lt-le b a t)) (λ t. ≤ℤ_refl a)

pub smaller-right : (a b : ℤ) → smaller a b ≤ℤ b
unfolding smaller
smaller-right a b = by-test (lt_z b a) b a (λ z. z ≤ℤ b) (λ t. ≤ℤ_refl b) (λ t. lt_z_no t)

pub smaller-either : (a b : ℤ) → (smaller a b ≡ a) ⊎ (smaller a b ≡ b)
unfolding smaller
smaller-either a b = by-test (lt_z b a) b a (λ z. (z ≡ a) ⊎ (z ≡ b)) (λ t. inr refl) (λ t. inl refl)
