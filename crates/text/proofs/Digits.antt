-- A number in decimal: the two equations that say it, and how long it is.
use Prim.Native.Nat.{ℕ, zero, suc, ◌/◌, ◌%◌, ◌^◌, ◌≤◌, ◌<◌}
use mathlib.Core.Path.{◌≡◌, refl, ap}
use mathlib.Core.Bool.{Bool, true, false}
use mathlib.Core.List.{List, [], ◌∷◌, ◌++◌}
use native.Mathlib.Omega.{arith}
use lib.Dec.{ltb}
use lib.ListN.{length, length-append}
use borrow.Author.Tests.{lt-ltb, le-ltb, ltb-true, ltb-false}
use Rattle.text.specs.Decimal.{digit, spelled, decimal}

-- fuel that is no less than the number suffices
enough : (f g n : ℕ) → n ≤ f → n ≤ g → spelled f (ltb n 10) n ≡ spelled g (ltb n 10) n
unfolding spelled
enough zero g n h k = base g (ltb n 10) (lt-ltb n 10 (omega arith))
  where
    base : (g : ℕ) (b : Bool) → b ≡ true → digit n ∷ [] ≡ spelled g b n
    base zero b e = refl
    base (suc g) b e = rw (e, spelled)
enough (suc f) g n h k = step g (ltb n 10) refl k (λ g' a b. enough f g' (n / 10) a b)
  where
    step : (g : ℕ) (b : Bool) → ltb n 10 ≡ b → n ≤ g → ((g' : ℕ) → n / 10 ≤ f → n / 10 ≤ g' → spelled f (ltb (n / 10) 10) (n / 10) ≡ spelled g' (ltb (n / 10) 10) (n / 10)) → spelled (suc f) b n ≡ spelled g b n
    step zero true e k again = refl
    step (suc g) true e k again = refl
    step zero false e k again = absurd (omega (arith, ltb-false n 10 e))
    step (suc g) false e k again =
        ap (λ (ds : List ℕ). ds ++ (digit (n % 10) ∷ [])) (again g (omega (arith, ltb-false n 10 e)) (omega (arith, ltb-false n 10 e)))

pub decimal-one : (n : ℕ) → n < 10 → digit n ∷ [] ≡ decimal n
unfolding decimal spelled
decimal-one zero h = refl
decimal-one (suc n) h = rw (lt-ltb (suc n) 10 h, spelled)

pub decimal-more : (n : ℕ) → 10 ≤ n → decimal (n / 10) ++ (digit (n % 10) ∷ []) ≡ decimal n
unfolding decimal spelled
decimal-more zero h = absurd (omega arith)
decimal-more (suc n) h =
    rw (le-ltb (suc n) 10 h, spelled)
    (ap (λ (ds : List ℕ). ds ++ (digit (suc n % 10) ∷ [])) (enough (suc n / 10) n (suc n / 10) (omega arith) (omega arith)))

-- a number below 10 ^ k has at most k digits
pub decimal-length : (k n : ℕ) → n < 10 ^ suc k → length (decimal n) ≤ suc k
decimal-length zero n h = omega (arith, ap length (decimal-one n h))
decimal-length (suc k) n h = go (ltb n 10) refl (decimal-length k (n / 10))
  where
    go : (b : Bool) → ltb n 10 ≡ b → (n / 10 < 10 ^ suc k → length (decimal (n / 10)) ≤ suc k) → length (decimal n) ≤ suc (suc k)
    go true e again = omega (arith, ap length (decimal-one n (ltb-true n 10 e)))
    go false e again =
        omega (arith, again (omega arith), ap length (decimal-more n (ltb-false n 10 e)), length-append (decimal (n / 10)) (digit (n % 10) ∷ []))
