-- Signed numbers of 32 bits: what the machine reads back, a difference of two naturals, and a number by its sign.
use Prim.Native.Nat.{ℕ, zero, suc, ◌+◌, ◌-◌, ◌<◌, ◌^◌}
use mathlib.Core.Path.{◌≡◌, refl, sym, ap, ◌∙◌, subst}
use mathlib.Core.Bool.{Bool, true, false, not, cond}
use native.Mathlib.Omega.{arith}
use borrow.Author.Tests.{le-ltb}
use lib.Dec.{T, ltb, ltb→lt}
use lib.IntN.{ℤ, pos, negsuc, sub_ℕ, ◌-ℤ◌}
use lib.Signed.{mag, lt_z}
use mir.Syntax.{w32}
use mir.Val.{SFits, to_z}
use mir.ValLaws.{to_z-of_z}

-- a number below 2 ^ 31 is read back as itself
pub read-natural : (n : ℕ) → n < 2 ^ 31 → to_z w32 n ≡ pos n
read-natural n h = to_z-of_z w32 (pos n) (record { sfits = h })

pub by-test : (b : Bool) (x y : ℤ) (P : ℤ → Type 0) → (T b → P x) → (T (not b) → P y) → P (cond b x y)
by-test true x y P f g = f tt
by-test false x y P f g = g tt

-- the difference of two naturals, by which is larger
pub difference-is : (a b : ℕ) → pos a -ℤ pos b ≡ sub_ℕ a b
difference-is a zero =
    by-test (ltb a 0) (negsuc (0 - suc a)) (pos (a - 0)) (λ z. pos (a + 0) ≡ z)
    (λ t. absurd (no (ltb→lt a 0 t))) (λ t. ap pos same)
  where
    no : a < 0 → ⊥
    no h = omega arith

    same : a + 0 ≡ a - 0
    same = omega arith
difference-is a (suc b) = refl

pub difference-fits : (a b : ℕ) → a < 2 ^ 31 → b < 2 ^ 31 → SFits w32 (pos a -ℤ pos b)
difference-fits a b h k =
    subst (SFits w32) (sym (difference-is a b))
    (by-test (ltb a b) (negsuc (b - suc a)) (pos (a - b)) (SFits w32)
    (λ t. record { sfits = omega arith }) (λ t. record { sfits = omega arith }))

clash : {P : Type 0} → true ≡ false → P
clash e = let z : ◌≡◌ {A = ℕ} 0 1 = cc in absurd (omega arith)

pub below-zero : (z : ℤ) → lt_z z (pos 0) ≡ true → z ≡ negsuc (mag z)
below-zero (pos n) e = clash (sym e ∙ le-ltb n 0 (omega arith))
below-zero (negsuc n) e = refl

pub not-below-zero : (z : ℤ) → lt_z z (pos 0) ≡ false → z ≡ pos (mag z)
not-below-zero (pos n) e = refl
not-below-zero (negsuc n) e = clash e

-- -1 less a number below zero
pub turned : (n : ℕ) → negsuc 0 -ℤ negsuc n ≡ pos n
turned n = let e : suc n - 1 ≡ n = omega arith in simp (le-ltb (suc n) 1 (omega arith), e)
