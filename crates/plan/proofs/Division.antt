-- Cell numbers as row × width + column: what a step to the right and a step down do to row and column, and that row and column fix the cell.
use Prim.Native.Nat.{ℕ, ◌+◌, ◌-◌, ◌*◌, ◌/◌, ◌%◌, ◌<◌}
use mathlib.Core.Path.{◌≡◌}
use native.Mathlib.Nat.{div-add-mod', div-lt_iff_lt-mul, mod-lt, add-mod_right, add-div_right, add-mul, one-mul}
use native.Mathlib.Omega.{arith}
use lib.Arith.{digits_lt, digits_div, digits_mod}

module _ (w : ℕ) (wide : 0 < w) where
  -- the step right, inside a row
  pub right-row : (c : ℕ) → c % w + 1 < w → (c + 1) / w ≡ c / w
  right-row c h =
      let e : c + 1 ≡ c / w * w + (c % w + 1) = omega (arith, div-add-mod' c w) in
      rw e (digits_div (c / w) h)

  pub right-column : (c : ℕ) → c % w + 1 < w → (c + 1) % w ≡ c % w + 1
  right-column c h =
      let e : c + 1 ≡ c / w * w + (c % w + 1) = omega (arith, div-add-mod' c w) in
      rw e (digits_mod (c / w) h)

  pub right-in : (n c : ℕ) → c % w + 1 < w → c < n * w → c + 1 < n * w
  right-in n c h i =
      let e : c + 1 ≡ c / w * w + (c % w + 1) = omega (arith, div-add-mod' c w) in
      rw e (digits_lt ((div-lt_iff_lt-mul wide).1 i) h)

  -- the step left, inside a row
  pub left-column : (c : ℕ) → 0 < c % w → (c - 1) % w + 1 ≡ c % w
  left-column c h =
      let e : c - 1 ≡ c / w * w + (c % w - 1) = omega (arith, div-add-mod' c w) in
      let r : c % w - 1 < w = omega (arith, mod-lt c wide) in
      rw (e, digits_mod (c / w) r) (omega arith)

  -- the step down
  pub down-row : (c : ℕ) → (c + w) / w ≡ c / w + 1
  down-row c = add-div_right c wide

  pub down-column : (c : ℕ) → (c + w) % w ≡ c % w
  down-column c = add-mod_right c w

  pub right_is : (a b : ℕ) → b / w ≡ a / w → b % w ≡ a % w + 1 → b ≡ a + 1
  right_is a b e f = omega (arith, div-add-mod' a w, rw (e, f) at (div-add-mod' b w))

  pub down_is : (a b : ℕ) → b / w ≡ a / w + 1 → b % w ≡ a % w → b ≡ a + w
  down_is a b e f = omega (arith, div-add-mod' a w, rw (e, f, add-mul, one-mul) at (div-add-mod' b w))
