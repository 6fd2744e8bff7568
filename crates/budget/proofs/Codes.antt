-- Codes from 1 to 6 are buffers, and close no span.
use Prim.Native.Nat.{ℕ, suc, ◌≤◌, ◌<◌}
use mathlib.Core.Bool.{not}
use mathlib.Core.Logic.{◌⊎◌, inl, inr}
use mathlib.Core.Path.{◌≡◌}
use native.Mathlib.Omega.{arith}
use lib.Dec.{T, T_not}
use Rattle.rules.specs.Rules.{register_code, fifo_code, is_closing}
use Rattle.plan.proofs.Truth.{split}
use Rattle.rules.proofs.View.{register-closing, fifo-closing, open_code}

pub buffer-open : (i : ℕ) → i < 6 → T (not (is_closing (suc i)))
buffer-open i h = open_code (suc i) (λ e. omega arith) (λ e. omega arith)

pub open-buffer : (i : ℕ) → suc i ≤ fifo_code → T (not (is_closing (suc i))) → i < 6
open-buffer i h no_close = go (split 6 i)
  where
    seven : suc i ≡ register_code → ⊥
    seven e = T_not (is_closing (suc i)) no_close (register-closing (suc i) e)

    eight : suc i ≡ fifo_code → ⊥
    eight e = T_not (is_closing (suc i)) no_close (fifo-closing (suc i) e)

    go : (6 ≤ i) ⊎ (i < 6) → i < 6
    go (inl q) = absurd (omega (arith, seven, eight))
    go (inr q) = q
