-- The smallest period of a net: it has a route there, and at no shorter period.
use Prim.Native.Nat.{ℕ, ◌+◌, ◌≤◌, ◌<◌}
use mathlib.Core.Bool.{true, false}
use mathlib.Core.Path.{◌≡◌, sym, ap, ◌∙◌}
use mathlib.Core.Logic.{◌⊎◌, inl, inr}
use native.Mathlib.Omega.{arith}
use Rattle.plan.specs.Plan.{Plan}
use Rattle.plan.proofs.Truth.{of-true, split, equal}
use Rattle.timing.specs.declared.elements.Elements.{Elements}
use Rattle.timing.specs.Ranges.{period_min, period_max}
use Rattle.timing.specs.Valid.{Valid}
use Rattle.reasons.specs.Reasons.{routed_at, smallest_period}
use Rattle.reasons.proofs.Order.{later-routed}
use Rattle.reasons.proofs.Smallest as first

module _ (p : Plan) (e : Elements) (a b : ℕ) (valid : Valid e) where
  pub smallest-least : period_min ≤ smallest_period p e a b
  unfolding smallest_period routed_at
  smallest-least = first.first-least (routed_at p e a b) period_max (later-routed p e a b valid)

  pub smallest-routed : smallest_period p e a b ≤ period_max → routed_at p e a b (smallest_period p e a b) ≡ true
  unfolding smallest_period routed_at
  smallest-routed = first.first_passes (routed_at p e a b) period_max (later-routed p e a b valid)

  pub none_before : (t : ℕ) → period_min ≤ t → t < smallest_period p e a b → routed_at p e a b t ≡ true → ⊥
  unfolding smallest_period routed_at
  none_before = first.fails-before (routed_at p e a b) period_max (later-routed p e a b valid)

  -- none at `low`, one at the next
  pub smallest-is : (low high : ℕ) → period_min ≤ low → high ≡ low + 1 → high ≤ period_max → routed_at p e a b low ≡ false → routed_at p e a b high ≡ true → high ≡ smallest_period p e a b
  unfolding smallest_period routed_at
  smallest-is = first.first-is (routed_at p e a b) period_max (later-routed p e a b valid)

  -- none at the longest
  pub no-smallest : routed_at p e a b period_max ≡ false → period_max < smallest_period p e a b
  unfolding smallest_period routed_at
  no-smallest = first.first-none (routed_at p e a b) period_max (later-routed p e a b valid)

  -- one at the longest
  pub smallest-most : routed_at p e a b period_max ≡ true → smallest_period p e a b ≤ period_max
  smallest-most is = go (split (smallest_period p e a b) period_max)
    where
      go : (smallest_period p e a b ≤ period_max) ⊎ (period_max < smallest_period p e a b) → smallest_period p e a b ≤ period_max
      go (inl h) = h
      go (inr h) = absurd (none_before period_max (omega arith) h is)

  -- none at t, one at the longest
  pub below-longest : (t : ℕ) → t ≤ period_max → routed_at p e a b t ≡ false → routed_at p e a b period_max ≡ true → t < period_max
  below-longest t most none is = go (equal t period_max)
    where
      go : (t ≡ period_max) ⊎ (t ≡ period_max → ⊥) → t < period_max
      go (inl h) = absurd (of-true false (sym none ∙ (ap (routed_at p e a b) h ∙ is)))
      go (inr h) = omega arith
