-- The smallest period, where a longer period keeps a route: the first that passes is found between one that fails and one that passes.
use Prim.Native.Nat.{ℕ, zero, suc, ◌+◌, ◌≤◌, ◌<◌}
use mathlib.Core.Bool.{Bool, true, false}
use mathlib.Core.Path.{◌≡◌, sym, ◌∙◌}
use mathlib.Core.Logic.{◌⊎◌, inl, inr}
use native.Mathlib.Omega.{arith}
use Rattle.plan.proofs.Truth.{is_true, of-true, split, three-way}
use Rattle.budget.specs.Emission.{first_from}
use Rattle.budget.proofs.Emit.{First, first-right}

not-below : (test : ℕ → Bool) (count from : ℕ) → from ≤ first_from test from count
unfolding first_from
not-below test zero from = omega arith
not-below test (suc count) from = go (test from) (not-below test count (suc from))
  where
    go : (b : Bool) → suc from ≤ first_from test (suc from) count → from ≤ elim b [ true ↦ from | false ↦ first_from test (suc from) count ]
    go true h = omega arith
    go false h = omega arith

module _ (test : ℕ → Bool) (count : ℕ) (grows : (t u : ℕ) → 1 ≤ t → t ≤ u → u ≤ count → test t ≡ true → test u ≡ true) where
  abbrev x : ℕ
  x = first_from test 1 count

  first : First test 1 count x
  first = first-right test count 1

  pub fails-before : (t : ℕ) → 1 ≤ t → t < first_from test 1 count → test t ≡ true → ⊥
  fails-before t h k e = first.before t h k (of-true (test t) e)

  pub first-least : 1 ≤ first_from test 1 count
  first-least = not-below test count 1

  pub first_passes : first_from test 1 count ≤ count → test (first_from test 1 count) ≡ true
  first_passes h = is_true (test x) (first.passes (omega arith))

  -- it fails at h - 1 and passes at h
  pub first-is : (low high : ℕ) → 1 ≤ low → high ≡ low + 1 → high ≤ count → test low ≡ false → test high ≡ true → high ≡ first_from test 1 count
  first-is low high k e most fails passes = go (three-way high x)
    where
      go : (high ≡ x) ⊎ ((high < x) ⊎ (x < high)) → high ≡ x
      go (inl h) = h
      go (inr (inl h)) = absurd (fails-before high (omega arith) h passes)
      go (inr (inr h)) =
          let here = first_passes (omega arith) in
          absurd (of-true false (sym fails ∙ grows x low first-least (omega arith) (omega arith) here))

  -- it fails at the last: none passes
  pub first-none : test count ≡ false → count < first_from test 1 count
  first-none fails = go (split x count)
    where
      go : (x ≤ count) ⊎ (count < x) → count < x
      go (inl h) =
          let here = first_passes (omega arith) in
          absurd (of-true false (sym fails ∙ grows x count first-least h (omega arith) here))
      go (inr h) = h
