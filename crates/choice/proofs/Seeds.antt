-- The seed at one cell, by the words of its label: one more than the weight to go, 0 for no label.
use Prim.Native.Nat.{ℕ, ◌<◌}
use mathlib.Core.Path.{◌≡◌, refl}
use mathlib.Core.Bool.{Bool, false, not}
use mathlib.Core.List.{List}
use mathlib.Core.Logic.{◌⊎◌, inl, inr}
use native.Mathlib.Omega.{arith}
use borrow.Author.Tests.{eq-eqb, ne_eqb}
use lib.Dec.{T, leb}
use Rattle.plan.proofs.Truth.{decided, is_true, is_false}
use Rattle.budget.specs.Done.{Labels}
use Rattle.budget.specs.Emission.{exact_seed}
use Rattle.labels.specs.Labels.{weight_word, known_of, weight_of, steps_of, labels_of, no_labels, labels_for}
use Rattle.labels.proofs.Labels.{word-known, word-unknown}
use Rattle.choice.specs.declared.State.{State}
use Rattle.choice.specs.Codes.{seed_in}

module _ (n set : ℕ) (words : List ℕ) (at : State) where
  abbrev c : ℕ
  c = at.cell

  abbrev seed : Bool
  seed = seed_in (labels_of n set words) at

  pub seed-none : weight_word n set words c ≡ 0 → seed ≡ false
  unfolding exact_seed
  seed-none e = simp (word-unknown n set words c e)

  -- a label of another weight
  pub seed-elsewhere : (weight_of n set words c ≡ at.weight → ⊥) → seed ≡ false
  unfolding exact_seed
  seed-elsewhere f = go (decided (known_of n set words c))
    where
      go : T (known_of n set words c) ⊎ T (not (known_of n set words c)) → seed ≡ false
      go (inl h) = simp (is_true (known_of n set words c) h, ne_eqb (weight_of n set words c) at.weight f)
      go (inr h) = simp (is_false (known_of n set words c) h)

  pub seed-label : c < n → (weight_word n set words c ≡ 0 → ⊥) → weight_of n set words c ≡ at.weight → seed ≡ leb (steps_of n set words c) at.steps
  unfolding exact_seed
  seed-label h some e =
      simp (is_true (known_of n set words c) (word-known n set words c h (omega (arith, some))), eq-eqb (weight_of n set words c) at.weight e)

-- the seed for a code is by the labels for this code
pub seed-code : (n exits : ℕ) (words : List ℕ) (at : State) (code : ℕ) (m : Labels) → labels_for n exits words code ≡ m → exact_seed (labels_for n exits words) at.weight at.steps code at.cell ≡ seed_in m at
unfolding exact_seed
seed-code n exits words at code m e = rw e

pub no-labels-seed : (at : State) → seed_in no_labels at ≡ false
unfolding exact_seed
no-labels-seed at = refl
