-- The start of a side's search: only the source is labelled, and only on its own side.
use Prim.Native.Nat.{ℕ, ◌≤◌, ◌<◌}
use mathlib.Core.Path.{◌≡◌, refl}
use mathlib.Core.Bool.{Bool, true, false, ◌&&◌, cond}
use mathlib.Core.Logic.{◌⊎◌, inl, inr}
use native.Mathlib.Omega.{arith}
use lib.Dec.{T, eqb, eqb→eq}
use lib.ListN.{get_or}
use Rattle.rules.specs.Rules.{Rules}
use Rattle.plan.proofs.Truth.{both, fst, snd, is_true, eq→eqb, split}
use Rattle.best.specs.Labels.{Label, unknown, known, is_known, label_weight, label_steps, labels_listed, places}
use Rattle.best.specs.Search.{start_labels}
use Rattle.best.proofs.Rows.{list_at, list-past}

module _ (R : Rules) (f n : ℕ) where
  abbrev is_source : Bool
  is_source = eqb f R.fifos && eqb n R.source

  abbrev label : Label
  label = get_or (start_labels R f).registers n unknown

  start-at : n < places R → label ≡ cond is_source (known 0 0) unknown
  unfolding start_labels
  start-at h = list_at (λ c. cond (eqb f R.fifos && eqb c R.source) (known 0 0) unknown) (places R) n unknown h

  start-past : places R ≤ n → label ≡ unknown
  unfolding start_labels
  start-past h = list-past (λ c. cond (eqb f R.fifos && eqb c R.source) (known 0 0) unknown) (places R) 0 n unknown h

  pub start-known : T ((labels_listed (start_labels R f).registers).known n) → (f ≡ R.fifos) × ((n ≡ R.source) × (((labels_listed (start_labels R f).registers).weight n ≡ 0) × ((labels_listed (start_labels R f).registers).steps n ≡ 0)))
  unfolding labels_listed is_known label_weight label_steps
  start-known h = go (split (places R) n)
    where
      by : (b : Bool) → label ≡ cond b (known 0 0) unknown → is_source ≡ b → T (is_known label) → (f ≡ R.fifos) × ((n ≡ R.source) × ((label_weight label ≡ 0) × (label_steps label ≡ 0)))
      by true e q h =
          let t : T is_source = rw q tt in
          (eqb→eq _ _ (fst (eqb f R.fifos) _ t), (eqb→eq _ _ (snd (eqb f R.fifos) _ t), rw e (refl, refl)))
      by false e q h = absurd (rw e at h)

      go : (places R ≤ n) ⊎ (n < places R) → (f ≡ R.fifos) × ((n ≡ R.source) × ((label_weight label ≡ 0) × (label_steps label ≡ 0)))
      go (inl q) = absurd (rw (start-past q) at h)
      go (inr q) = by is_source (start-at q) refl h

  pub start-source : f ≡ R.fifos → n ≡ R.source → T ((labels_listed (start_labels R f).registers).known n)
  unfolding labels_listed is_known places
  start-source e q =
      rw (start-at (omega arith), is_true is_source (both (eqb f R.fifos) _ (eq→eqb _ _ e) (eq→eqb _ _ q))) tt
