-- The exact seeds in the words are labels of one of the two sets. They stay with the labels' words, and so do the states that reach them.
use Prim.Native.Nat.{ℕ, zero, suc, ◌+◌, ◌*◌, ◌<◌}
use mathlib.Core.Path.{◌≡◌, sym, ◌∙◌}
use mathlib.Core.Logic.{◌⊎◌, inl, inr}
use mathlib.Core.List.{List}
use native.Mathlib.Omega.{arith}
use lib.Dec.{T}
use Rattle.rules.specs.Rules.{Rules, register_code, fifo_code}
use Rattle.budget.specs.Done.{Labels}
use Rattle.budget.specs.Table.{Table, RepresentsRow}
use Rattle.budget.specs.Emission.{exact_seed, Reaches}
use Rattle.budget.proofs.Reaches.{Exact, exact-test, exact-view, step-more}
use Rattle.layout.specs.Layout.{labels_at, exits_at, order_in}
use Rattle.rows.specs.Words.{Kept}
use Rattle.labels.specs.Labels.{labels_of, labels_for, SameLabel}
use Rattle.labels.proofs.Labels.{known-below, known_kept, label_kept, labels-register, labels-fifo, label-code, LabelsKept}

-- the exact seeds of a code, by the labels of its set

module _ (m : ℕ → Labels) {code : ℕ} {own : Labels} (e : m code ≡ own) where
  pub exact-label : (k u c : ℕ) → T (exact_seed m k u code c) → Exact own k u c
  exact-label k u c t = rw e at (exact-view m k u code c t)

  pub label-exact : (k u c : ℕ) → Exact own k u c → T (exact_seed m k u code c)
  label-exact k u c x = exact-test m k u code c (rw e x)

module _ (n exits : ℕ) (old new : List ℕ) (kept : LabelsKept n exits old new) where
  set-kept : (set : ℕ) → Kept set (set + n * order_in) old new → (k u c : ℕ) → Exact (labels_of n set old) k u c → Exact (labels_of n set new) k u c
  set-kept set stays k u c x =
      let s : SameLabel n set old new c = label_kept n set old new stays c (known-below n set old c x.known) in
      record { known = rw (known_kept n set old new stays c) x.known; same = s.weight ∙ x.same; early = omega (arith, s.steps, x.early) }

  exact-kept : (k u code c : ℕ) → T (exact_seed (labels_for n exits old) k u code c) → T (exact_seed (labels_for n exits new) k u code c)
  exact-kept k u code c t = go (label-code n exits old code c (exact-view (labels_for n exits old) k u code c t).known)
    where
      go : (code ≡ register_code) ⊎ ((code ≡ fifo_code) × (0 < exits)) → T (exact_seed (labels_for n exits new) k u code c)
      go (inl e) =
          rw e (label-exact (labels_for n exits new) (labels-register n exits new) k u c (set-kept (n * labels_at) kept.registers k u c (exact-label (labels_for n exits old) (labels-register n exits old) k u c (rw e at t))))
      go (inr e) =
          rw e.0 (label-exact (labels_for n exits new) (labels-fifo n exits new e.1) k u c (set-kept (n * exits_at) (kept.fifos e.1) k u c (exact-label (labels_for n exits old) (labels-fifo n exits old e.1) k u c (rw e.0 at t))))

  pub reaches-kept : (R : Rules) (f k u c l d : ℕ) → Reaches R (labels_for n exits old) f k u c l d → Reaches R (labels_for n exits new) f k u c l d
  reaches-kept R f k zero c l d x = x
  reaches-kept R f k (suc u) c l d x = step-more (λ code i. exact-kept k u code i) (λ c l d. reaches-kept R f k u c l d) c l d x

-- so a row of the states by the old labels is one by the new
pub row_kept : (n exits : ℕ) (old new : List ℕ) → LabelsKept n exits old new → (R : Rules) (f k u : ℕ) {A : Table} {c : ℕ} → RepresentsRow A (Reaches R (labels_for n exits old) f k u) c → RepresentsRow A (Reaches R (labels_for n exits new) f k u) c
row_kept n exits old new kept R f k u {c = c} row =
    record {
      sound = λ l d h. reaches-kept n exits old new kept R f k u c l d (row.sound l d h);
      complete = λ l d x. row.complete l d (reaches-kept n exits new old back R f k u c l d x);
    }
  where
    back : LabelsKept n exits new old
    back = record { registers = λ i lo hi. sym (kept.registers i lo hi); fifos = λ h i lo hi. sym (kept.fifos h i lo hi) }
