-- A layer depends on the seeds of the plan's cells alone; the order and its labels stay with their words.
use Rattle.std.proofs.Common.{ℕ, ◌+◌, ◌*◌, ◌<◌, ◌≡◌, refl, Bool, true, false, List, arith, T}
use Rattle.rules.specs.Rules.{Rules, is_closing}
use Rattle.budget.specs.Table.{Table, Seeds, arrival, given, layer}
use Rattle.budget.proofs.Active.{max-same, arrival-row, given-row}
use Rattle.layout.specs.Layout.{order_in, label_words}
use Rattle.rows.specs.Words.{Kept}
use Rattle.labels.specs.Labels.{weight_of, steps_of, order_of, Ordered, SameLabel}
use Rattle.labels.proofs.Labels.{label_kept, ordered-count}

pub bool_same : (a b : Bool) → (T a → T b) → (T b → T a) → a ≡ b
bool_same true true f g = refl
bool_same true false f g = absurd (f tt)
bool_same false true f g = absurd (g tt)
bool_same false false f g = refl

pub layer-seeds : (R : Rules) (seed seed' : Seeds) (bound : ℕ) (A : Table) → ((code c : ℕ) → T (is_closing code) → c < R.cell_count → seed code c ≡ seed' code c) → (c l : ℕ) → layer R seed bound A c l ≡ layer R seed' bound A c l
unfolding layer
layer-seeds R seed seed' bound A same c l =
    rw
    (max-same R.cell_count (λ n. given R (arrival R seed bound A) n c l) (λ n. given R (arrival R seed' bound A) n c l)
    (λ n h. given-row R (arrival R seed' bound A) (arrival R seed bound A) n (arrival-row R seed' seed bound A A n (λ l. refl) (λ code z. same code n z h)) c l))

module _ (n set : ℕ) (old new : List ℕ) (count : ℕ) (o : Ordered n set old count) (kept : Kept set (set + n * label_words) old new) where
  pub order_same : (i : ℕ) → i < count → order_of n set new i ≡ order_of n set old i
  order_same i h = kept (set + n * order_in + i) (omega arith) (omega (arith, ordered-count o))

  label_same : (i : ℕ) → i < count → SameLabel n set old new (order_of n set old i)
  label_same i h = label_kept n set old new (λ k lo hi. kept k lo (omega arith)) (order_of n set old i) (o.cells i h)

  pub order-weight : (i : ℕ) → i < count → weight_of n set new (order_of n set new i) ≡ weight_of n set old (order_of n set old i)
  order-weight i h = rw (order_same i h) (label_same i h).weight

  pub order-steps : (i : ℕ) → i < count → steps_of n set new (order_of n set new i) ≡ steps_of n set old (order_of n set old i)
  order-steps i h = rw (order_same i h) (label_same i h).steps
