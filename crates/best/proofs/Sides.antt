-- All sides: the exits of each side are complete, by induction from the source's side on; so are the labels from which the route is written.
use Prim.Native.Nat.{ℕ, zero, suc, ◌+◌, ◌-◌, ◌≤◌, ◌<◌}
use mathlib.Core.List.{[]}
use mathlib.Core.Logic.{◌⊎◌, inl, inr}
use native.Mathlib.Omega.{arith}
use Rattle.rules.specs.Rules.{Rules, register_code, fifo_code}
use Rattle.plan.proofs.Truth.{split}
use Rattle.budget.specs.Done.{NotAfter, After, Covers, Labelled, Lawful}
use Rattle.budget.proofs.Done.{after_more}
use Rattle.budget.proofs.Search.{covers-later}
use Rattle.budget.proofs.HandOver.{no-exits}
use Rattle.best.specs.Rows.{Bounded}
use Rattle.best.specs.Labels.{labels_listed, by_code}
use Rattle.best.specs.Search.{Labelling, Found, search_side, labelling, exits_of}
use Rattle.best.specs.Best.{exits_at, labels_at}
use Rattle.best.proofs.Labels.{none-known}
use Rattle.best.proofs.Search.{Right, least, never, search-right}

module _ (R : Rules) (law : Lawful R) (bounded : Bounded R) where
  exits-right : (more f : ℕ) → R.fifos ≤ f + more → (w t : ℕ) → Covers (After R f fifo_code) w t (labels_listed (exits_of R more f))
  unfolding exits_of labelling
  exits-right zero f h = no-exits R f (omega arith) (labels_listed []) none-known
  exits-right (suc more) f h = go (search-right R law bounded (suc f) (exits_of R more (suc f)) (exits-right more (suc f) (omega arith)))
    where
      go : {x : Found} → Right R (suc f) (exits_of R more (suc f)) x → (w t : ℕ) → Covers (After R f fifo_code) w t (labels_listed (labelling x).watched)
      go (least z labels fewest) = absurd (omega arith)
      go (never nowhere labels watched) = watched

  pub exits-complete : (f w t : ℕ) → Covers (After R f fifo_code) w t (labels_listed (exits_at R f))
  unfolding exits_at
  exits-complete f = exits-right (R.fifos - f) f (omega arith)

  -- the search of the sink's side
  pub sink-right : Right R 0 (exits_at R 0) (search_side R (exits_at R 0) 0)
  sink-right = search-right R law bounded 0 (exits_at R 0) (exits-complete 0)

  -- the labels of all sides, if those of the sink's side are complete within weight k
  pub sides-labelled : (k q : ℕ) (m : Labelling) → Labelled R 0 k q (by_code m.registers (exits_at R 0)) → (f p : ℕ) → p ≤ k → Labelled R f p 0 (labels_at R m f)
  unfolding labels_at labelling
  sides-labelled k q m labels zero p h =
      record {
        registers = covers-later (After R 0 register_code) (λ w s n p q. after_more p q) _ 0 labels.registers (λ c. after_more _ q (lower (split k p)));
        fifos = labels.fifos;
      }
    where
      lower : (k ≤ p) ⊎ (p < k) → NotAfter (R.weight 0 + p) 0 (R.weight 0 + k) q
      lower (inl e) = inr (omega arith, omega arith)
      lower (inr e) = inl (omega arith)
  sides-labelled k q m labels (suc f) p h = go (search-right R law bounded (suc f) (exits_at R (suc f)) (exits-complete (suc f)))
    where
      go : {x : Found} → Right R (suc f) (exits_at R (suc f)) x → Labelled R (suc f) p 0 (by_code (labelling x).registers (exits_at R (suc f)))
      go (least z labels fewest) = absurd (omega arith)
      go (never nowhere labels watched) = labels p 0
