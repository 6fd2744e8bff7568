-- Labels held as lists: a relabelled list has the labels that the search asks for.
use Prim.Native.Nat.{ℕ, ◌≤◌, ◌<◌}
use mathlib.Core.Path.{◌≡◌, refl, ◌∙◌}
use mathlib.Core.Bool.{Bool, true, false, ◌&&◌, cond}
use mathlib.Core.List.{List, []}
use mathlib.Core.Logic.{◌⊎◌, inl, inr}
use native.Mathlib.Omega.{arith}
use lib.Dec.{T, ltb, ltb→lt, lt→ltb}
use lib.ListN.{get_or}
use Rattle.rules.specs.Rules.{Rules, register_code, is_closing, side_after}
use Rattle.rules.specs.Legal.{may_stand}
use Rattle.plan.proofs.Truth.{both, fst, snd, is_true, split}
use Rattle.budget.specs.Table.{Table, Represents}
use Rattle.budget.specs.Done.{Done, After, Lawful}
use Rattle.budget.specs.Search.{Relabelled}
use Rattle.budget.proofs.Short.{done-in-plan}
use Rattle.best.specs.Rows.{Bounded}
use Rattle.best.specs.Labels.{Label, unknown, known, is_known, label_weight, label_steps, labels_listed, places, relabel_at, relabel}
use Rattle.best.proofs.Rows.{list_at, list-past}

pub none-known : (c : ℕ) → T ((labels_listed []).known c) → ⊥
unfolding labels_listed is_known
none-known c h = h

-- one label

module _ (R : Rules) (code w s : ℕ) (A : Table) (c : ℕ) where
  label_kept : (x : Label) → T (is_known x) → relabel_at R code w s A c x ≡ x
  unfolding is_known relabel_at
  label_kept unknown h = absurd h
  label_kept (known v t) h = refl

  abbrev arrives : Bool
  arrives = may_stand R c code && ltb (R.fresh code).delay (A c (R.fresh code).load)

  label-added : (x : Label) → T (is_known (relabel_at R code w s A c x)) → (T (is_known x) → ⊥) → T arrives × ((label_weight (relabel_at R code w s A c x) ≡ w) × (label_steps (relabel_at R code w s A c x) ≡ s))
  unfolding is_known relabel_at label_weight label_steps
  label-added unknown h f = go arrives h
    where
      go : (b : Bool) → T (is_known (cond b (known w s) unknown)) → T b × ((label_weight (cond b (known w s) unknown) ≡ w) × (label_steps (cond b (known w s) unknown) ≡ s))
      go true h = (tt, (refl, refl))
      go false h = absurd h
  label-added (known v t) h f = absurd (f tt)

  label-every : (x : Label) → T arrives → T (is_known (relabel_at R code w s A c x))
  unfolding is_known relabel_at
  label-every unknown h = rw (is_true arrives h) tt
  label-every (known v t) h = tt

-- all labels

module _ (R : Rules) (law : Lawful R) (bounded : Bounded R) where
  -- where a span may close there is a place
  pub after-placed : {f code w s n : ℕ} → After R f code w s n → n < places R
  unfolding places
  after-placed (After.at_source a b c) = omega arith
  after-placed {f} {code} {w} {s} {n} (After.at_gate shut may x) = omega (arith, done-in-plan R law bounded.from_plan (side_after f code) w s n _ _ x)

  -- A is the table of the side after the gate; the source is labelled beforehand
  module _ (f code w s : ℕ) (shut : T (is_closing code)) (A : Table) (rep : Represents A (Done R (side_after f code) w s)) (list : List Label) (placed : (c : ℕ) → T ((labels_listed list).known c) → c < places R) (source : (n : ℕ) → code ≡ register_code → f ≡ R.fifos → n ≡ R.source → T ((labels_listed list).known n)) where
    label_at : (c : ℕ) → c < places R → get_or (relabel R code w s A list) c unknown ≡ relabel_at R code w s A c (get_or list c unknown)
    unfolding relabel
    label_at c h = list_at (λ c. relabel_at R code w s A c (get_or list c unknown)) (places R) c unknown h

    new-placed : (c : ℕ) → T ((labels_listed (relabel R code w s A list)).known c) → c < places R
    unfolding labels_listed relabel is_known
    new-placed c h = go (split (places R) c)
      where
        go : (places R ≤ c) ⊎ (c < places R) → c < places R
        go (inl q) = absurd (rw (list-past (λ c. relabel_at R code w s A c (get_or list c unknown)) (places R) 0 c unknown q) at h)
        go (inr q) = q

    pub relabel-right : Relabelled (After R f code) w s (labels_listed list) (labels_listed (relabel R code w s A list))
    unfolding labels_listed
    relabel-right = record { kept = kept; added = added; every = every }
      where
        old : ℕ → Label
        old c = get_or list c unknown

        new : ℕ → Label
        new c = get_or (relabel R code w s A list) c unknown

        kept : (c : ℕ) → T (is_known (old c)) → T (is_known (new c)) × ((label_weight (new c) ≡ label_weight (old c)) × (label_steps (new c) ≡ label_steps (old c)))
        kept c h =
            let e : new c ≡ old c = label_at c (placed c h) ∙ label_kept R code w s A c (old c) h in
            rw e (h, (refl, refl))

        added : (c : ℕ) → T (is_known (new c)) → (T (is_known (old c)) → ⊥) → After R f code w s c × ((label_weight (new c) ≡ w) × (label_steps (new c) ≡ s))
        added c h new-one =
            let e : new c ≡ relabel_at R code w s A c (old c) = label_at c (new-placed c h) in
            let q = label-added R code w s A c (old c) (rw e at h) new-one in
            (After.at_gate shut (fst (may_stand R c code) _ q.0) (rep.sound c _ _ (ltb→lt _ _ (snd (may_stand R c code) _ q.0))), rw e q.1)

        every : (c : ℕ) → After R f code w s c → T (is_known (new c))
        every c (After.at_source a b e) = (kept c (source c a b e)).0
        every c (After.at_gate shut may x) =
            rw (label_at c (after-placed (After.at_gate shut may x)))
            (label-every R code w s A c (old c) (both (may_stand R c code) _ may (lt→ltb _ _ (rep.complete c _ _ x))))
