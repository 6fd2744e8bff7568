-- The states that close their span at an exact seed: each can be done, and where no ending has less weight, each that can be done is one. Their tables, layer by layer.
use Prim.Native.Nat.{ℕ, zero, suc, ◌+◌, ◌-◌, ◌≤◌, ◌<◌}
use mathlib.Core.Path.{◌≡◌, refl, subst}
use mathlib.Core.Bool.{Bool, not}
use mathlib.Core.List.{[], ◌∷◌}
use mathlib.Core.Logic.{◌⊎◌, inl, inr}
use native.Mathlib.Omega.{arith}
use lib.Dec.{T, leb→le, le→leb, eqb→eq}
use lib.ListN.{length}
use Rattle.rules.specs.Rules.{Rules, register_code, fifo_code, is_closing, side_after}
use Rattle.rules.specs.Legal.{Route, legal_from}
use Rattle.rules.specs.Ranking.{weigh}
use Rattle.plan.proofs.Truth.{both, parts, eq→eqb, decided}
use Rattle.rules.proofs.Figures.{weigh-none, ending-visits}
use Rattle.rules.proofs.View.{ending-view, closing-codes, register-closing, side-kept, closing-some, not-source, stands-between}
use Rattle.budget.specs.Table.{Table, States, Seeds, Represents, RepresentsRow, Step, layer}
use Rattle.budget.specs.Done.{stage, NotAfter, Done, Open, After, Labels, Labelled, Lawful}
use Rattle.budget.specs.Cone.{RepresentsIn, Shrinking}
use Rattle.budget.specs.Emission.{exact_seed, Reaches, after_load, after_delay, visit}
use Rattle.budget.proofs.Layer.{layer-represents, layer_row, step-near, same_row}
use Rattle.budget.proofs.Codes.{open-buffer}
use Rattle.budget.proofs.Done.{after_more, light, step-done}
use Rattle.budget.proofs.Search.{same-table, label-enough, label-least}
use Rattle.budget.proofs.Cone.{shrinks-by}
use Rattle.budget.proofs.Visit.{Gate, gate, shut_weight, weight-shut, weight-open, weigh-cons, after_none, after-shut, after-buffer, Onward, Final, Way, way, done-cons}

-- exact seeds by the labels

pub record Exact (m : Labels) (k u n : ℕ) : Type 0 where
  pub known : T (m.known n)
  pub same : m.weight n ≡ k
  pub early : m.steps n ≤ u

pub exact-test : (m : ℕ → Labels) (k u code n : ℕ) → Exact (m code) k u n → T (exact_seed m k u code n)
unfolding exact_seed
exact-test m k u code n x =
    let known = x.known in
    let same = eq→eqb _ _ x.same in
    let early = le→leb _ _ x.early in
    search both

pub exact-view : (m : ℕ → Labels) (k u code n : ℕ) → T (exact_seed m k u code n) → Exact (m code) k u n
unfolding exact_seed
exact-view m k u code n h =
    record { known = search parts; same = eqb→eq _ _ (search parts); early = leb→le _ _ (search parts) }

-- more seeds and more states: more steps
pub step-more : {R : Rules} {seed more : Seeds} {bound : ℕ} {X Y : States} → ((code n : ℕ) → T (seed code n) → T (more code n)) → ((c l d : ℕ) → X c l d → Y c l d) → (c l d : ℕ) → Step R seed bound X c l d → Step R more bound Y c l d
step-more f g c l d x = step-near c f (g c) (λ n link. g n) l d x

module _ (R : Rules) (law : Lawful R) {f k₀ s₀ : ℕ} {m : ℕ → Labels} (labels : Labelled R f k₀ s₀ m) where
  exact-right : (k u code n : ℕ) → T (is_closing code) → T (exact_seed m k u code n) → After R f code k u n
  exact-right k u code n shut h =
      let x = exact-view m k u code n h in
      after_more k u (inr (x.same, x.early)) (label-enough R law f k₀ s₀ m labels code n shut x.known)

  pub reaches-done : (k u c l d : ℕ) → Reaches R m f k u c l d → Open R f k u c l d
  reaches-done k zero c l d x = absurd x
  reaches-done k (suc u) c l d x =
      step-done R law f k u (exact_seed m k u) (exact-right k u) c l d (step-more (λ code n h. h) (λ c l d. reaches-done k u c l d) c l d x)

-- no ending has less weight
abbrev pub NoLess : Rules → ℕ → ℕ → ℕ → ℕ → ℕ → Type 0
NoLess R f w c l d = (p q : ℕ) → Done R f p q c l d → w ≤ p

-- and so after a visit
pub less-after : (R : Rules) (law : Lawful R) (f c l d n code w v : ℕ) → Onward R f c l d n code → w ≡ shut_weight R f code + v → NoLess R f w c l d → NoLess R (side_after f code) v n (after_load R c n l code) (after_delay R c n l d code)
less-after R law f c l d n code w v h e few p q x = omega (arith, few (shut_weight R f code + p) (suc q) (done-cons R law f c l d n code p q h x))

-- a visit that closes no span leads from X into one step of X
step-on : (R : Rules) (law : Lawful R) (seed : Seeds) (bound : ℕ) (X : States) (f c l d n code : ℕ) → Onward R f c l d n code → T (not (is_closing code)) → after_load R c n l code ≤ R.limit → X n (after_load R c n l code) (after_delay R c n l d code) → Step R seed bound X c l d
step-on R law seed bound X f c l d n code h no_close light x = go code refl (gate code)
  where
    go : (b : ℕ) → code ≡ b → Gate code → Step R seed bound X c l d
    go b e (Gate.none q) =
        let a = after_none R c n l d code q in
        Step.passes n h.arrives.link (rw q at h.stands) h.arrives.fits (rw (a.0, a.1) at x)
    go b e (Gate.shuts q) = absurd (lib.Dec.T_not (is_closing code) no_close q)
    go zero e (Gate.buffer g p) = absurd (g e)
    go (suc b) e (Gate.buffer g p) =
        let a = after-buffer R c n l d code g p in
        let six : b < 6 = open-buffer b (law.codes n (suc b) (rw e at h.stands)) (rw e at p) in
        Step.drives n b six h.arrives.link (rw e at h.stands) h.arrives.fits (rw (a.0, e) at light) (rw (a.0, a.1, e) at x)

module _ (R : Rules) (law : Lawful R) {f k₀ s₀ : ℕ} {m : ℕ → Labels} (labels : Labelled R f k₀ s₀ m) where
  after-known : (k u code n : ℕ) → k ≤ k₀ → T (is_closing code) → After R f code k u n → T ((m code).known n)
  after-known k u code n h shut x = go (closing-codes code shut)
    where
      go : (code ≡ register_code) ⊎ (code ≡ fifo_code) → T ((m code).known n)
      go (inl e) = rw e (labels.registers.complete n (after_more _ s₀ (inl (omega (arith, law.heavy f))) (rw e at x)))
      go (inr e) = rw e ((labels.fifos k u).complete n (rw e at x))

  -- where no ending has less weight, a gate that closes the span is an exact seed
  exact-left : (k u code n : ℕ) → k ≤ k₀ → T (is_closing code) → After R f code k u n → ((w t : ℕ) → After R f code w t n → k ≤ w) → T (exact_seed m k u code n)
  exact-left k u code n h shut x few = exact-test m k u code n (go (label-least R law f k₀ s₀ m labels code n shut known k u x))
    where
      known : T ((m code).known n)
      known = after-known k u code n h shut x

      go : NotAfter ((m code).weight n) ((m code).steps n) k u → Exact (m code) k u n
      go (inl q) = absurd (omega (arith, few ((m code).weight n) ((m code).steps n) (label-enough R law f k₀ s₀ m labels code n shut known)))
      go (inr q) = record { known = known; same = q.0; early = q.1 }

  -- the last visit is at an exact seed, and so is a gate that closes the span
  pub last-seed : (k u : ℕ) {c l d n code : ℕ} → k ≤ k₀ → Final R f c l d n code → weigh R f (visit n code ∷ []) ≡ R.weight f + k → T (exact_seed m k u code n)
  last-seed k u {n = n} {code = code} h x weighs =
      let shut = register-closing code x.is_register in
      let none : k ≡ 0 = omega (arith, weigh-cons R f (visit n code) [], weigh-none R (side_after f code), weight-shut R f code shut) in
      exact-left k u code n h shut (After.at_source x.is_register x.passed x.at_source) (λ w t y. omega arith)

  pub shut-seed : (k u : ℕ) {c l d n code : ℕ} (vs : Route) → k ≤ k₀ → Onward R f c l d n code → T (legal_from R n 0 (side_after f code) (stage (after_load R c n l code) (after_delay R c n l d code)) vs) → T (is_closing code) → weigh R f (visit n code ∷ vs) ≡ R.weight f + k → length vs ≤ u → NoLess R f (R.weight f + k) c l d → T (exact_seed m k u code n)
  shut-seed k u {c} {l} {d} {n} {code} vs h o e shut weighs len few =
      exact-left k u code n h shut (After.at_gate shut o.stands (record { route = vs; ending = fresh; within = inr (count, len) })) low
    where
      a : (after_load R c n l code ≡ (R.fresh code).load) × (after_delay R c n l d code ≡ (R.fresh code).delay)
      a = after-shut R c n l d code shut

      fresh : T (legal_from R n 0 (side_after f code) (R.fresh code) vs)
      fresh = rw (a.0, a.1) at e

      count : weigh R (side_after f code) vs ≡ k
      count = omega (arith, weigh-cons R f (visit n code) vs, weight-shut R f code shut)

      low : (w t : ℕ) → After R f code w t n → k ≤ w
      low w t (After.at_source p q r) = absurd (not-source R n (stands-between R n code o.stands (closing-some code shut)) r)
      low w t (After.at_gate p q x) =
          less-after R law f c l d n code (R.weight f + k) k o (omega (arith, weight-shut R f code shut)) few w t (rw (a.0, a.1) x)

  -- Along a span the weight to go stays the least, so the gate that closes it is labelled with just what is left.
  pub done-reaches : (u k c l d : ℕ) (vs : Route) → k ≤ k₀ → T (legal_from R c 0 f (stage l d) vs) → weigh R f vs ≡ R.weight f + k → length vs ≤ u → NoLess R f (R.weight f + k) c l d → Reaches R m f k u c l d
  done-reaches zero k c l d vs h e weighs len few = absurd (omega (arith, ending-visits (ending-view R c 0 f (stage l d) vs e)))
  done-reaches (suc u) k c l d vs h e weighs len few = go (way R law f c l d vs e) weighs len (λ n a b ws. done-reaches u k n a b ws h)
    where
      go : {vs : Route} → Way R f c l d vs → weigh R f vs ≡ R.weight f + k → length vs ≤ suc u → ((n a b : ℕ) (ws : Route) → T (legal_from R n 0 f (stage a b) ws) → weigh R f ws ≡ R.weight f + k → length ws ≤ u → NoLess R f (R.weight f + k) n a b → Reaches R m f k u n a b) → Reaches R m f k (suc u) c l d
      go (Way.last {v = v} x) weighs len more =
          Step.closes {d = d} v.cell v.code (register-closing v.code x.is_register) x.arrives.link (last-seed k u h x weighs) x.arrives.fits x.in_time
      go (Way.on {v = v} {vs = vs} o r) weighs len more = by (decided (is_closing v.code))
        where
          by : T (is_closing v.code) ⊎ T (not (is_closing v.code)) → Reaches R m f k (suc u) c l d
          by (inl q) =
              Step.closes {d = d} v.cell v.code q o.arrives.link (shut-seed k u vs h o r q weighs (omega arith) few) o.arrives.fits (o.in_time q)
          by (inr q) =
              let same : side_after f v.code ≡ f = side-kept f v.code q in
              let heavy : weigh R (side_after f v.code) vs ≡ R.weight f + k = omega (arith, weigh-cons R f v vs, weight-open R f v.code q) in
              step-on R law (exact_seed m k u) (R.bound 0 f) (Reaches R m f k u) f c l d v.cell v.code o q (light (ending-view R v.cell 0 _ _ vs r))
              (more v.cell _ _ vs (rw same at r) (rw same at heavy) (omega arith)
              (rw same at (less-after R law f c l d v.cell v.code (R.weight f + k) (R.weight f + k) o (omega (arith, weight-open R f v.code q)) few)))

-- The tables of `Reaches`, layer by layer

-- the seeds change only by labels that come in
pub exact-later : (m : ℕ → Labels) (k u v code n : ℕ) → (T ((m code).known n) → (m code).weight n ≡ k → (m code).steps n ≤ u → (m code).steps n ≤ v) → T (exact_seed m k u code n) → T (exact_seed m k v code n)
exact-later m k u v code n f s =
    let x = exact-view m k u code n s in
    exact-test m k v code n (record { known = x.known; same = x.same; early = f x.known x.same x.early })

module _ (R : Rules) (m : ℕ → Labels) (f k : ℕ) where
  -- nothing reaches a seed without steps
  pub reaches-start : {A : Table} → ((c l : ℕ) → A c l ≡ 0) → Represents A (Reaches R m f k 0)
  reaches-start zeros = record { sound = λ c l d h. absurd (omega (arith, zeros c l)); complete = λ c l d x. absurd x }

  pub reaches-layer : Lawful R → (u : ℕ) {A B : Table} → Represents A (Reaches R m f k u) → ((c l : ℕ) → B c l ≡ layer R (exact_seed m k u) (R.bound 0 f) A c l) → Represents B (Reaches R m f k (suc u))
  reaches-layer law u {A} rep next =
      same-table (Reaches R m f k (suc u)) next (layer-represents R (exact_seed m k u) (R.bound 0 f) A (Reaches R m f k u) law.in_plan rep)

  -- The rows of a shrinking set of cells
  module _ (law : Lawful R) {P : ℕ → ℕ → Bool} (shrinks : Shrinking R P) where
    row_in : (seed : Seeds) (u : ℕ) {A B : Table} → RepresentsIn (P u) A (Reaches R m f k u) → (c : ℕ) → T (P (suc u) c) → ((l : ℕ) → B c l ≡ layer R seed (R.bound 0 f) A c l) → RepresentsRow B (Step R seed (R.bound 0 f) (Reaches R m f k u)) c
    row_in seed u {A} rep c t next =
        same_row next (layer_row R seed (R.bound 0 f) A (Reaches R m f k u) law.in_plan c (rep c (shrinks.own u c t)) (λ x link. rep x (shrinks.near u c x t link)))

    -- a layer is right in the next set, if it is one wherever all neighbours are in the set
    pub layer-in : (u : ℕ) {A B : Table} → RepresentsIn (P u) A (Reaches R m f k u) → ((c : ℕ) → ((x : ℕ) → T (R.linked c x) → T (P u x)) → (l : ℕ) → B c l ≡ layer R (exact_seed m k u) (R.bound 0 f) A c l) → RepresentsIn (P (suc u)) B (Reaches R m f k (suc u))
    layer-in u rep next c t = row_in (exact_seed m k u) u rep c t (next c (λ x link. shrinks.near u c x t link))

    -- After a layer that changes nothing there the table stays right up to the next label.
    module _ (u : ℕ) (A : Table) (rep : RepresentsIn (P u) A (Reaches R m f k u)) (quiet : (c : ℕ) → ((x : ℕ) → T (R.linked c x) → T (P u x)) → (l : ℕ) → A c l ≡ layer R (exact_seed m k u) (R.bound 0 f) A c l) (t : ℕ) (idle : (code n : ℕ) → T ((m code).known n) → (m code).weight n ≡ k → ((m code).steps n ≤ u) ⊎ (t ≤ (m code).steps n)) where
      ahead : (i : ℕ) → u + i ≤ t → RepresentsIn (P (u + i)) A (Reaches R m f k (u + i))
      ahead zero h = rw native.Mathlib.Nat.add-zero rep
      ahead (suc i) h = rw native.Mathlib.Nat.add-suc (next (ahead i (omega arith)))
        where
          early : {s : ℕ} → (s ≤ u) ⊎ (t ≤ s) → s ≤ u + i → s ≤ u
          early (inl w) g = w
          early (inr w) g = absurd (omega arith)

          next : RepresentsIn (P (u + i)) A (Reaches R m f k (u + i)) → RepresentsIn (P (suc (u + i))) A (Reaches R m f k (suc (u + i)))
          next before c g =
              let r = row_in (exact_seed m k u) (u + i) {B = A} before c g (quiet c (λ x link. shrinks-by shrinks u i x (shrinks.near (u + i) c x g link))) in
              record {
                sound = λ l d y. step-more (λ code n. exact-later m k u (u + i) code n (λ a b g. omega arith)) (λ c l d x. x) c l d (r.sound l d y);
                complete = λ l d y. r.complete l d (step-more (λ code n. exact-later m k (u + i) u code n (λ a b g. early (idle code n a b) g)) (λ c l d x. x) c l d y);
              }

      pub until-in : (v : ℕ) → u ≤ v → v ≤ t → RepresentsIn (P v) A (Reaches R m f k v)
      until-in v lo hi =
          let e : u + (v - u) ≡ v = omega arith in
          subst (λ (q : ℕ). RepresentsIn (P q) A (Reaches R m f k q)) e (ahead (v - u) (omega arith))
