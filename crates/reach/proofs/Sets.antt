-- One set of labels in a span, and both: how their seeds come into the words.
use Prim.Native.Nat.{ℕ, suc, ◌+◌, ◌*◌, ◌≤◌, ◌<◌}
use mathlib.Core.Path.{◌≡◌, refl, sym, ap, ◌∙◌}
use mathlib.Core.Logic.{◌⊎◌, inl, inr}
use mathlib.Core.List.{List}
use native.Mathlib.Omega.{arith}
use lib.Dec.{T}
use Rattle.rules.specs.Rules.{Rules, register_code, fifo_code, is_closing}
use Rattle.rules.proofs.View.{closing-codes, register-closing, fifo-closing}
use Rattle.plan.proofs.Truth.{split}
use Rattle.budget.specs.Done.{NotAfter, Labels}
use Rattle.budget.specs.Emission.{exact_seed}
use Rattle.budget.specs.Colours.{InStep, LabelsInStep}
use Rattle.budget.proofs.Done.{not-after-trans, not-after-both, after-before, not-both}
use Rattle.budget.proofs.Reaches.{Exact, exact-view, exact-later}
use Rattle.layout.specs.Layout.{labels_at, exits_at, order_in, label_words}
use Rattle.lists.specs.Lists.{ListedAt}
use Rattle.rows.specs.Words.{Kept}
use Rattle.table.specs.Problem.{seed_of}
use Rattle.labels.specs.Labels.{weight_of, steps_of, labels_of, labels_for, order_of, Ordered}
use Rattle.labels.specs.Idle.{no_idle}
use Rattle.labels.specs.Both.{OrderAsks, Comes, ArrivedBoth}
use Rattle.labels.proofs.Labels.{known-below, ordered-count, ordered-kept, labels-no-fifo, label-code}
use Rattle.labels.proofs.Arriving.{Found, find}
use Rattle.labels.proofs.Seeds.{bool_same, order_same, order-weight, order-steps}
use Rattle.reach.specs.Reach.{weight_at, steps_at, FirstWith, HeadFrom, Due, Soon, BothSoon, SetAt, BothAt}
use Rattle.reach.proofs.Kept.{exact-label, label-exact}

-- at the start of the span: its labels wait in the order, from the first of their weight on
module _ (n exits k set code : ℕ) (old mid : List ℕ) (count : ℕ) (own : labels_for n exits old code ≡ labels_of n set old) (o : Ordered n set old count) (kept : Kept set (set + n * label_words) old mid) (none : (c : ℕ) → c < n → T (seed_of n mid code c) → ⊥) (from : ℕ) (f : FirstWith n set mid count k from) where
  start-weight : (i : ℕ) → i < count → weight_at n set mid i ≡ weight_at n set old i
  start-weight i h = order-weight n set old mid count o kept i h

  -- a label of weight k is not before the first
  start-due : (c : ℕ) → weight_of n set old c ≡ k → ListedAt n old (set + n * order_in) count c → Due n set old from count c
  start-due c e p = go (split from p.at)
    where
      go : (from ≤ p.at) ⊎ (p.at < from) → Due n set old from count c
      go (inl lo) = record { place = p.at; from = lo; below = p.below; holds = p.holds }
      go (inr lo) = absurd (omega (arith, f.lighter p.at lo, start-weight p.at p.below, ap (weight_of n set old) p.holds))

  start-soon : Soon n set old k 0 from count
  start-soon h = go (split (weight_at n set old from) k)
    where
      enough : k ≤ weight_at n set old from
      enough = omega (arith, f.enough from (omega arith) h, start-weight from h)

      go : (weight_at n set old from ≤ k) ⊎ (k < weight_at n set old from) → NotAfter k 0 (weight_at n set old from) (steps_at n set old from)
      go (inl q) = inr (omega (arith, enough), omega arith)
      go (inr q) = inl q

  pub set-start : SetAt n exits k set code old mid 0 from count
  set-start =
      record {
        own = own;
        ordered = o;
        at_count = f.within;
        sound = λ c h t. absurd (none c h t);
        complete = λ c t h e. let x : Exact (labels_of n set old) k t c = exact-label (labels_for n exits old) own k t c e in inr (start-due c x.same (o.covered c x.known));
        soon = start-soon;
      }

module _ {n exits k set code : ℕ} {old words : List ℕ} {u at count : ℕ} (w : SetAt n exits k set code old words u at count) where
  abbrev m : ℕ → Labels
  m = labels_for n exits old

  own-exact : {v c : ℕ} → T (exact_seed m k v code c) → Exact (labels_of n set old) k v c
  own-exact {v} {c} t = exact-label m w.own k v c t

  exact-own : {v c : ℕ} → Exact (labels_of n set old) k v c → T (exact_seed m k v code c)
  exact-own {v} {c} x = label-exact m w.own k v c x

  -- later, with the same seeds
  pub set_on : (new : List ℕ) (v : ℕ) → u ≤ v → ((c : ℕ) → c < n → seed_of n new code c ≡ seed_of n words code c) → Soon n set old k v at count → SetAt n exits k set code old new v at count
  set_on new v later seeds soon =
      record {
        own = w.own;
        ordered = w.ordered;
        at_count = w.at_count;
        sound = λ c h t. exact-later m k u v code c (λ a b q. omega arith) (w.sound c h (rw (seeds c h) at t));
        complete = λ c t h e. rw (seeds c h) (w.complete c t h e);
        soon = soon;
      }

  -- a cell that waits is not before the first that does
  due-some : {c : ℕ} → Due n set old at count c → at < count
  due-some d = omega (arith, d.from, d.below)

  due-later : (c : ℕ) → Due n set old at count c → NotAfter (weight_at n set old at) (steps_at n set old at) (weight_of n set old c) (steps_of n set old c)
  due-later c d = rw d.holds at (w.ordered.ascending at d.place d.from d.below)

  -- where every label that waits is after u steps, the seeds in the words are the exact seeds
  pub set-exact : Soon n set old k (suc u) at count → (c : ℕ) → c < n → seed_of n words code c ≡ exact_seed m k u code c
  set-exact late c h = bool_same (seed_of n words code c) (exact_seed m k u code c) (w.sound c h) (λ t. go t (w.complete c u h t))
    where
      due-late : Due n set old at count c → Exact (labels_of n set old) k u c → ⊥
      due-late d x = not-both (not-after-trans (late (due-some d)) (due-later c d)) (inr (x.same, x.early))

      go : T (exact_seed m k u code c) → T (seed_of n words code c) ⊎ Due n set old at count c → T (seed_of n words code c)
      go t (inl s) = s
      go t (inr d) = absurd (due-late d (own-exact t))

  -- where none that waits has fewer than t steps, no label comes in between u and t
  pub set-idle : (t : ℕ) → Soon n set old k t at count → (c : ℕ) → T ((m code).known c) → (m code).weight c ≡ k → ((m code).steps c ≤ u) ⊎ (t ≤ (m code).steps c)
  set-idle t soon c known e =
      rw w.own (idle (rw w.own at known) (rw w.own at e))
    where
      late : weight_of n set old c ≡ k → NotAfter k t (weight_of n set old c) (steps_of n set old c) → t ≤ steps_of n set old c
      late e (inl q) = absurd (omega arith)
      late e (inr q) = q.1

      idle : T ((labels_of n set old).known c) → weight_of n set old c ≡ k → (steps_of n set old c ≤ u) ⊎ (t ≤ steps_of n set old c)
      idle known e = go (w.complete c (steps_of n set old c) (known-below n set old c known) (exact-own (record { known = known; same = e; early = omega arith })))
        where
          go : T (seed_of n words code c) ⊎ Due n set old at count c → (steps_of n set old c ≤ u) ⊎ (t ≤ steps_of n set old c)
          go (inl s) = inl (own-exact (w.sound c (known-below n set old c known) s)).early
          go (inr d) = inr (late e (not-after-trans (soon (due-some d)) (due-later c d)))

  module _ (kept : Kept set (set + n * label_words) old words) where
    -- the order and its labels, read in the words
    order_is : (i : ℕ) → i < count → order_of n set words i ≡ order_of n set old i
    order_is i h = order_same n set old words count w.ordered kept i h

    weight_is : (i : ℕ) → i < count → weight_at n set words i ≡ weight_at n set old i
    weight_is i h = order-weight n set old words count w.ordered kept i h

    steps-is : (i : ℕ) → i < count → steps_at n set words i ≡ steps_at n set old i
    steps-is i h = order-steps n set old words count w.ordered kept i h

    pub now-ordered : Ordered n set words count
    now-ordered = ordered-kept w.ordered words kept

    pub order-asks : OrderAsks n set words at count
    order-asks = record { start = w.at_count; short = ordered-count w.ordered; known = now-ordered.known }

    -- the first label that waits, by what is read of it

    pub soon-head : (t : ℕ) → Soon n set old k t at count → HeadFrom n set words at count k t
    soon-head t soon h e = go (soon h)
      where
        go : NotAfter k t (weight_at n set old at) (steps_at n set old at) → t ≤ steps_at n set words at
        go (inl q) = absurd (omega (arith, weight_is at h))
        go (inr q) = omega (arith, steps-is at h)

    pub head-soon : (t : ℕ) → HeadFrom n set words at count k t → Soon n set old k t at count
    head-soon t head h = go (w.soon h)
      where
        go : NotAfter k u (weight_at n set old at) (steps_at n set old at) → NotAfter k t (weight_at n set old at) (steps_at n set old at)
        go (inl q) = inl q
        go (inr q) = inr (q.0, omega (arith, head h (weight_is at h ∙ sym q.0), steps-is at h))

    -- labels whose steps have come become seeds
    module _ (new : List ℕ) (to : ℕ) (a : Comes n set code at count k u words new to) where
      in_count : (i : ℕ) → i < to → i < count
      in_count i h = omega (arith, a.within)

      -- they have just weight k and u steps
      just : (i : ℕ) → at ≤ i → i < to → (weight_at n set old i ≡ k) × (steps_at n set old i ≡ u)
      just i lo hi =
          let b : i < count = in_count i hi in
          not-after-both (rw (weight_is i b, steps-is i b) at (a.in_time i lo hi)) (not-after-trans (w.soon (omega arith)) (w.ordered.ascending at i lo b))

      pub set-late : Soon n set old k (suc u) to count
      set-late h = rw (weight_is to h, steps-is to h) at (a.late h)

      pub set-arrive : SetAt n exits k set code old new u to count
      set-arrive =
          record {
            own = w.own;
            ordered = w.ordered;
            at_count = a.within;
            sound = λ c h t. sound c h t (find n set words c at to);
            complete = λ c t h e. complete c h (w.complete c t h e);
            soon = λ h. after-before (set-late h);
          }
        where
          sound : (c : ℕ) → c < n → T (seed_of n new code c) → Found n set words c at to → T (exact_seed m k u code c)
          sound c h t (inl p) =
              let b : p.0 < count = in_count p.0 p.2 in
              let j : (weight_at n set old p.0 ≡ k) × (steps_at n set old p.0 ≡ u) = just p.0 p.1 p.2 in
              rw (sym (order_is p.0 b) ∙ p.3) at
              (exact-own {v = u} {c = order_of n set old p.0} (record { known = w.ordered.known p.0 b; same = j.0; early = omega arith }))
          sound c h t (inr none) = w.sound c h (rw (a.other_seeds c h none) at t)

          complete : (c : ℕ) → c < n → T (seed_of n words code c) ⊎ Due n set old at count c → T (seed_of n new code c) ⊎ Due n set old to count c
          complete c h (inl s) = inl (a.seeds_stay c h s)
          complete c h (inr d) = go (split to d.place)
            where
              go : (to ≤ d.place) ⊎ (d.place < to) → T (seed_of n new code c) ⊎ Due n set old to count c
              go (inl q) = inr (record { place = d.place; from = q; below = d.below; holds = d.holds })
              go (inr q) = inl (rw (order_is d.place d.below ∙ d.holds) at (a.seeds d.place d.from q))

      -- they are in step
      pub set-comes : (R : Rules) → T (is_closing code) → LabelsInStep R m → (i : ℕ) → at ≤ i → i < to → InStep R u (order_of n set words i)
      set-comes R shut in_step i lo hi =
          let b : i < count = in_count i hi in
          let own : InStep R (steps_of n set old (order_of n set old i)) (order_of n set old i) = rw w.own at (in_step code (order_of n set old i) shut (rw w.own (w.ordered.known i b))) in
          rw (order_is i b) (rw (just i lo hi).1 at own)

-- both sets

module _ {n exits k : ℕ} {old words : List ℕ} {u at count exit : ℕ} (b : BothAt n exits k old words u at count exit) where
  pub both-on : (new : List ℕ) (v : ℕ) → u ≤ v → ((code c : ℕ) → T (is_closing code) → c < n → seed_of n new code c ≡ seed_of n words code c) → BothSoon n old k v at count exit exits → BothAt n exits k old new v at count exit
  both-on new v later seeds soon =
      record {
        near = set_on b.near new v later (λ c h. seeds register_code c (register-closing register_code refl) h) soon.near;
        within = b.within;
        far = λ some. set_on (b.far some) new v later (λ c h. seeds fifo_code c (fifo-closing fifo_code refl) h) soon.far;
        no_fifo = λ e c h t. b.no_fifo e c h (rw (seeds fifo_code c (fifo-closing fifo_code refl) h) at t);
      }

  pub both-exact : BothSoon n old k (suc u) at count exit exits → (code c : ℕ) → T (is_closing code) → c < n → seed_of n words code c ≡ exact_seed (labels_for n exits old) k u code c
  both-exact late code c shut h = go (closing-codes code shut) (split 1 exits)
    where
      nothing : exits ≡ 0 → T (exact_seed (labels_for n exits old) k u fifo_code c) → ⊥
      nothing e t = rw (labels-no-fifo n exits old e) at (exact-view (labels_for n exits old) k u fifo_code c t).known

      go : (code ≡ register_code) ⊎ (code ≡ fifo_code) → (1 ≤ exits) ⊎ (exits < 1) → seed_of n words code c ≡ exact_seed (labels_for n exits old) k u code c
      go (inl e) q = rw e (set-exact b.near late.near c h)
      go (inr e) (inl q) = rw e (set-exact (b.far (omega arith)) late.far c h)
      go (inr e) (inr q) =
          rw e
          (bool_same (seed_of n words fifo_code c) (exact_seed (labels_for n exits old) k u fifo_code c) (λ t. absurd (b.no_fifo (omega arith) c h t)) (λ t. absurd (nothing (omega arith) t)))

  pub both-idle : (t : ℕ) → BothSoon n old k t at count exit exits → (code c : ℕ) → T ((labels_for n exits old code).known c) → (labels_for n exits old code).weight c ≡ k → ((labels_for n exits old code).steps c ≤ u) ⊎ (t ≤ (labels_for n exits old code).steps c)
  both-idle t soon code c known same = go (label-code n exits old code c known)
    where
      go : (code ≡ register_code) ⊎ ((code ≡ fifo_code) × (0 < exits)) → ((labels_for n exits old code).steps c ≤ u) ⊎ (t ≤ (labels_for n exits old code).steps c)
      go (inl e) = rw e (set-idle b.near t soon.near c (rw e at known) (rw e at same))
      go (inr e) = rw e.0 (set-idle (b.far e.1) t soon.far c (rw e.0 at known) (rw e.0 at same))

  module _ (keptNear : Kept (n * labels_at) (n * labels_at + n * label_words) old words) (keptFar : Kept (n * exits_at) (n * exits_at + n * label_words) old words) (new : List ℕ) {active to out : ℕ} (a : ArrivedBoth n no_idle at count exit exits k u words new to out active) where
    pub both-late : BothSoon n old k (suc u) to count out exits
    both-late =
        record {
          near = set-late b.near keptNear new to a.near;
          far = λ h. set-late (b.far (omega arith)) keptFar new out a.far h;
        }

    pub both-arrive : BothAt n exits k old new u to count out
    both-arrive =
        record {
          near = set-arrive b.near keptNear new to a.near;
          within = a.far.within;
          far = λ some. set-arrive (b.far some) keptFar new out a.far;
          no_fifo = λ e c h t. b.no_fifo e c h (rw (a.far.other_seeds c h (λ i lo hi q. omega (arith, a.far.within))) at t);
        }
