-- One turn of the loading: a layer, or a leap over layers that change nothing; then the labels whose steps have come.
use Prim.Native.Nat.{ℕ, suc, ◌+◌, ◌*◌, ◌≤◌, ◌<◌}
use mathlib.Core.Path.{◌≡◌, refl, sym, ◌∙◌}
use mathlib.Core.Bool.{Bool}
use mathlib.Core.List.{List}
use native.Mathlib.Numerals.{add-one}
use native.Mathlib.Omega.{arith}
use lib.Dec.{T}
use lib.ListN.{length}
use Rattle.rules.specs.Rules.{Rules, register_code, fifo_code, is_closing}
use Rattle.rules.proofs.View.{register-closing, fifo-closing}
use Rattle.budget.specs.Table.{layer}
use Rattle.budget.specs.Done.{Labels, Lawful}
use Rattle.budget.specs.Emission.{exact_seed, Reaches}
use Rattle.budget.specs.Cone.{RepresentsIn, Shrinking}
use Rattle.budget.proofs.Layer.{same_row}
use Rattle.budget.proofs.Cone.{shrinks-fewer}
use Rattle.budget.proofs.Reaches.{layer-in, until-in}
use Rattle.layout.specs.Layout.{labels_at, exits_at, aside_at, label_words}
use Rattle.rows.specs.Words.{Kept}
use Rattle.table.specs.Problem.{Room, budget_of, seed_of}
use Rattle.trail.specs.declared.Trail.{Trail}
use Rattle.table.specs.declared.pushes.Grown.{Grown}
use Rattle.table.specs.Layer.{ActiveIn, Layered}
use Rattle.table.proofs.Quiet.{quiet-layer}
use Rattle.table.proofs.Views.{budget-kept, seeds-kept}
use Rattle.table.proofs.Colours.{coloured-none, coloured-kept, coloured-layer}
use Rattle.labels.specs.Labels.{labels_for}
use Rattle.labels.specs.Idle.{no_idle}
use Rattle.labels.specs.Both.{BothAsk, ArrivedBoth}
use Rattle.labels.proofs.Labels.{set-in, exits-in}
use Rattle.labels.proofs.IdleGates.{none-idle}
use Rattle.labels.proofs.Arriving.{active-kept, active-arrived, coloured-arrived}
use Rattle.labels.proofs.Seeds.{layer-seeds}
use Rattle.reach.specs.Cone.{Dropped}
use Rattle.reach.specs.Reach.{BothIn, NextBoth, BothSoon, Running, Current}
use Rattle.reach.proofs.Sets.{now-ordered, order-asks, soon-head, head-soon, set-comes, both-on, both-exact, both-idle, both-late, both-arrive}

module _ (R : Rules) (n f k : ℕ) (P : ℕ → ℕ → Bool) (old : List ℕ) (count exits : ℕ) where
  abbrev m : ℕ → Labels
  m = labels_for n exits old

  module _ (words : List ℕ) (u active at exit : ℕ) (r : Running R n f k P old words u active at count exit exits) where
    -- the words of both sets stay
    kept_near : Kept (n * labels_at) (n * labels_at + n * label_words) old words
    kept_near i lo hi = r.labels i lo (omega arith)

    kept-far : Kept (n * exits_at) (n * exits_at + n * label_words) old words
    kept-far i lo hi = r.rest i (omega arith)

    module _ (few : n ≤ 1024) (room : Room n words) (exits_in : 0 < exits → n * aside_at ≤ length words) where
      pub both-in : BothIn n words count exits
      both-in =
          ((now-ordered r.sets.near kept_near, set-in n words few (omega arith)), λ h. (now-ordered (r.sets.far h) kept-far, exits-in n words few (exits_in h)))

      pub both-ask : BothAsk n at count exit exits active words
      both-ask =
          record {
            few = few;
            room = omega arith;
            listed = r.list.listed;
            near = order-asks r.sets.near kept_near;
            within = r.sets.within;
            exits_in = λ h. exits_in (omega arith);
            far = λ h. order-asks (r.sets.far (omega arith)) kept-far;
          }

  module _ (words : List ℕ) (u active at exit : ℕ) (g : Current R n f k P old words u active at count exit exits) where
    r : Running R n f k P old words u active at count exit exits
    r = g.reaching

    module _ (law : Lawful R) (cells : R.cell_count ≡ n) (shrinks : Shrinking R P) where
      exact-layer : (c l : ℕ) → layer R (seed_of n words) (R.bound 0 f) (budget_of n words) c l ≡ layer R (exact_seed m k u) (R.bound 0 f) (budget_of n words) c l
      exact-layer =
          layer-seeds R (seed_of n words) (exact_seed m k u) (R.bound 0 f) (budget_of n words) (λ code c shut h. both-exact r.sets g.late code c shut (omega arith))

      -- the list is right in fewer cells
      list-fewer : (v : ℕ) → u ≤ v → {new : List ℕ} {count : ℕ} → ActiveIn R n (R.bound 0 f) (P u) new count → ActiveIn R n (R.bound 0 f) (P v) new count
      list-fewer v h a = record { listed = a.listed; settled = λ c i t z. a.settled c i (shrinks-fewer shrinks u v c h t) z }

      pub layer-turn : (t : Trail) (new : List ℕ) (next : Grown) → Layered R n (R.bound 0 f) t words new next → Running R n f k P old new (u + 1) next.count at count exit exits
      layer-turn t new next l =
          record {
            same = l.same ∙ r.same;
            labels = λ i lo hi. l.labels i lo hi ∙ r.labels i lo hi;
            rest = λ i lo. l.beyond i (omega arith) ∙ r.rest i lo;
            table = rw (add-one u) (layer-in R m f k law shrinks u r.table (λ c near d. l.table r.list c near d ∙ exact-layer c d));
            list = list-fewer (u + 1) (omega arith) (l.active r.list);
            sets = both-on r.sets new (u + 1) (omega arith) (λ code c shut h. seeds-kept n words new l.seeds c h code shut) (rw (add-one u) g.late);
            in_step = r.in_step;
            coloured = rw (add-one u) (coloured-layer l r.coloured);
          }

      -- with no active cell a layer changes nothing
      quiet : active ≡ 0 → (c : ℕ) → ((x : ℕ) → T (R.linked c x) → T (P u x)) → (l : ℕ) → budget_of n words c l ≡ layer R (exact_seed m k u) (R.bound 0 f) (budget_of n words) c l
      quiet none c near l = quiet-layer R n (R.bound 0 f) words active cells r.list none c near l ∙ exact-layer c l

      -- so the table stays right up to the next label
      module _ (none : active ≡ 0) (steps t : ℕ) (before : u < steps) (next : NextBoth n words at count exit exits k steps t) where
        pub leap-forth : u < t
        leap-forth =
            omega (
              arith,
              next.most (suc u) (omega arith) (soon-head r.sets.near (kept_near words u active at exit r) (suc u) g.late.near)
                  (λ h. soon-head (r.sets.far (omega arith)) (kept-far words u active at exit r) (suc u) g.late.far h),
            )

        soon : BothSoon n old k t at count exit exits
        soon =
            record {
              near = head-soon r.sets.near (kept_near words u active at exit r) t next.near;
              far = λ h. head-soon (r.sets.far (omega arith)) (kept-far words u active at exit r) t next.far h;
            }

        pub leap-tables : (s : ℕ) → u ≤ s → s ≤ t → RepresentsIn (P s) (budget_of n words) (Reaches R m f k s)
        leap-tables s lo hi = until-in R m f k law shrinks u (budget_of n words) r.table (quiet none) t (both-idle r.sets t soon) s lo hi

        pub leap-turn : Running R n f k P old words t active at count exit exits
        leap-turn =
            record {
              same = r.same;
              labels = r.labels;
              rest = r.rest;
              table = leap-tables t (omega (arith, leap-forth)) (omega arith);
              list = list-fewer t (omega (arith, leap-forth)) r.list;
              sets = both-on r.sets words t (omega (arith, leap-forth)) (λ code c shut h. refl) soon;
              in_step = r.in_step;
              coloured = coloured-none R t r.list.listed none;
            }

  -- labels whose steps have come become seeds
  pub arrive-turn : (words : List ℕ) (u active at exit : ℕ) → Running R n f k P old words u active at count exit exits → (new : List ℕ) (to out active' : ℕ) → ArrivedBoth n no_idle at count exit exits k u words new to out active' → Current R n f k P old new u active' to count out exits
  arrive-turn words u active at exit r new to out active' a =
      let near = kept_near words u active at exit r in
      let far = kept-far words u active at exit r in
      record {
        reaching =
            record {
              same = a.same ∙ r.same;
              labels = λ i lo hi. a.low i hi ∙ r.labels i lo hi;
              rest = λ i lo. a.high i (omega arith) ∙ r.rest i lo;
              table = λ c t. same_row (budget-kept n words new (λ i lo hi. a.low i (omega arith)) c) (r.table c t);
              list = active-arrived R n (R.bound 0 f) words new (none-idle R) at count exit exits k u to out active' a r.list;
              sets = both-arrive r.sets near far new a;
              in_step = r.in_step;
              coloured =
                  coloured-arrived r.coloured (set-comes r.sets.near near new to a.near R (register-closing register_code refl) r.in_step)
                  (λ i lo hi. set-comes (r.sets.far (omega (arith, a.far.within))) far new out a.far R (fifo-closing fifo_code refl) r.in_step i lo hi) a;
            };
        late = both-late r.sets near far new a;
      }

  -- cells out of P u leave the list
  pub drop-turn : (words : List ℕ) (u active at exit : ℕ) → Current R n f k P old words u active at count exit exits → (new : List ℕ) (active' : ℕ) → Dropped n (P u) words new active' → Current R n f k P old new u active' at count exit exits
  drop-turn words u active at exit g new active' d =
      let r = g.reaching in
      let seeds : (code c : ℕ) → T (is_closing code) → c < n → seed_of n new code c ≡ seed_of n words code c = λ code c shut h. seeds-kept n words new (λ i lo hi. d.high i lo) c h code shut in
      record {
        reaching =
            record {
              same = d.same ∙ r.same;
              labels = λ i lo hi. d.low i hi ∙ r.labels i lo hi;
              rest = λ i lo. d.high i (omega arith) ∙ r.rest i lo;
              table = λ c t. same_row (budget-kept n words new (λ i lo hi. d.low i (omega arith)) c) (r.table c t);
              list = active-kept R n (R.bound 0 f) words new r.list d.listed (λ i h. d.low i (omega arith)) (λ c h t z. (t, (sym (d.inside c h t) ∙ z, λ code shut. seeds code c shut h)));
              sets = both-on r.sets new u (omega arith) seeds (soon r);
              in_step = r.in_step;
              coloured = coloured-kept r.coloured new d.fewer;
            };
        late = g.late;
      }
    where
      soon : Running R n f k P old words u active at count exit exits → BothSoon n old k u at count exit exits
      soon r = record { near = r.sets.near.soon; far = λ h. (r.sets.far (omega arith)).soon h }
