-- The trail from turn to turn of a span, and what `load_layer` leaves.
use Prim.Native.Nat.{ℕ, ◌+◌, ◌*◌, ◌/◌, ◌%◌, ◌≤◌, ◌<◌}
use mathlib.Core.Path.{◌≡◌, refl, sym, ◌∙◌}
use mathlib.Core.Bool.{Bool, ◌&&◌}
use mathlib.Core.Logic.{◌⊎◌, inl, inr}
use mathlib.Core.List.{List}
use native.Mathlib.Omega.{arith}
use lib.Dec.{T, eqb, leb, eqb→eq, leb→le}
use lib.ListN.{get_or}
use Rattle.rules.specs.Rules.{Rules}
use Rattle.plan.specs.Apart.{apart_by}
use Rattle.plan.proofs.Truth.{fst, snd}
use Rattle.plan.proofs.Apart.{apart-self}
use Rattle.budget.specs.Cone.{RepresentsIn, Lipschitz, in_cone}
use Rattle.budget.specs.Emission.{Reaches}
use Rattle.budget.proofs.Cone.{cone-in, cone-of}
use Rattle.budget.proofs.Layer.{row_of, same_row}
use Rattle.budget.proofs.Reaches.{reaches-start}
use Rattle.costs.specs.Costs.{row_words}
use Rattle.layout.specs.Layout.{arrival_at, labels_at, exits_at}
use Rattle.rows.specs.Words.{Kept}
use Rattle.trail.specs.declared.Trail.{Trail}
use Rattle.trail.specs.Trail.{Sound, stamped, new_trail, TrailKept, followed, Rewound}
use Rattle.trail.proofs.History.{sound_none, sound-kept, sound-stamped, history-start, history-kept, history-stamped, history-followed, followed-before, followed-all}
use Rattle.table.specs.declared.pushes.Grown.{Grown}
use Rattle.table.specs.Problem.{budget_of}
use Rattle.table.specs.Layer.{Layered}
use Rattle.table.proofs.Views.{budget-at, budget-outside, inside}
use Rattle.labels.specs.Labels.{labels_for, Ordered}
use Rattle.labels.specs.Idle.{no_idle}
use Rattle.labels.specs.Both.{ArrivedBoth}
use Rattle.labels.proofs.Labels.{LabelsKept, ordered-kept}
use Rattle.reach.specs.declared.layers.Layers.{Layers}
use Rattle.reach.specs.Cone.{Dropped}
use Rattle.reach.specs.Reach.{no_layers, near_by, held_by, Past, Held, Trailing, Current, Loaded}
use Rattle.reach.proofs.Kept.{row_kept}

-- the layers stay with the table and the trail
pub past-kept : {n : ℕ} {words : List ℕ} {u : ℕ} {t : Trail} → (p : Past n words u t) (new : List ℕ) → Kept 0 (n * arrival_at) words new → TrailKept n words new → Past n new u t
past-kept {n} {words} {u} {t} p new table kept =
    record {
      Z = p.Z;
      sound = sound-kept n words t new p.sound kept;
      history = history-kept n words t new p.sound kept u p.Z (λ c h l q. table (c * row_words + l) (omega arith) (omega arith)) p.history;
      none = p.none;
      outside = p.outside;
    }

-- before the first call
pub held_start : {R : Rules} {n f count exits : ℕ} {words : List ℕ} → Ordered n (n * labels_at) words count → (0 < exits → Ordered n (n * exits_at) words exits) → Held R n f count exits words no_layers
held_start {R} {n} {f} {count} {exits} {words} o x =
    record {
      ordered = o;
      exits_ordered = x;
      wide = omega arith;
      past =
          record {
            Z = λ s c l. 0;
            sound = sound_none n words _ refl refl (omega arith) (omega arith);
            history = λ s c lo hi h. absurd (omega arith);
            none = λ c l. refl;
            outside = λ s c l f. refl;
          };
      means = λ e s cell lo hi. absurd (omega arith);
    }

module _ (R : Rules) (n f k exits : ℕ) (P : ℕ → ℕ → Bool) (old : List ℕ) where
  -- a span begins with no budget and an empty trail
  pub trail-start : (words : List ℕ) (t : Trail) → t ≡ new_trail n → ((c l : ℕ) → budget_of n words c l ≡ 0) → Trailing R n f k exits P old words 0 t
  trail-start words t e none =
      record {
        past =
            record {
              Z = λ s c l. 0;
              sound = rw e (sound_none n words (new_trail n) refl refl (omega arith) (omega arith));
              history = rw e (history-start n words (new_trail n) (λ s c l. 0) refl (λ c l h q. sym (budget-at n words c l h q) ∙ none c l));
              none = λ c l. refl;
              outside = λ s c l f. refl;
            };
        means = λ s h c t. rw (zero s h) (row_of (reaches-start R (labels_for n exits old) f k (λ c l. refl)) c);
        stamp = rw e (omega arith);
      }
    where
      zero : (s : ℕ) → s ≤ 0 → s ≡ 0
      zero s h = omega arith

  -- the layers up to v have the table of now
  further : (words : List ℕ) (t : Trail) (u v : ℕ) → Past n words u t → t.stamp ≤ u + 1 → Past n words v t
  further words t u v p stamp =
      record {
        Z = followed p.Z u (budget_of n words);
        sound = p.sound;
        history = history-followed p.Z u (budget_of n words) n words t v p.sound stamp (λ c l h q. sym (budget-at n words c l h q)) p.history;
        none = λ c l. rw (followed-before p.Z u (budget_of n words) 0 (omega arith)) (p.none c l);
        outside = λ s c l f. followed-all p.Z u (budget_of n words) (λ x A. A c l ≡ 0) s (λ x h. p.outside x c l f) (λ x a b. budget-outside n words c l f) s (omega arith);
      }

  module _ (words : List ℕ) (u : ℕ) (t : Trail) (r : Trailing R n f k exits P old words u t) where
    -- after a layer
    pub trail-layer : (new : List ℕ) (next : Grown) → Layered R n (R.bound 0 f) (stamped t (u + 1)) words new next → RepresentsIn (P (u + 1)) (budget_of n new) (Reaches R (labels_for n exits old) f k (u + 1)) → Trailing R n f k exits P old new (u + 1) next.trail
    unfolding further followed
    trail-layer new next l table =
        record {
          past = further new next.trail u (u + 1) before (omega (arith, l.stamp));
          means =
              followed-all r.past.Z u (budget_of n new) (λ s A. RepresentsIn (P s) A (Reaches R (labels_for n exits old) f k s)) (u + 1) r.means
              (λ s lo hi. let e : u + 1 ≡ s = omega arith in rw e at table);
          stamp = omega (arith, l.stamp);
        }
      where
        before : Past n new u next.trail
        before =
            record {
              Z = r.past.Z;
              sound = l.sound;
              history = l.history u r.past.Z (omega arith) (history-stamped n words t (u + 1) u r.past.Z r.past.history);
              none = r.past.none;
              outside = r.past.outside;
            }

    -- after a leap
    pub trail-leap : (v : ℕ) → u ≤ v → ((s : ℕ) → u ≤ s → s ≤ v → RepresentsIn (P s) (budget_of n words) (Reaches R (labels_for n exits old) f k s)) → Trailing R n f k exits P old words v t
    unfolding further followed
    trail-leap v h table =
        record {
          past = further words t u v r.past (omega (arith, r.stamp));
          means =
              followed-all r.past.Z u (budget_of n words) (λ s A. RepresentsIn (P s) A (Reaches R (labels_for n exits old) f k s)) v r.means
              (λ s lo hi. table s (omega arith) hi);
          stamp = omega (arith, r.stamp);
        }

    -- the table and the trail stay
    pub trail-kept : (new : List ℕ) → Kept 0 (n * arrival_at) words new → TrailKept n words new → Trailing R n f k exits P old new u t
    unfolding past-kept
    trail-kept new table kept = record { past = past-kept r.past new table kept; means = r.means; stamp = r.stamp }

    pub trail-arrive : {at count exit exits' to out active : ℕ} (new : List ℕ) → ArrivedBoth n no_idle at count exit exits' k u words new to out active → Trailing R n f k exits P old new u t
    trail-arrive new a = trail-kept new (λ i lo hi. a.low i (omega arith)) (record { near = λ i lo hi. a.low i (omega arith); far = λ i lo hi. a.high i lo })

    pub trail-drop : {Q : ℕ → Bool} {active : ℕ} (new : List ℕ) → Dropped n Q words new active → Trailing R n f k exits P old new u t
    trail-drop new d = trail-kept new (λ i lo hi. d.low i (omega arith)) (record { near = λ i lo hi. d.low i (omega arith); far = λ i lo hi. d.high i (omega arith) })

    pub trail-sound : Sound n words (stamped t (u + 1))
    trail-sound = sound-stamped n words t (u + 1) (omega (arith, r.stamp)) r.past.sound

-- The end of a span's run, at a cell: in the layer of s steps, the rows next to a cell that is near enough are in the cone.
module _ (R : Rules) (n f k : ℕ) (old new : List ℕ) (width cell : ℕ) (wide : 0 < width) (apart : Lipschitz R (apart_by width cell)) (u active at count exit exits : ℕ) (t : Trail) (g : Current R n f k (in_cone (apart_by width cell) (u + 1)) old new u active at count exit exits) (r : Trailing R n f k exits (in_cone (apart_by width cell) (u + 1)) old new u t) where
  kept-seeds : LabelsKept n exits old new
  kept-seeds = record { registers = λ i lo hi. g.reaching.labels i lo (omega arith); fifos = λ h i lo hi. g.reaching.rest i (omega arith) }

  near-in : (s x c : ℕ) → T (in_cone (apart_by width cell) u s x) → T (R.linked x c) → T (in_cone (apart_by width cell) (u + 1) s c)
  near-in s x c h link = cone-in _ _ s c (omega (arith, cone-of (apart_by width cell) u s x h, apart x c link))

  span-done : Loaded R n f count exits cell k u old new (record { side = f; weight = k; steps = u; width = width; from = cell; most = u; trail = t })
  span-done =
      record {
        same = g.reaching.same;
        near = λ c link. row_kept n exits old new kept-seeds R f k u (g.reaching.table c (near-in u cell c (cone-in _ u u cell (omega (arith, apart-self width cell))) link));
        labels = g.reaching.labels;
        rest = g.reaching.rest;
        held =
            record {
              ordered = ordered-kept g.reaching.sets.near.ordered new (λ i lo hi. g.reaching.labels i lo (omega arith));
              exits_ordered = λ h. ordered-kept (g.reaching.sets.far h).ordered new (λ i lo hi. g.reaching.rest i (omega arith));
              wide = wide;
              past = r.past;
              means = λ e s x lo hi h c link. row_kept n exits old new kept-seeds R f k s (r.means s hi c (near-in s x c h link));
            };
        own = refl;
      }

pub span-loaded : (R : Rules) (n f k : ℕ) (old new : List ℕ) (width cell : ℕ) → 0 < width → Lipschitz R (apart_by width cell) → (u active at count exit exits steps : ℕ) (t : Trail) → Current R n f k (in_cone (apart_by width cell) (steps + 1)) old new u active at count exit exits → Trailing R n f k exits (in_cone (apart_by width cell) (steps + 1)) old new u t → u ≡ steps → Loaded R n f count exits cell k steps old new (record { side = f; weight = k; steps = steps; width = width; from = cell; most = steps; trail = t })
span-loaded R n f k old new width cell wide apart u active at count exit exits steps t g r e =
    span-done R n f k old new width cell wide apart steps active at count exit exits t (rw e at g) (rw e at r)

-- what `held_by` tests
pub record HeldBy (layers : Layers) (side cell weight steps : ℕ) : Type 0 where
  pub own : layers.side ≡ side
  pub span : layers.weight ≡ weight
  pub low : layers.trail.low ≤ steps
  pub high : steps ≤ layers.steps
  pub near : T (near_by layers steps cell)

pub held-parts : (layers : Layers) (side cell weight steps : ℕ) → T (held_by layers side cell weight steps) → HeldBy layers side cell weight steps
held-parts layers side cell weight steps h =
    let own : Bool = eqb layers.side side in
    let span : Bool = eqb layers.weight weight in
    let low : Bool = leb layers.trail.low steps in
    let high : Bool = leb steps layers.steps in
    let near : Bool = near_by layers steps cell in
    let more = snd own (span && (low && (high && near))) h in
    let rest = snd span (low && (high && near)) more in
    let last = snd low (high && near) rest in
    record {
      own = eqb→eq _ _ (fst own (span && (low && (high && near))) h);
      span = eqb→eq _ _ (fst span (low && (high && near)) more);
      low = leb→le _ _ (fst low (high && near) rest);
      high = leb→le _ _ (fst high near last);
      near = snd high near last;
    }

-- back on the trail
module _ (R : Rules) (n f count exits steps : ℕ) (old : List ℕ) (layers : Layers) (held : Held R n f count exits old layers) (low : layers.trail.low ≤ steps) (high : steps ≤ layers.steps) (new : List ℕ) (t : Trail) (back : Rewound n steps old layers.trail new t) where
  abbrev back_to : ℕ → Layers
  back_to k =
      record { side = f; weight = k; steps = steps; width = layers.width; from = layers.from; most = layers.most; trail = t }

  kept-labels : LabelsKept n exits old new
  kept-labels = record { registers = λ i lo hi. back.kept i (omega arith); fifos = λ h i lo hi. back.kept i (omega arith) }

  pub back-table : (c l : ℕ) → budget_of n new c l ≡ held.past.Z steps c l
  back-table c l = go (inside n c l)
    where
      go : ((c < n) × (l < row_words)) ⊎ (c < n → l < row_words → ⊥) → budget_of n new c l ≡ held.past.Z steps c l
      go (inl h) = budget-at n new c l h.0 h.1 ∙ back.table layers.steps held.past.Z low high held.past.history c l h.0 h.1
      go (inr f) = budget-outside n new c l f ∙ sym (held.past.outside steps c l f)

  loaded-back : layers.side ≡ f → (cell : ℕ) → T (near_by layers steps cell) → Loaded R n f count exits cell layers.weight steps old new (back_to layers.weight)
  loaded-back own cell near =
      record {
        same = back.same;
        near = λ c link. same_row (back-table c) (row_kept n exits old new kept-labels R f layers.weight steps (held.means own steps cell low high near c link));
        labels = λ i lo hi. back.kept i (omega arith);
        rest = λ i h. back.kept i (omega arith);
        held =
            record {
              ordered = ordered-kept held.ordered new (λ i lo hi. back.kept i (omega arith));
              exits_ordered = λ h. ordered-kept (held.exits_ordered h) new (λ i lo hi. back.kept i (omega arith));
              wide = held.wide;
              past =
                  record {
                    Z = held.past.Z;
                    sound = back.sound;
                    history = back.history layers.steps held.past.Z high held.past.history;
                    none = held.past.none;
                    outside = held.past.outside;
                  };
              means = λ e s x lo hi h c link. row_kept n exits old new kept-labels R f layers.weight s (held.means own s x (omega (arith, back.lowest)) (omega arith) h c link);
            };
        own = refl;
      }

  pub back-loaded : layers.side ≡ f → (cell weight : ℕ) → layers.weight ≡ weight → T (near_by layers steps cell) → Loaded R n f count exits cell weight steps old new (back_to weight)
  back-loaded own cell weight e near = rw e at (loaded-back own cell near)

-- at layer 0 there is no budget
pub back-empty : (n : ℕ) (old : List ℕ) (layers : Layers) → Past n old layers.steps layers.trail → layers.trail.low ≡ 0 → (new : List ℕ) (t : Trail) → Rewound n 0 old layers.trail new t → (i : ℕ) → i < n * arrival_at → get_or new i 0 ≡ 0
back-empty n old layers p low new t back i h =
    let e : i / row_words * row_words + i % row_words ≡ i = omega arith in
    rw e at (back.table layers.steps p.Z (omega arith) (omega arith) p.history (i / row_words) (i % row_words) (omega arith) (omega arith) ∙ p.none (i / row_words) (i % row_words))
