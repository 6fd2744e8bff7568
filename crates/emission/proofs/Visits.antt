-- Emission's loop: the start, one visit more, and the whole route.
use Prim.Native.Nat.{ℕ, suc, ◌+◌, ◌-◌, ◌*◌, ◌≤◌, ◌<◌}
use mathlib.Core.Path.{◌≡◌, refl, sym, ap, ◌∙◌, subst}
use Rattle.std.specs.Prelude.{Option, Some, None}
use mathlib.Core.Logic.{◌⊎◌, inl, inr}
use mathlib.Core.List.{List, [], ◌∷◌, ◌++◌, append_assoc, append-nil}
use native.Mathlib.Omega.{arith}
use native.Mathlib.Nat.{zero-add, add-zero}
use mathlib.Core.Bool.{Bool, true, false, ◌&&◌, not, cond}
use borrow.Author.Tests.{eq-eqb, ne_eqb}
use lib.Dec.{T, T_not, eqb}
use lib.ListN.{length, get_or, set, length-set, length-append, get_or-append}
use lib.Seq.{get_or-append-add}
use Rattle.rules.specs.Rules.{Rules, register_code, fifo_code, is_closing, side_after}
use Rattle.rules.proofs.View.{side_same, side-fifo, fifo-closing}
use Rattle.rules.specs.Legal.{Visit, Route, span_after}
use Rattle.rules.specs.Beginning.{start_place}
use Rattle.rules.specs.Slack.{slacks, least_slack}
use Rattle.timing.specs.Slack.{slack_most}
use Rattle.rules.specs.Ranking.{code_sevens, written}
use Rattle.rules.specs.Crossing.{sink_side, source_side}
use Rattle.plan.proofs.Truth.{equal, decided}
use Rattle.rules.proofs.Slack.{least-none}
use Rattle.budget.specs.Table.{Table}
use Rattle.budget.specs.Done.{Least, After, Labels, Covers, Labelled, Lawful}
use Rattle.budget.specs.Emission.{FirstEnding, FirstViable, visit}
use Rattle.budget.proofs.Done.{done-steps}
use Rattle.budget.proofs.Emission.{least-exact, first-goes-on, first-last, least-after, first_more, least-goes-on, viable-goes-on, closes-known}
use Rattle.budget.proofs.Visit.{after-lighter}
use Rattle.budget.proofs.HandOver.{no-exits}
use Rattle.rows.specs.Words.{Filled}
use Rattle.rows.proofs.Words.{filled_none, filled_more, filled-as}
use Rattle.table.specs.Problem.{budget_of}
use Rattle.layout.specs.Layout.{labels_at, aside_at, label_words, cell_words}
use Rattle.labels.specs.Labels.{no_labels, labels_for}
use Rattle.labels.proofs.Labels.{labelled-kept, covers_kept, covers-moved, ordered-kept, ordered-moved, labels-register, labels-no-fifo, label-code}
use Rattle.search.specs.Turn.{Reaching}
use Rattle.choice.specs.declared.State.{State}
use Rattle.choice.specs.declared.Visit.{Visit as Visited}
use Rattle.choice.specs.Choice.{InRange, Goes, FirstVisit, ChosenAmong, Chosen}
use Rattle.reach.specs.declared.layers.Layers.{Layers}
use Rattle.reach.specs.Reach.{no_layers, Held, Loaded}
use Rattle.reach.proofs.Trailing.{held_start, past-kept}
use Rattle.emission.specs.declared.sides.Counts.{Counts}
use Rattle.emission.specs.declared.sides.Tally.{Tally}
use Rattle.emission.specs.Emission.{Aside, counts_after, Passed, tallied_after, sink_to_come, source_to_come, place_in, Onward, Emitting, Emitted}
use Rattle.emission.proofs.Slack.{slacks-next}

-- the words of visits

pub written-append : (a b : Route) → written (a ++ b) ≡ written a ++ written b
unfolding written
written-append [] b = refl
written-append (v ∷ a) b = ap (λ (xs : List ℕ). v.cell ∷ v.code ∷ xs) (written-append a b)

pub written-length : (a : Route) → length (written a) ≡ 2 * length a
unfolding written
written-length [] = refl
written-length (v ∷ a) = omega (arith, written-length a)

-- a state with least figures has a step to go
pub least-steps : {R : Rules} {f w s c l d : ℕ} → Least R f w s c l d → 0 < s
least-steps x = omega (arith, done-steps x.enough, (least-exact x x.enough.route x.enough.ending x.enough.within).1)

-- what was chosen

pub chosen-nothing : {R : Rules} {n : ℕ} {m : ℕ → Labels} {A : Table} {from : State} {cells : ℕ → Type 0} → ChosenAmong R n m A from cells None → (cell a : ℕ) → cells cell → a ≤ fifo_code → Goes R m A from cell a → ⊥
chosen-nothing (ChosenAmong.nothing f) = f

pub chosen-visit : {R : Rules} {n : ℕ} {m : ℕ → Labels} {A : Table} {from : State} {cells : ℕ → Type 0} {v : Visited} → ChosenAmong R n m A from cells (Some v) → FirstVisit R n m A from cells v.code v.state
chosen-visit (ChosenAmong.visit x) = x

-- one word more from the start
filled_next : {F : ℕ → ℕ} {n : ℕ} {old new : List ℕ} → Filled F 0 n old new → (x : ℕ) → n < length old → x ≡ F n → Filled F 0 (n + 1) old (set new n x)
filled_next {F} {n} {old} {new} f x h e = rw zero-add at (filled_more f x (omega arith) e)

none_more : (b : Bool) (x : ℕ) → x + cond b 0 0 ≡ x
none_more true x = omega arith
none_more false x = omega arith

-- registers to come, one visit on

module _ (v : Visit) (vs : Route) (side : ℕ) (tally : Tally) where
  pub sink-next : 1 + tally.sink + sink_to_come side (v ∷ vs) ≡ 1 + (tallied_after tally side v.code).sink + sink_to_come (side_after side v.code) vs
  unfolding sink_to_come tallied_after sink_side code_sevens side_after
  sink-next = go (equal v.code register_code) (equal v.code fifo_code) (equal side 0)
    where
      go : (v.code ≡ register_code) ⊎ (v.code ≡ register_code → ⊥) → (v.code ≡ fifo_code) ⊎ (v.code ≡ fifo_code → ⊥) → (side ≡ 0) ⊎ (side ≡ 0 → ⊥) → 1 + tally.sink + sink_to_come side (v ∷ vs) ≡ 1 + (tallied_after tally side v.code).sink + sink_to_come (side_after side v.code) vs
      go (inl a) (inl b) c = absurd (omega arith)
      go (inl a) (inr b) (inl c) = simp (eq-eqb v.code register_code a, ne_eqb v.code fifo_code b, eq-eqb side 0 c) (omega arith)
      go (inl a) (inr b) (inr c) = simp (eq-eqb v.code register_code a, ne_eqb v.code fifo_code b, ne_eqb side 0 c) (omega arith)
      go (inr a) (inl b) (inl c) = simp (ne_eqb v.code register_code a, eq-eqb v.code fifo_code b, eq-eqb side 0 c, ne_eqb (suc side) 0 (λ z. omega arith)) (omega arith)
      go (inr a) (inl b) (inr c) = simp (ne_eqb v.code register_code a, eq-eqb v.code fifo_code b, ne_eqb side 0 c, ne_eqb (suc side) 0 (λ z. omega arith)) (omega arith)
      go (inr a) (inr b) (inl c) = simp (ne_eqb v.code register_code a, ne_eqb v.code fifo_code b, eq-eqb side 0 c) (omega arith)
      go (inr a) (inr b) (inr c) = simp (ne_eqb v.code register_code a, ne_eqb v.code fifo_code b, ne_eqb side 0 c) (omega arith)

  pub source-next : tally.source + source_to_come side (v ∷ vs) ≡ (tallied_after tally side v.code).source + source_to_come (side_after side v.code) vs
  unfolding source_to_come tallied_after source_side code_sevens side_after
  source-next = go (equal v.code register_code) (equal v.code fifo_code) (equal side 0)
    where
      go : (v.code ≡ register_code) ⊎ (v.code ≡ register_code → ⊥) → (v.code ≡ fifo_code) ⊎ (v.code ≡ fifo_code → ⊥) → (side ≡ 0) ⊎ (side ≡ 0 → ⊥) → tally.source + source_to_come side (v ∷ vs) ≡ (tallied_after tally side v.code).source + source_to_come (side_after side v.code) vs
      go (inl a) (inl b) c = absurd (omega arith)
      go (inl a) (inr b) (inl c) = simp (eq-eqb v.code register_code a, ne_eqb v.code fifo_code b, eq-eqb side 0 c) (omega arith)
      go (inl a) (inr b) (inr c) = simp (eq-eqb v.code register_code a, ne_eqb v.code fifo_code b, ne_eqb side 0 c) (omega arith)
      go (inr a) (inl b) (inl c) = simp (ne_eqb v.code register_code a, eq-eqb v.code fifo_code b, eq-eqb side 0 c, ne_eqb (suc side) 0 (λ z. omega arith)) (omega arith)
      go (inr a) (inl b) (inr c) = simp (ne_eqb v.code register_code a, eq-eqb v.code fifo_code b, ne_eqb side 0 c, ne_eqb (suc side) 0 (λ z. omega arith)) (omega arith)
      go (inr a) (inr b) (inl c) = simp (ne_eqb v.code register_code a, ne_eqb v.code fifo_code b, eq-eqb side 0 c) (omega arith)
      go (inr a) (inr b) (inr c) = simp (ne_eqb v.code register_code a, ne_eqb v.code fifo_code b, ne_eqb side 0 c) (omega arith)

  pub tally-more : (tallied_after tally side v.code).sink + (tallied_after tally side v.code).source ≤ tally.sink + tally.source + 1
  unfolding tallied_after
  tally-more = go (eqb v.code register_code) (eqb side 0)
    where
      go : (a b : Bool) → tally.sink + cond (a && b) 1 0 + (tally.source + cond a (cond b 0 1) 0) ≤ tally.sink + tally.source + 1
      go true true = omega arith
      go true false = omega arith
      go false b = omega arith

module _ (R : Rules) (law : Lawful R) (n k s aside : ℕ) (words₀ visits₀ : List ℕ) where
  abbrev first : Visit
  first = visit R.sink register_code

  none_passed : Tally
  none_passed = record { sink = 0; source = 0 }

  -- the sink's visit is written
  pub emit-start : (before : ℕ) (at : State) (left : Counts) → at.cell ≡ R.sink → at.load.0 ≡ R.start.load → at.delay.0 ≡ R.start.delay → at.weight ≡ k → at.steps ≡ s → at.slack ≡ slack_most → at.side ≡ 0 → InRange n at → Reaching R n left.exits words₀ k s left.registers → (0 < left.exits → Aside R n words₀ aside) → Emitting R n k s aside words₀ words₀ visits₀ (set (set visits₀ 0 R.sink) 1 register_code) at no_layers 2 left (record { sink = 0; source = 0 })
  unfolding written least_slack slacks start_place sink_to_come source_to_come sink_side source_side code_sevens
  emit-start before at left e₁ e₂ e₃ e₄ e₅ e₆ e₇ in_range x ahead =
      record {
        made = [];
        onward = Onward.goes (rw (e₁, e₂, e₃, e₄, e₅, e₇) x.least) (λ vs h. rw (e₁, e₂, e₃, e₄, e₅, e₇) at h);
        in_range = in_range;
        lighter = omega arith;
        whole = omega arith;
        placed = refl;
        filled = λ room. filled_more (filled_more (filled_none (λ i. get_or (written (first ∷ [])) i 0) 0 visits₀) R.sink (omega arith) refl) register_code (omega arith) refl;
        kept = simp length-set;
        span = 0;
        slacks = λ vs. rw (e₁, e₂, e₃, e₆, e₇);
        sink = λ vs. rw e₇ refl;
        source = λ vs. rw e₇ (omega arith);
        counted = omega arith;
        before = x.before;
        labels = rw e₇ x.labels;
        held = held_start x.ordered x.exits_ordered;
        ahead = λ h. (e₇, ahead h);
        sides = omega arith;
        same = refl;
        rest = λ i h. refl;
      }

  module _ (words visits : List ℕ) (at : State) (layers : Layers) (place : ℕ) (left : Counts) (tally : Tally) (e : Emitting R n k s aside words₀ words visits₀ visits at layers place left tally) (more : 0 < at.steps) (new : List ℕ) (next : Layers) (loaded : Loaded R n at.side left.registers left.exits at.cell at.weight (at.steps - 1) words new next) where
    abbrev f : ℕ
    f = at.side

    again : at.steps ≡ suc (at.steps - 1)
    again = omega arith

    goes-least : Onward R k s at e.made → Least R f (R.weight f + at.weight) (suc (at.steps - 1)) at.cell at.load.0 at.delay.0
    goes-least (Onward.goes h g) = rw again at h
    goes-least (Onward.whole z g) = absurd (omega arith)

    least : Least R f (R.weight f + at.weight) (suc (at.steps - 1)) at.cell at.load.0 at.delay.0
    least = goes-least e.onward

    goes-rest : Onward R k s at e.made → (vs : Route) → FirstEnding R f (R.weight f + at.weight) (suc (at.steps - 1)) at.cell at.load.0 at.delay.0 vs → FirstEnding R 0 (R.weight 0 + k) s R.sink R.start.load R.start.delay (e.made ++ vs)
    goes-rest (Onward.goes h g) vs x = g vs (rw (← again) at x)
    goes-rest (Onward.whole z g) vs x = absurd (omega arith)

    labels : Labelled R f k e.before (labels_for n left.exits new)
    labels =
        labelled-kept n left.exits words new (record { registers = λ i lo hi. loaded.labels i lo (omega arith); fifos = λ h i lo hi. loaded.rest i (omega arith) }) R f k e.before e.labels

    -- some visit goes on
    pub emit-nothing : Chosen R n (labels_for n left.exits new) (budget_of n new) at None → ⊥
    emit-nothing chosen =
        let c = least-goes-on R law f (R.weight f + at.weight) (at.steps - 1) at.cell at.load.0 at.delay.0 least in
        chosen-nothing chosen c.cell c.code c.linked c.small
        (viable-goes-on R law labels at.weight (at.steps - 1) (budget_of n new) at.cell at.load.0 at.delay.0 loaded.near least c.cell c.code e.lighter c.viable)

    module _ (code : ℕ) (to : State) (v : FirstVisit R n (labels_for n left.exits new) (budget_of n new) at (λ cell. T (R.linked at.cell cell)) code to) where
      viable : FirstViable R f (R.weight f + at.weight) (suc (at.steps - 1)) at.cell at.load.0 at.delay.0 to.cell code
      viable =
          first-goes-on R law labels at.weight (at.steps - 1) e.lighter (budget_of n new) at.cell at.load.0 at.delay.0 loaded.near least to.cell code
          v.goes (λ p a link small before. v.is_first p a link small before)

      to_last : T (is_closing code) → at.weight ≡ 0 → Onward R k s to (e.made ++ (visit to.cell code ∷ []))
      to_last c z =
          let g = first-last R law f at.weight (at.steps - 1) at.cell at.load.0 at.delay.0 to.cell code viable c z in
          Onward.whole (v.steps ∙ g.0) (goes-rest e.onward (visit to.cell code ∷ []) g.1)

      to-next : (T (is_closing code) → 0 < at.weight) → Onward R k s to (e.made ++ (visit to.cell code ∷ []))
      to-next some =
          Onward.goes
          (rw (v.side, v.weight, v.steps, v.load, v.delay)
          (least-after R law f at.weight (at.steps - 1) at.cell at.load.0 at.delay.0 to.cell code some least viable.viable))
          (λ vs h.
          rw append_assoc
          (goes-rest e.onward (visit to.cell code ∷ vs)
          (first_more R law f at.weight (at.steps - 1) at.cell at.load.0 at.delay.0 to.cell code some viable vs
          (rw (v.side, v.weight, v.steps, v.load, v.delay) at h))))

      onward : Onward R k s to (e.made ++ (visit to.cell code ∷ []))
      onward = go (decided (is_closing code)) (equal at.weight 0)
        where
          go : T (is_closing code) ⊎ T (not (is_closing code)) → (at.weight ≡ 0) ⊎ (at.weight ≡ 0 → ⊥) → Onward R k s to (e.made ++ (visit to.cell code ∷ []))
          go (inl c) (inl z) = to_last c z
          go (inl c) (inr z) = to-next (λ q. omega arith)
          go (inr c) z = to-next (λ q. absurd (T_not (is_closing code) c q))

      -- the words of one visit more
      split-words : written (first ∷ (e.made ++ (visit to.cell code ∷ []))) ≡ written (first ∷ e.made) ++ (to.cell ∷ code ∷ [])
      unfolding written
      split-words = written-append (first ∷ e.made) (visit to.cell code ∷ []) ∙ last-words
        where
          last-words : written (first ∷ e.made) ++ written (visit to.cell code ∷ []) ≡ written (first ∷ e.made) ++ (to.cell ∷ code ∷ [])
          last-words = refl

      long : length (written (first ∷ e.made)) ≡ place
      long = omega (arith, written-length (first ∷ e.made), e.placed)

      filled : 2 * (s + 1) ≤ length visits₀ → Filled (λ i. get_or (written (first ∷ (e.made ++ (visit to.cell code ∷ [])))) i 0) 0 (place + 1 + 1) visits₀ (set (set visits place to.cell) (place + 1) code)
      filled room =
          filled_next
          (filled_next
          (filled-as (e.filled room) (λ i. get_or (written (first ∷ (e.made ++ (visit to.cell code ∷ [])))) i 0)
          (λ i h. rw split-words (sym (get_or-append (written (first ∷ e.made)) (to.cell ∷ code ∷ []) 0 i (omega (arith, long))))))
          to.cell (omega (arith, e.placed, e.whole)) cell-word)
          code (omega (arith, e.placed, e.whole)) code-word
        where
          cell-word : to.cell ≡ get_or (written (first ∷ (e.made ++ (visit to.cell code ∷ [])))) place 0
          cell-word = rw (split-words, ← long) (sym (rw add-zero at (get_or-append-add (written (first ∷ e.made)) (to.cell ∷ code ∷ []) 0 0)))

          code-word : code ≡ get_or (written (first ∷ (e.made ++ (visit to.cell code ∷ [])))) (place + 1) 0
          code-word = rw (split-words, ← long) (sym (get_or-append-add (written (first ∷ e.made)) (to.cell ∷ code ∷ []) 1 0))

      -- A FIFO goes on only while one is ahead
      pub passes-ahead : code ≡ fifo_code → 0 < left.exits
      passes-ahead z = go (label-code n left.exits new code to.cell (closes-known R (labels_for n left.exits new) f at.weight (at.steps - 1) (budget_of n new) at.cell at.load.0 at.delay.0 to.cell code (fifo-closing code z) v.goes))
        where
          go : (code ≡ register_code) ⊎ ((code ≡ fifo_code) × (0 < left.exits)) → 0 < left.exits
          go (inl a) = absurd (omega arith)
          go (inr a) = a.1

      -- what is asked to pass on
      pub pass-room : code ≡ fifo_code → n * aside_at + n * label_words ≤ length new
      pass-room z = omega (arith, (e.ahead (passes-ahead z)).1.room, loaded.same)

      module _ (last : List ℕ) (passed : Passed n code new last) where
        abbrev after : Counts
        after = counts_after code aside left

        -- the labels that were laid aside, as they stand after the layer
        laid : 0 < left.exits → Aside R n new aside
        laid h =
            let a = (e.ahead h).1 in
            record {
              labels = λ w t. covers_kept n (n * aside_at) words new (λ i lo hi. loaded.rest i (omega arith)) (After R 1 register_code) w t (a.labels w t);
              ordered = ordered-kept a.ordered new (λ i lo hi. loaded.rest i (omega arith));
              last = a.last;
              room = omega (arith, a.room, loaded.same);
            }

        beyond-kept : (i : ℕ) → n * cell_words ≤ i → get_or last i 0 ≡ get_or words i 0
        beyond-kept i h = passed.high i (omega arith) ∙ loaded.rest i h

        module _ (z : code ≡ fifo_code) where
          here : at.side ≡ 0
          here = (e.ahead (passes-ahead z)).0

          beyond : to.side ≡ 1
          beyond = v.side ∙ (side-fifo f code z ∙ ap suc here)

          none_left : after ≡ record { registers = aside; exits = 0 }
          unfolding counts_after
          none_left = simp (eq-eqb code fifo_code z)

          moved : (i : ℕ) → i < n * label_words → get_or last (n * labels_at + i) 0 ≡ get_or new (n * aside_at + i) 0
          moved = passed.takes z

          new-labels : Labelled R 1 k 0 (labels_for n 0 last)
          new-labels =
              record {
                registers =
                    subst (λ (x : Labels). Covers (After R 1 register_code) (R.weight 1 + k) 0 x) (sym (labels-register n 0 last))
                    (covers-moved n (n * aside_at) (n * labels_at) new last (λ i h. moved i (omega arith)) (After R 1 register_code) (R.weight 1 + k) 0 ((laid (passes-ahead z)).labels (R.weight 1 + k) 0));
                fifos = λ w t.
                    subst (λ (x : Labels). Covers (After R 1 fifo_code) w t x) (sym (labels-no-fifo n 0 last refl)) (no-exits R 1 (laid (passes-ahead z)).last no_labels (λ c u. u) w t);
              }

          new-held : Held R n 1 aside 0 last next
          new-held =
              record {
                ordered = ordered-moved (laid (passes-ahead z)).ordered (n * labels_at) last moved;
                exits_ordered = λ h. absurd (omega arith);
                wide = loaded.held.wide;
                past = past-kept loaded.held.past last (λ i lo hi. passed.low i (omega arith)) (record { near = λ i lo hi. passed.low i hi; far = λ i lo hi. passed.high i (omega arith) });
                means = λ own. absurd (omega (arith, loaded.own, here));
              }

        module _ (z : code ≡ fifo_code → ⊥) where
          same-side : to.side ≡ f
          same-side = v.side ∙ side_same f code z

          same_left : after ≡ left
          unfolding counts_after
          same_left = simp (ne_eqb code fifo_code z)

          old-held : Held R n f left.registers left.exits last next
          old-held = rw (passed.stays z) loaded.held

          old-labels : Labelled R f k e.before (labels_for n left.exits last)
          old-labels = rw (passed.stays z) labels

          old-laid : 0 < left.exits → Aside R n last aside
          old-laid h = rw (passed.stays z) (laid h)

        pub emit-next : Emitting R n k s aside words₀ last visits₀ (set (set visits place to.cell) (place + 1) code) to next (place + 2) (counts_after code aside left) (tallied_after tally f code)
        emit-next = go (equal code fifo_code)
          where
            rest_of : (before : ℕ) → Labelled R to.side k before (labels_for n after.exits last) → Held R n to.side after.registers after.exits last next → (0 < after.exits → (to.side ≡ 0) × Aside R n last aside) → to.side ≤ 1 → Emitting R n k s aside words₀ last visits₀ (set (set visits place to.cell) (place + 1) code) to next (place + 2) after (tallied_after tally f code)
            rest_of before labels held ahead sides =
                record {
                  made = e.made ++ (visit to.cell code ∷ []);
                  onward = onward;
                  in_range = v.in_range;
                  lighter = omega (arith, v.weight, after-lighter R f at.weight code, e.lighter);
                  whole = omega (arith, v.steps, length-append e.made (visit to.cell code ∷ []), e.whole);
                  placed = omega (arith, e.placed, length-append e.made (visit to.cell code ∷ []));
                  filled = λ room. subst (λ (x : ℕ). Filled (λ i. get_or (written (first ∷ (e.made ++ (visit to.cell code ∷ [])))) i 0) 0 x visits₀ (set (set visits place to.cell) (place + 1) code)) (omega arith) (filled room);
                  kept = simp length-set e.kept;
                  span = span_after e.span (visit to.cell code);
                  slacks = λ vs. rw append_assoc (e.slacks (visit to.cell code ∷ vs) ∙ slacks-next R law at to code e.span v.load v.side v.delay v.slack vs);
                  sink = λ vs. rw (append_assoc, v.side) (e.sink (visit to.cell code ∷ vs) ∙ sink-next (visit to.cell code) vs f tally);
                  source = λ vs. rw (append_assoc, v.side) (e.source (visit to.cell code ∷ vs) ∙ source-next (visit to.cell code) vs f tally);
                  counted = omega (arith, tally-more (visit to.cell code) [] f tally, e.counted, length-append e.made (visit to.cell code ∷ []));
                  before = before;
                  labels = labels;
                  held = held;
                  ahead = ahead;
                  sides = sides;
                  same = passed.same ∙ (loaded.same ∙ e.same);
                  rest = λ i h. beyond-kept i h ∙ e.rest i h;
                }

            go : (code ≡ fifo_code) ⊎ (code ≡ fifo_code → ⊥) → Emitting R n k s aside words₀ last visits₀ (set (set visits place to.cell) (place + 1) code) to next (place + 2) after (tallied_after tally f code)
            go (inl z) =
                rest_of 0
                (rw (beyond z, none_left z) (new-labels z))
                (rw (beyond z, none_left z) (new-held z))
                (λ h. absurd (omega (arith, rw (none_left z) at h)))
                (omega (arith, beyond z))
            go (inr z) =
                rest_of e.before
                (rw (same-side z, same_left z) (old-labels z))
                (rw (same-side z, same_left z) (old-held z))
                (λ h. let g : 0 < left.exits = rw (same_left z) at h in (same-side z ∙ (e.ahead g).0, old-laid z g))
                (omega (arith, same-side z, e.sides))

  -- no step is left: what is made is the first ending, with its figure and its registers
  pub emit-done : (words visits : List ℕ) (at : State) (layers : Layers) (place : ℕ) (left : Counts) (tally : Tally) → Emitting R n k s aside words₀ words visits₀ visits at layers place left tally → at.steps ≡ 0 → Emitted R n k s words₀ words visits₀ visits (record { slack = at.slack; sink = tally.sink; source = tally.source })
  unfolding sink_to_come source_to_come sink_side source_side code_sevens
  emit-done words visits at layers place left tally e z = go e.onward
    where
      go : Onward R k s at e.made → Emitted R n k s words₀ words visits₀ visits (record { slack = at.slack; sink = tally.sink; source = tally.source })
      go (Onward.goes h g) = absurd (omega (arith, least-steps h))
      go (Onward.whole y g) =
          record {
            made = e.made;
            is_first = g;
            slack = sym (least-none R (place_in e.span at) at.slack) ∙ (sym (e.slacks []) ∙ rw append-nil refl);
            sink = ap (λ (vs : Route). code_sevens (sink_side (first ∷ vs))) (sym (append-nil e.made)) ∙ (e.sink [] ∙ none_more (eqb at.side 0) (1 + tally.sink));
            source = ap (λ (vs : Route). code_sevens (source_side (first ∷ vs))) (sym (append-nil e.made)) ∙ (e.source [] ∙ none_more (eqb at.side 0) tally.source);
            kept = e.kept;
            filled = λ room.
                let p : place ≡ 2 * (s + 1) = omega (arith, e.placed, e.whole) in
                rw p at (e.filled room);
            same = e.same;
            rest = e.rest;
          }
