-- Completeness of the pass: where nothing that waits comes before the next close, and no span has closed at the source within the period, no period before that close has a route.
-- Idea: a state of a route is covered where the words have a delay for its cell and load that is no later. The route's start is covered, and from a covered state so is the next; the last one would have closed at the source.
use Prim.Native.Nat.{ℕ, zero, suc, ◌+◌, ◌*◌, ◌≤◌, ◌<◌}
use mathlib.Core.Path.{◌≡◌, subst}
use mathlib.Core.Logic.{◌⊎◌, inl, inr}
use mathlib.Core.List.{List}
use native.Mathlib.Omega.{arith}
use lib.Dec.{T}
use lib.ListN.{length, get_or}
use Rattle.timing.specs.Ranges.{period_max}
use Rattle.timing.specs.Relaxed.{at_period}
use Rattle.timing.specs.Formulas.{gate_delay, buffer_driver, buffer_load}
use Rattle.plan.proofs.Truth.{split}
use Rattle.rules.specs.Rules.{Stage, Rules, register_code, site_of, wire_between, rules_of}
use Rattle.rules.specs.Legal.{Route, arrive, buffered, closing, is_end, may_stand}
use Rattle.rules.specs.Carrying.{Buffering}
use Rattle.rules.specs.Relaxed.{HasRoute}
use Rattle.rules.proofs.View.{Reached, Ending, LegalRoute, starts, route-view, stands-between, not-source}
use Rattle.rules.proofs.Document01.{closing-register}
use Rattle.rules.proofs.Carrying.{wire-grows, driver-grows}
use Rattle.budget.specs.Done.{stage}
use Rattle.costs.specs.Costs.{row_words}
use Rattle.rows.specs.Rows.{view_of}
use Rattle.problem.specs.declared.Problem.{Problem}
use Rattle.problem.proofs.Sizes.{cells_are}
use Rattle.problem.specs.Problem.{plan_for, rules_for}
use Rattle.queue.specs.Queue.{place_of, Waits}
use Rattle.delays.specs.Delays.{never, latest, closes_of, Idle, NextClose, NoneBefore}
use Rattle.spans.specs.Opens.{MayClose, rules_at}
use Rattle.spans.specs.Eases.{StartedAt}
use Rattle.spans.specs.Arrive.{Arrived}
use Rattle.spans.specs.Spread.{Spread}
use Rattle.earliest.specs.Earliest.{Handled, Passing}

-- delays never fall on the way, so every state of an ending is within the period
ending-early : (p : Problem) (marks : List ℕ) (b : ℕ) {c span fifos : ℕ} {s : Stage} {vs : Route} → Ending (rules_at p marks b) c span fifos s vs → s.delay ≤ 2 * b
unfolding rules_at rules_of at_period arrive buffered closing
ending-early p marks b (Ending.ends h) = omega (arith, h.closed)
ending-early p marks b (Ending.passes h e) = omega (arith, ending-early p marks b e)
ending-early p marks b (Ending.buffers h e) = omega (arith, ending-early p marks b e)
ending-early p marks b (Ending.closes h e) = omega (arith, h.closed)

-- a state of the cell that is no heavier and no later has gone on to every neighbour
record GoneFrom (p : Problem) (marks words : List ℕ) (c l : ℕ) : Type 0 where
  pub load : ℕ
  pub light : load ≤ l
  pub early : view_of words c load ≤ view_of words c l
  pub spread : Spread (rules_for p marks) (length marks) words c load (view_of words c load)

-- a span no heavier and no later than the stage has come to the cell
record ComeTo (p : Problem) (marks words : List ℕ) (to : ℕ) (a : Stage) : Type 0 where
  pub load : ℕ
  pub delay : ℕ
  pub light : load ≤ a.load
  pub early : delay ≤ a.delay
  pub arrived : Arrived (rules_for p marks) (length marks) words to load delay

module _ (p : Problem) (marks : List ℕ) (t : ℕ) (words : List ℕ) (count close : ℕ) (passing : Passing p marks t words count) (none : NoneBefore (length marks) words count close) where
  abbrev n : ℕ
  n = length marks

  abbrev limit : ℕ
  limit = p.elements.limit.0

  -- What waits before the close is idle: a lighter state is as early. So on to that one, until one has gone on.

  goes : (c l : ℕ) → l ≤ limit → view_of words c l < close → ((k : ℕ) → k < l → view_of words c k ≤ view_of words c l → GoneFrom p marks words c k) → Handled p marks words count c l → GoneFrom p marks words c l
  goes c l fits before lighter x = go x.handled
    where
      on : (k : ℕ) → k < l → view_of words c k ≤ view_of words c l → GoneFrom p marks words c l
      on k h e =
          let g = lighter k h e in
          record { load = g.load; light = omega (arith, g.light); early = omega (arith, g.early); spread = g.spread }

      waiting : (close ≤ view_of words c x.load) ⊎ Idle words (c * row_words + x.load) → GoneFrom p marks words c l
      waiting (inl h) = absurd (omega (arith, x.early))
      waiting (inr z) =
          let short : x.load < row_words = omega (arith, x.light, passing.ground.ready.valid.limit) in
          let same : z.cell ≡ c = omega (arith, z.is, z.light) in
          let early = subst (λ (k : ℕ). view_of words k z.load ≤ view_of words c x.load) same z.early in
          on z.load (omega (arith, z.is, z.light, x.light)) (omega (arith, early, x.early))

      go : Waits n words count (c * row_words + x.load) ⊎ Spread (rules_for p marks) n words c x.load (view_of words c x.load) → GoneFrom p marks words c l
      go (inl w) = waiting (subst (λ (s : ℕ). (close ≤ get_or words s 0) ⊎ Idle words s) w.holds (none (place_of n words (c * row_words + x.load)) w.early))
      go (inr s) = record { load = x.load; light = x.light; early = x.early; spread = s }

  gone : (fuel c l : ℕ) → l < fuel → c < length marks → l ≤ p.elements.limit.0 → view_of words c l < close → view_of words c l < never → GoneFrom p marks words c l
  gone zero c l short inside fits before some = absurd (omega arith)
  gone (suc fuel) c l short inside fits before some =
      goes c l fits before
      (λ k h e. gone fuel c k (omega arith) inside (omega arith) (omega arith) (omega arith))
      (passing.handled c l inside fits some)

  -- a step of the route from a covered state
  comes : (b : ℕ) → 2 * b < close → b ≤ period_max → (c to : ℕ) (s : Stage) → c < length marks → view_of words c s.load ≤ s.delay → Reached (rules_at p marks b) c s to → (arrive (rules_at p marks b) c s to).delay ≤ 2 * b → ComeTo p marks words to (arrive (rules_at p marks b) c s to)
  unfolding rules_at rules_for rules_of at_period wire_between arrive
  comes b before most c to s inside covered reached early =
      let g = gone (suc s.load) c s.load (omega arith) inside (omega (arith, reached.light)) (omega arith) (omega arith) in
      let wire = (wire-grows ((rules_for p marks).wire c to)).delay g.load s.load g.light in
      record {
        load = (arrive (rules_for p marks) c (stage g.load (view_of words c g.load)) to).load;
        delay = (arrive (rules_for p marks) c (stage g.load (view_of words c g.load)) to).delay;
        light = omega (arith, g.light);
        early = omega (arith, g.early, wire);
        arrived = g.spread to reached.wired (omega (arith, g.light, reached.light)) (omega (arith, g.early, wire));
      }

  -- What has come covers the next state: without a gate, after a buffer; and the close.

  module _ (to : ℕ) (a : Stage) (inside : to < length marks) (x : ComeTo p marks words to a) where
    covers : a.load ≤ p.elements.limit.0 → view_of words to a.load ≤ a.delay
    covers fits = omega (arith, passing.ground.falling to x.load a.load inside x.light fits, x.arrived.passes, x.early)

    covers-buffer : (code : ℕ) → Buffering code → T (may_stand (rules_for p marks) to code) → buffer_load ((rules_for p marks).buffer code) ≤ (rules_for p marks).limit → a.delay + gate_delay (buffer_driver ((rules_for p marks).buffer code)) a.load ≤ latest → view_of words to (buffer_load ((rules_for p marks).buffer code)) ≤ a.delay + gate_delay (buffer_driver ((rules_for p marks).buffer code)) a.load
    covers-buffer code f may fits early =
        let grown = driver-grows (buffer_driver ((rules_for p marks).buffer code)) x.load a.load x.light in
        omega (arith, grown, x.early, x.arrived.buffers code f may fits (omega (arith, grown, x.early)))

    covers-close : MayClose (rules_for p marks) to → a.delay + gate_delay ((rules_for p marks).closer to register_code) a.load ≤ latest → closes_of (length marks) words to ≤ a.delay + gate_delay ((rules_for p marks).closer to register_code) a.load
    covers-close may early =
        let grown = driver-grows ((rules_for p marks).closer to register_code) x.load a.load x.light in
        omega (arith, grown, x.early, x.arrived.closes may (omega (arith, grown, x.early)))

  module _ (far : 2 * t < closes_of (length marks) words p.source) (next : NextClose (length marks) words (2 * t) close) (b : ℕ) (before : 2 * b < close) (most : b ≤ period_max) where
    abbrev R : Rules
    R = rules_at p marks b

    in-plan : (c : ℕ) → c < (rules_at p marks b).cell_count → c < length marks
    unfolding rules_at rules_of
    in-plan c h = omega (arith, h, cells_are p marks passing.ground.ready)

    -- a span that closes before the next close has closed within the period, and has gone on
    goes_on : (c : ℕ) → c < length marks → closes_of (length marks) words c ≤ 2 * b → (c ≡ p.source → ⊥) → StartedAt p marks words c
    goes_on c inside early other = go (split (closes_of n words c) (2 * t))
      where
        go : (closes_of n words c ≤ 2 * t) ⊎ (2 * t < closes_of n words c) → StartedAt p marks words c
        go (inl h) = passing.going c inside h other
        go (inr h) = absurd (omega (arith, next.least c inside h))

    no-ending : {c span fifos : ℕ} {s : Stage} {vs : Route} → Ending (rules_at p marks b) c span fifos s vs → c < length marks → view_of words c s.load ≤ s.delay → ⊥
    unfolding rules_at rules_for rules_of at_period site_of wire_between arrive buffered closing may_stand is_end
    no-ending (Ending.ends {from = c} {s = s} {v = v} h) inside covered =
        let here = in-plan v.cell h.reached.in_plan in
        let x = comes b before most c v.cell s inside covered h.reached (omega (arith, h.closed)) in
        let shut = covers-close v.cell (arrive R c s v.cell) here x (inl h.at_source) (omega (arith, h.closed)) in
        let source : 2 * t < closes_of n words v.cell = rw h.at_source far in
        omega (arith, shut, h.closed, next.least v.cell here source)
    no-ending (Ending.passes {from = c} {s = s} {v = v} h e) inside covered =
        let here = in-plan v.cell h.reached.in_plan in
        let x = comes b before most c v.cell s inside covered h.reached (ending-early p marks b e) in
        no-ending e here (covers v.cell (arrive R c s v.cell) here x h.reached.light)
    no-ending (Ending.buffers {from = c} {s = s} {v = v} h e) inside covered =
        let here = in-plan v.cell h.reached.in_plan in
        let x = comes b before most c v.cell s inside covered h.reached (omega (arith, ending-early p marks b e)) in
        let f : Buffering v.code = record { some_gate = h.some_gate; no_close = h.no_close } in
        no-ending e here (covers-buffer v.cell (arrive R c s v.cell) here x v.code f h.stands h.light_after (omega (arith, ending-early p marks b e)))
    no-ending (Ending.closes {from = c} {s = s} {v = v} h e) inside covered =
        let here = in-plan v.cell h.reached.in_plan in
        let x = comes b before most c v.cell s inside covered h.reached (omega (arith, h.closed)) in
        let is : v.code ≡ register_code = closing-register (plan_for p marks) (at_period b p.elements) p.source p.sink v.cell v.code passing.ground.ready.valid.count h.code h.stands in
        let stands = subst (λ (code : ℕ). T (may_stand R v.cell code)) is h.stands in
        let other = not-source R v.cell (stands-between R v.cell register_code stands (λ z. omega arith)) in
        let shut = covers-close v.cell (arrive R c s v.cell) here x (inr stands) (omega (arith, h.closed)) in
        no-ending e here (goes_on v.cell here (omega (arith, shut, h.closed)) other)

    pub no-route : HasRoute (rules_at p marks b) → ⊥
    unfolding rules_at rules_of at_period
    no-route x = go (route-view R x.route x.is_legal)
      where
        go : {r : Route} → LegalRoute (rules_at p marks b) r → ⊥
        go (starts h e) = no-ending e passing.ground.ready.sink passing.begun
