-- The first visit to one neighbour, out of the first code there.
use Rattle.std.proofs.Common.{ℕ, ◌+◌, ◌-◌, ◌*◌, ◌≤◌, ◌<◌, ◌≡◌, refl, ◌∙◌, Option, Some, None, ◌&&◌, List, inl, inr, arith, eq-eqb, ne_eqb, T, leb, ltb, le→leb, ℤ, length}
use Rattle.plan.proofs.Joined.{joined_in}
use Rattle.timing.specs.declared.elements.Wire.{Wire}
use Rattle.timing.specs.declared.elements.Elements.{Elements}
use Rattle.timing.specs.Ranges.{load_max}
use Rattle.timing.specs.Formulas.{wire_delay, wire_load, gate_delay, buffer_driver, register_load, setup_delay}
use Rattle.timing.proofs.Bounds.{wire-delay-max}
use Rattle.rules.specs.Rules.{Rules, wire_between, rules_of, no_gate, fifo_code, is_closing}
use Rattle.rules.specs.Legal.{may_stand, arrive, closing}
use Rattle.rules.specs.Crossing.{period_on, rules_between}
use Rattle.rules.specs.Slack.{slack_at, slack_after}
use Rattle.plan.proofs.Truth.{both, fst, snd, tests, is_true, is_false}
use Rattle.rules.proofs.View.{closing-some}
use Rattle.budget.specs.Table.{Table, load_at, delay_at, load_of, buffer_cost}
use Rattle.budget.specs.Done.{Labels}
use Rattle.budget.specs.Emission.{goes_on, after_load, after_delay, after_weight, visit, Before}
use Rattle.budget.proofs.Visit.{Gate, gate}
use Rattle.labels.specs.Labels.{labels_for}
use Rattle.problem.specs.declared.Problem.{Problem}
use Rattle.problem.specs.declared.net.Net.{Net}
use Rattle.problem.specs.Net.{weight_on}
use Rattle.table.specs.Problem.{plan_for, net_rules, NetReady, budget_of}
use Rattle.costs.specs.Costs.{buffer_at}
use Rattle.problem.proofs.Sizes.{cells_are}
use Rattle.problem.proofs.Clocks.{net-gate-in}
use Rattle.table.proofs.Views.{limit-named}
use Rattle.choice.specs.declared.State.{State}
use Rattle.choice.specs.declared.Visit.{Visit}
use Rattle.choice.specs.Choice.{delay_most, place_at, Goes, ChosenAmong}
use Rattle.choice.specs.Codes.{CodeAsks, LeaveAsks, TryAsks, goes_at, FirstCode, left_load, left_delay, left_weight, left_slack, Left}
use Rattle.costs.proofs.Checked.{buffer-load-most}
use Rattle.choice.proofs.Codes.{open-below, period-most}

-- a visit that goes on passes a wire
pub goes-linked : (R : Rules) (m : ℕ → Labels) (A : Table) (from : State) (c code : ℕ) → Goes R m A from c code → T (R.linked from.cell c)
unfolding goes_on
goes-linked R m A from c code t =
    fst (R.linked from.cell c) _ (fst (R.linked from.cell c && leb (load_at R from.cell c from.load.0) R.limit) _ t)

-- what is left after a gate is in range

module _ (net : Net) (marks : List ℕ) (ready : NetReady net marks) (at : State) (code : ℕ) (small : code ≤ fifo_code) where
  abbrev buffers : Elements
  buffers = net.problem.elements

  left-light : at.load.0 ≤ load_max → left_load net at code ≤ load_max
  unfolding left_load register_load
  left-light h = go (gate code)
    where
      go : Gate code → left_load net at code ≤ load_max
      go (Gate.none q) = simp (eq-eqb code no_gate q) h
      go (Gate.shuts q) = simp (ne_eqb code no_gate (closing-some code q), is_true (is_closing code) q) (net-gate-in net marks ready code).load
      go (Gate.buffer f g) =
          simp (ne_eqb code no_gate f, is_false (is_closing code) g) (buffer-load-most ready.ready.valid (code - 1) (omega (arith, f, open-below code small g)))

  left-early : (R : Rules) (m : ℕ → Labels) (A : Table) → ((n : ℕ) → buffer_cost R code n ≡ gate_delay (buffer_driver (buffer_at buffers (code - 1))) n) → ((c l : ℕ) → A c l ≤ delay_most) → T (goes_at R m A at code) → left_delay net at code ≤ delay_most
  unfolding left_delay setup_delay goes_at
  left-early R m A cost bounded t = go (gate code)
    where
      go : Gate code → left_delay net at code ≤ delay_most
      go (Gate.none q) =
          let u : T (may_stand R at.cell no_gate && ltb at.delay.0 (A at.cell at.load.0)) = simp (eq-eqb code no_gate q) at t in
          let h = snd (may_stand R at.cell no_gate) (ltb at.delay.0 (A at.cell at.load.0)) u in
          simp (eq-eqb code no_gate q) (omega (arith, tests, bounded at.cell at.load.0))
      go (Gate.shuts q) = simp (ne_eqb code no_gate (closing-some code q), is_true (is_closing code) q) (omega (arith, (net-gate-in net marks ready code).setup))
      go (Gate.buffer f g) =
          let u : T (may_stand R at.cell code && leb (load_of R code) R.limit && ltb (at.delay.0 + buffer_cost R code at.load.0) (A at.cell (load_of R code))) = simp (ne_eqb code no_gate f, is_false (is_closing code) g) at t in
          let h = snd (may_stand R at.cell code && leb (load_of R code) R.limit) (ltb (at.delay.0 + buffer_cost R code at.load.0) (A at.cell (load_of R code))) u in
          simp (ne_eqb code no_gate f, is_false (is_closing code) g) (omega (arith, tests, cost at.load.0, bounded at.cell (load_of R code)))

module _ (net : Net) (marks : List ℕ) (exits : ℕ) (words : List ℕ) (from : State) (cell : ℕ) (wire : Wire) (asks : TryAsks net marks exits words from cell wire) where
  abbrev p : Problem
  p = net.problem

  abbrev R : Rules
  R = net_rules net marks

  abbrev m : ℕ → Labels
  m = labels_for (length marks) exits words

  abbrev A : Table
  A = budget_of (length marks) words

  abbrev e : Elements
  e = p.elements

  abbrev k : ℕ
  k = from.weight

  abbrev u : ℕ
  u = from.steps - 1

  abbrev Only : Option Visit → Type 0
  Only = ChosenAmong R (length marks) m A from (λ c. c ≡ cell)

  linked-in : (c : ℕ) → T (R.linked from.cell c) → c < length marks
  unfolding net_rules rules_between rules_of
  linked-in c t = omega (arith, (joined_in (plan_for p marks) from.cell c t).1, cells_are p marks asks.asks.ready.ready)

  -- the number of cells is no neighbour
  pub no-neighbour : cell ≡ length marks → Only None
  no-neighbour q = ChosenAmong.nothing (λ c a s h t. omega (arith, linked-in c (goes-linked R m A from c a t)))

  -- the load, the delay and the smallest figure on arrival
  module _ (inside : cell < length marks) (load delay : ℕ) (slack : ℤ) (loads : load ≡ from.load.0 + wire_load wire) (delays : delay ≡ from.delay.0 + wire_delay wire from.load.0) (slacks : slack ≡ from.slack) where
    abbrev at : State
    at = record { cell = cell; load = record { 0 = load }; delay = record { 0 = delay }; weight = k; steps = u; slack = slack; side = from.side }

    load-named : load_at R from.cell cell from.load.0 ≡ load
    unfolding load_at
    load-named = rw (asks.same inside, loads)

    delay-named : delay_at R from.cell cell from.load.0 from.delay.0 ≡ delay
    unfolding delay_at
    delay-named = rw (asks.same inside, delays)

    -- the wire, and then the code
    goes-split : (code : ℕ) → goes_on R m from.side k u A from.cell from.load.0 from.delay.0 cell code ≡ (R.linked from.cell cell && leb load e.limit.0 && goes_at R m A at code)
    unfolding goes_on goes_at
    goes-split code = simp (load-named, delay-named, limit-named net marks)

    heavy-refused : (c code : ℕ) → c ≡ cell → e.limit.0 < load → Goes R m A from c code → ⊥
    heavy-refused c code q h t =
        let u = snd (R.linked from.cell cell) (leb load e.limit.0) (fst (R.linked from.cell cell && leb load e.limit.0) (goes_at R m A at code) (rw (q, goes-split code) at t)) in
        omega (arith, tests)

    pub too-heavy : e.limit.0 < load → Only None
    too-heavy h = ChosenAmong.nothing (λ c a s k t. heavy-refused c a s h t)

    module _ (light : load ≤ e.limit.0) where
      pub at-asks : CodeAsks net marks exits words at
      at-asks =
          record {
            ready = asks.asks.ready;
            room = asks.asks.room;
            exits_in = asks.asks.exits_in;
            in_plan = inside;
            light = omega (arith, asks.asks.ready.ready.valid.limit);
            early = omega (arith, asks.asks.in_range.early, wire-delay-max wire from.load.0 asks.wire_fits asks.asks.in_range.light);
          }

      pub leave-asks : (code : ℕ) → code ≤ fifo_code → LeaveAsks net at code
      leave-asks code h =
          record {
            valid = asks.asks.ready.ready.valid;
            gate = net-gate-in net marks asks.asks.ready code;
            period = period-most net marks asks.asks.ready at;
            light = at-asks.light;
            early = at-asks.early;
            few = asks.asks.few;
            small = h;
          }

      goes-code : (c code : ℕ) → c ≡ cell → Goes R m A from c code → T (goes_at R m A at code)
      goes-code c code q t = snd (R.linked from.cell cell && leb load e.limit.0) (goes_at R m A at code) (rw (q, goes-split code) at t)

      code-goes : (c code : ℕ) → c ≡ cell → T (goes_at R m A at code) → Goes R m A from c code
      code-goes c code q t =
          rw (q, goes-split code)
          (both (R.linked from.cell cell && leb load e.limit.0) (goes_at R m A at code)
          (both (R.linked from.cell cell) (leb load e.limit.0) (asks.joined inside) (le→leb _ _ light)) t)

      pub no_code : FirstCode R m A at None → Only None
      no_code first = ChosenAmong.nothing (λ c a s k t. first.told a (omega arith) (goes-code c a s t))

      module _ (code : ℕ) (to : State) (left : Left net at code to) where
        load_after : to.load.0 ≡ after_load R from.cell to.cell from.load.0 code
        unfolding left_load after_load load_of buffer_at net_rules rules_between rules_of
        load_after = left.load ∙ rw (left.cell, load-named)

        delay-after : to.delay.0 ≡ after_delay R from.cell to.cell from.load.0 from.delay.0 code
        unfolding left_delay after_delay buffer_cost buffer_at net_rules rules_between rules_of
        delay-after = left.delay ∙ rw (left.cell, load-named, delay-named)

        weight-after : to.weight ≡ after_weight R from.side k code
        unfolding left_weight after_weight weight_on net_rules rules_between rules_of
        weight-after = left.weight

        slack-after : to.slack ≡ slack_after R (place_at from) from.slack (visit to.cell code)
        unfolding left_slack slack_after slack_at closing arrive net_rules rules_between rules_of
        slack-after =
            let wired : wire_between (plan_for p marks) e from.cell cell ≡ wire = asks.same inside in
            let whole : 2 * period_on e net.clocks from.side + 1 - 1 ≡ 2 * period_on e net.clocks from.side = omega arith in
            left.slack ∙ rw (left.cell, wired, whole, slacks, loads, delays)

        cost : (n : ℕ) → buffer_cost R code n ≡ gate_delay (buffer_driver (buffer_at e (code - 1))) n
        unfolding buffer_cost buffer_at net_rules rules_between rules_of
        cost n = refl

        pub first-visit : FirstCode R m A at (Some code) → Only (Some (record { code = code; state = to }))
        first-visit first =
            ChosenAmong.visit
            (record {
              among = left.cell;
              goes = code-goes to.cell code left.cell first.told.goes;
              is_first = λ c a s h b t. earlier c a s b (goes-code c a s t);
              small = first.told.within;
              load = load_after;
              delay = delay-after;
              weight = weight-after;
              steps = left.steps;
              slack = slack-after;
              side = left.side;
              in_range =
                  record {
                    in_plan = omega (arith, left.cell);
                    light = rw left.load (left-light net marks asks.asks.ready at code first.told.within at-asks.light);
                    early = rw left.delay (left-early net marks asks.asks.ready at code first.told.within R m A cost first.bounded first.told.goes);
                  };
            })
          where
            earlier : (c a : ℕ) → c ≡ cell → Before c a to.cell code → T (goes_at R m A at a) → ⊥
            earlier c a s (inl h) t = omega (arith, left.cell)
            earlier c a s (inr h) t = first.told.is_first a h.1 t
