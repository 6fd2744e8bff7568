-- The codes at one cell, by the words: which tests of the code say that a visit goes on, and the first code out of them.
use Rattle.std.proofs.Common.{ℕ, zero, suc, ◌+◌, ◌*◌, ◌≤◌, ◌<◌, ◌≡◌, refl, ◌∙◌, Some, None, Bool, true, false, not, ◌&&◌, cond, List, ◌⊎◌, inl, inr, arith, add-one, ne_eqb, T, T_not, leb, ltb, pos, length, get_or}
use lib.Dec.{not_T}
use lib.Signed.{le_z}
use Rattle.timing.specs.declared.elements.Elements.{Elements}
use Rattle.timing.specs.Ranges.{period_max}
use Rattle.timing.specs.Formulas.{gate_delay, skewed, buffer_load, register_driver}
use Rattle.timing.proofs.SlackLaws.{slack-below}
use Rattle.rules.specs.Rules.{Rules, no_gate, register_code, fifo_code, is_closing}
use Rattle.rules.specs.Legal.{may_stand}
use Rattle.rules.specs.Crossing.{period_on}
use Rattle.plan.proofs.Truth.{split, equal, is_true, is_false, of-true, of-false}
use Rattle.rules.proofs.View.{open_code, closing-some, register-closing, fifo-closing}
use Rattle.rules.proofs.Document01.{BufferSite, no-gate-stands, buffer-site, buffer-stands}
use Rattle.budget.specs.Table.{Table, load_of, buffer_cost, close_cost}
use Rattle.budget.specs.Done.{Labels}
use Rattle.budget.specs.Emission.{exact_seed}
use Rattle.budget.proofs.Max.{only-most}
use Rattle.labels.specs.Labels.{labels_for}
use Rattle.costs.specs.Costs.{row_words, buffer_at}
use Rattle.rows.specs.Rows.{view_of}
use Rattle.problem.specs.declared.Problem.{Problem}
use Rattle.problem.specs.declared.net.Net.{Net}
use Rattle.problem.specs.Problem.{rules_for}
use Rattle.problem.proofs.Clocks.{net-stands, net-closer, net-bound}
use Rattle.table.specs.Problem.{plan_for, net_rules, NetReady, budget_of}
use Rattle.costs.proofs.Checked.{buffer-load-most}
use Rattle.table.specs.ArrivalRow.{takes_buffers}
use Rattle.table.proofs.ArrivalRow.{takes-site, site-takes}
use Rattle.table.proofs.Views.{budget-at, buffer-named, limit-named}
use Rattle.choice.specs.declared.State.{State}
use Rattle.choice.specs.Choice.{delay_most}
use Rattle.choice.specs.Codes.{CodeAsks, gate_at, period_at, slack_with, goes_at, drives, NoneGoes, FirstCode, NoneDrives, DrivesFirst}

-- the codes below the register's close no span
pub below-open : (code : ℕ) → code < register_code → T (not (is_closing code))
below-open code h = open_code code (λ e. omega arith) (λ e. omega arith)

-- the others up to the FIFO's do
pub high-closes : (code : ℕ) → code ≤ fifo_code → register_code ≤ code → T (is_closing code)
high-closes code h k = go (equal code register_code)
  where
    go : (code ≡ register_code) ⊎ (code ≡ register_code → ⊥) → T (is_closing code)
    go (inl e) = register-closing code e
    go (inr f) = fifo-closing code (omega (arith, f))

pub open-below : (code : ℕ) → code ≤ fifo_code → T (not (is_closing code)) → code < register_code
open-below code h g = go (split register_code code)
  where
    go : (register_code ≤ code) ⊎ (code < register_code) → code < register_code
    go (inl k) = absurd (T_not (is_closing code) g (high-closes code h k))
    go (inr k) = k

-- the period on either side is in range
pub period-most : (net : Net) (marks : List ℕ) → NetReady net marks → (at : State) → period_at net at ≤ period_max
unfolding period_on
period-most net marks ready at = go (leb 1 net.clocks.fifos && leb 1 at.side)
  where
    go : (b : Bool) → cond b net.clocks.period net.problem.elements.period ≤ period_max
    go true = ready.clocks.most
    go false = ready.ready.valid.most

-- the table's words have 16 bits if all words have
pub budget-bounded : (n : ℕ) (words : List ℕ) → ((k : ℕ) → get_or words k 0 ≤ delay_most) → (c l : ℕ) → budget_of n words c l ≤ delay_most
unfolding budget_of
budget-bounded n words h c l = omega (arith, only-most (ltb c n && ltb l row_words) (get_or words (c * 64 + l) 0), h (c * 64 + l))

module _ (net : Net) (marks : List ℕ) (exits : ℕ) (words : List ℕ) (at : State) (asks : CodeAsks net marks exits words at) where
  abbrev R : Rules
  R = net_rules net marks

  abbrev m : ℕ → Labels
  m = labels_for (length marks) exits words

  abbrev A : Table
  A = budget_of (length marks) words

  abbrev p : Problem
  p = net.problem

  abbrev e : Elements
  e = p.elements

  abbrev site : Bool
  site = takes_buffers (get_or marks at.cell 0) p at.cell

  -- the delay is below the table's word
  abbrev early : Bool
  early = ltb at.delay.0 (view_of words at.cell at.load.0)

  -- what may stand here

  none-stands : T (may_stand R at.cell no_gate)
  unfolding rules_for
  none-stands =
      rw (net-stands net marks at.cell no_gate (λ z. omega arith))
      (no-gate-stands (plan_for p marks) e p.source p.sink at.cell)

  site-stands : (code : ℕ) → 1 ≤ code → code ≤ e.count → site ≡ true → T (may_stand R at.cell code)
  unfolding rules_for
  site-stands code h k s =
      rw (net-stands net marks at.cell code (λ z. omega (arith, asks.ready.ready.valid.count)))
      (buffer-stands (plan_for p marks) e p.source p.sink at.cell code asks.ready.ready.valid.count (takes-site p marks at.cell s code h k))

  stands-site : (code : ℕ) → (code ≡ no_gate → ⊥) → code < register_code → T (may_stand R at.cell code) → BufferSite (plan_for p marks) e p.source p.sink at.cell code
  unfolding rules_for
  stands-site code f h t =
      buffer-site (plan_for p marks) e p.source p.sink at.cell code f (λ z. omega arith) (rw (net-stands net marks at.cell code (λ z. omega arith)) at t)

  -- no gate

  pub goes_none : goes_at R m A at no_gate ≡ early
  unfolding goes_at
  goes_none =
      simp
      (is_true (may_stand R at.cell no_gate) none-stands, budget-at (length marks) words at.cell at.load.0 asks.in_plan (omega (arith, asks.light)))

  -- a buffer

  goes-buffer : (i : ℕ) → i < e.count → site ≡ true → goes_at R m A at (suc i) ≡ drives words e at i
  unfolding goes_at drives load_of buffer_cost
  goes-buffer i h s =
      simp
      (ne_eqb (suc i) no_gate (λ z. omega arith), is_false (is_closing (suc i)) (below-open (suc i) (omega (arith, asks.ready.ready.valid.count))), is_true (may_stand R at.cell (suc i)) (site-stands (suc i) (omega arith) (omega arith) s), buffer-named net marks i, limit-named net marks, budget-at (length marks) words at.cell (buffer_load (buffer_at e i)) asks.in_plan (omega (arith, buffer-load-most asks.ready.ready.valid i (omega (arith, asks.ready.ready.valid.count)))))

  goes-refused : (code : ℕ) → (code ≡ no_gate → ⊥) → code < register_code → (T (may_stand R at.cell code) → ⊥) → T (goes_at R m A at code) → ⊥
  unfolding goes_at
  goes-refused code f g h t =
      simp
      (ne_eqb code no_gate f, is_false (is_closing code) (below-open code g), is_false (may_stand R at.cell code) (not_T (may_stand R at.cell code) h)) at t

  -- a gate that closes the span

  pub goes-closing : (code : ℕ) → T (is_closing code) → goes_at R m A at code ≡ exact_seed m at.weight at.steps code at.cell && le_z (pos 0) (slack_with net at code)
  unfolding goes_at close_cost
  goes-closing code h =
      simp
      (ne_eqb code no_gate (closing-some code h), is_true (is_closing code) h, net-closer net marks at.cell code, net-bound net marks 0 at.side, slack-below (2 * period_at net at) (at.delay.0 + gate_delay (skewed net.problem.elements.skew (register_driver (gate_at net code))) at.load.0))

  -- Nothing below the first buffer's code goes on, if a buffer may stand here at all
  module _ (late : early ≡ false) where
    none-refused : (a : ℕ) → a ≡ no_gate → T (goes_at R m A at a) → ⊥
    none-refused a z t = T_not early (of-false early late) (rw (z, goes_none) at t)

    below-buffer : site ≡ true → (i : ℕ) → i ≤ e.count → NoneDrives words e at i → NoneGoes R m A at (i + 1)
    below-buffer s i h none zero k t = none-refused 0 refl t
    below-buffer s i h none (suc j) k t = none j (omega (arith, k)) (rw (goes-buffer j (omega (arith, h, k)) s) at t)

    -- no code below the register's goes on
    pub no_buffer : site ≡ true → NoneDrives words e at e.count → NoneGoes R m A at register_code
    no_buffer s none a k t = go (split a e.count)
      where
        go : (a ≤ e.count) ⊎ (e.count < a) → ⊥
        go (inl q) = below-buffer s e.count (omega arith) none a (omega arith) t
        go (inr q) = goes-refused a (λ z. omega arith) k (λ u. omega (arith, (stands-site a (λ z. omega arith) k u).listed)) t

    pub no-site : site ≡ false → NoneGoes R m A at register_code
    no-site s zero k t = none-refused 0 refl t
    no-site s (suc i) k t =
        goes-refused (suc i) (λ z. omega arith) k (λ u. T_not site (of-false site s) (site-takes p marks at.cell (suc i) (stands-site (suc i) (λ z. omega arith) k u))) t

  -- and then not the next one either
  pub low-more : (code : ℕ) → NoneGoes R m A at code → goes_at R m A at code ≡ false → NoneGoes R m A at (code + 1)
  low-more code low f a h t = go (split code a)
    where
      go : (code ≤ a) ⊎ (a < code) → ⊥
      go (inl k) =
          let z : a ≡ code = omega arith in
          T_not (goes_at R m A at code) (of-false (goes_at R m A at code) f) (rw z at t)
      go (inr k) = low a k t

  -- the first code, by the tests

  module _ (bits : (k : ℕ) → get_or words k 0 ≤ delay_most) where
    bounded : (c l : ℕ) → A c l ≤ delay_most
    bounded = budget-bounded (length marks) words bits

    -- this code goes on, and no smaller one does
    pub code-first : (code : ℕ) → code ≤ fifo_code → goes_at R m A at code ≡ true → NoneGoes R m A at code → FirstCode R m A at (Some code)
    code-first code h goes low = record { told = record { within = h; goes = of-true (goes_at R m A at code) goes; is_first = low }; bounded = bounded }

    pub code-none : NoneGoes R m A at (fifo_code + 1) → FirstCode R m A at None
    code-none none = record { told = none; bounded = bounded }

    pub code-gateless : early ≡ true → FirstCode R m A at (Some 0)
    code-gateless h = code-first 0 (omega arith) (goes_none ∙ h) (λ a k. absurd (omega arith))

    pub code-buffer : early ≡ false → site ≡ true → (i : ℕ) → DrivesFirst words e at i → FirstCode R m A at (Some (i + 1))
    code-buffer late s i first =
        let goes : goes_at R m A at (i + 1) ≡ true = rw (add-one, goes-buffer i first.within s) (is_true (drives words e at i) first.found) in
        code-first (i + 1) (omega (arith, asks.ready.ready.valid.count, first.within)) goes (below-buffer late s i (omega (arith, first.within)) first.is_first)
