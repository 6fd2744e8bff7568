-- The arrival row of one cell, as the words give it: buffer by buffer, and then `arrival` out of its three parts.
use Rattle.std.proofs.Common.{ℕ, suc, ◌+◌, ◌*◌, ◌-◌, ◌≤◌, ◌<◌, max, ◌≡◌, refl, sym, ap, ◌∙◌, Bool, true, false, cond, List, arith, le-leb, T, T_not, leb, length, get_or}
use borrow.Author.Tests.{lt-leb}
use lib.Dec.{not_T}
use Rattle.plan.specs.Plan.{marks_at}
use Rattle.timing.specs.declared.elements.Register.{Register}
use Rattle.timing.specs.declared.elements.Elements.{Elements}
use Rattle.timing.specs.Formulas.{gate_delay, skewed, buffer_driver, buffer_load, register_driver}
use Rattle.timing.proofs.Skew.{skew-paid}
use Rattle.rules.specs.Rules.{Rules, no_gate, register_code, fifo_code}
use Rattle.rules.specs.Legal.{may_stand}
use Rattle.rules.specs.Crossing.{gate_for}
use Rattle.plan.proofs.Truth.{both, parts, is_true, is_false, of-true, of-false, neqb→ne, ne→neqb}
use Rattle.rules.proofs.Document01.{BufferSite, no-gate-stands, buffer-site, buffer-stands}
use Rattle.rules.proofs.Clocks.{gate-register}
use Rattle.budget.specs.Table.{Table, only, max_below, via_buffer, via_close, arrival, load_of, buffer_cost, close_cost}
use Rattle.budget.proofs.Max.{max-longer}
use Rattle.budget.proofs.Active.{max-same}
use Rattle.costs.specs.Costs.{row_words, word_most, buffer_at, register_at, fifo_at, CostsOf}
use Rattle.rows.proofs.Leaves.{limited, driven, raised-driven}
use Rattle.problem.specs.declared.Problem.{Problem}
use Rattle.problem.specs.declared.net.Net.{Net}
use Rattle.problem.specs.Problem.{rules_for}
use Rattle.problem.specs.Net.{fifo_of}
use Rattle.problem.proofs.Clocks.{net-stands, net-closer}
use Rattle.table.specs.Problem.{plan_for, net_rules, NetReady, budget_of, seed_of}
use Rattle.table.specs.ArrivalRow.{takes_buffers, behind, raised_by_buffers, seeded}
use Rattle.table.proofs.Views.{budget-at, buffer-named, limit-named}

-- A word that is raised within the limit: x within it, z past it

raised-once : (b : Bool) (word x y z : ℕ) → word ≡ cond b x z → cond b (max word y) word ≡ cond b (max x y) z
raised-once true word x y z h = omega arith
raised-once false word x y z h = h

raised-twice : (b : Bool) (word x y z d : ℕ) → word ≡ cond b (max x y) z → cond b (max word d) word ≡ cond b (max x (max y d)) z
raised-twice true word x y z d h = omega arith
raised-twice false word x y z d h = h

raised-seed : (b s : Bool) (word x v : ℕ) → word ≡ cond b x 0 → cond s (cond b (max word v) word) word ≡ cond b (max x (cond s v 0)) 0
raised-seed true true word x v h = omega arith
raised-seed true false word x v h = omega arith
raised-seed false true word x v h = h
raised-seed false false word x v h = h

regrouped : (b : Bool) (w x y z : ℕ) → cond b (max (max (max w x) y) z) 0 ≡ cond b (max w (max x (max y z))) 0
regrouped true w x y z = omega arith
regrouped false w x y z = refl

-- Buffer by buffer

module _ (words : List ℕ) (cell to : ℕ) (e : Elements) where
  pub raised-by-none : (l : ℕ) → raised_by_buffers words cell to e 0 l ≡ get_or words (to + l) 0
  unfolding raised_by_buffers max_below
  raised-by-none l = go (leb l e.limit.0)
    where
      go : (b : Bool) → cond b (max (get_or words (to + l) 0) 0) (get_or words (to + l) 0) ≡ get_or words (to + l) 0
      go true = omega arith
      go false = refl

  module _ (i l : ℕ) where
    -- a buffer whose load is past the limit adds nothing
    pub raised-by-past : e.limit.0 < buffer_load (buffer_at e i) → raised_by_buffers words cell to e i l ≡ raised_by_buffers words cell to e (suc i) l
    unfolding raised_by_buffers max_below behind only
    raised-by-past h =
        simp (lt-leb _ _ h) (ap (λ (x : ℕ). cond (leb l e.limit.0) x (get_or words (to + l) 0)) (omega arith))

    -- any other raises the row so far
    pub raised-by-more : (so_far : List ℕ) → get_or so_far (to + l) 0 ≡ raised_by_buffers words cell to e i l → get_or so_far (cell * row_words + buffer_load (buffer_at e i)) 0 ≡ get_or words (cell * row_words + buffer_load (buffer_at e i)) 0 → buffer_load (buffer_at e i) ≤ e.limit.0 → driven so_far to (get_or so_far (cell * row_words + buffer_load (buffer_at e i)) 0) (buffer_driver (buffer_at e i)) e.limit.0 l ≡ raised_by_buffers words cell to e (suc i) l
    unfolding raised_by_buffers max_below behind only
    raised-by-more so_far here top h =
        rw top (simp (le-leb _ _ h) (raised-twice (leb l e.limit.0) _ _ _ _ _ here))

-- Where a buffer may stand, by the code's test and by the rules

module _ (p : Problem) (marks : List ℕ) (cell : ℕ) where
  abbrev site : Bool
  site = takes_buffers (get_or marks cell 0) p cell

  pub takes-site : site ≡ true → (code : ℕ) → 1 ≤ code → code ≤ p.elements.count → BufferSite (plan_for p marks) p.elements p.source p.sink cell code
  unfolding takes_buffers plan_for marks_at
  takes-site e code h k =
      let t = of-true site e in
      record {
        some = h;
        listed = k;
        unblocked = search (parts, t);
        not_sink = neqb→ne cell p.sink (search (parts, t));
        not_source = neqb→ne cell p.source (search (parts, t));
      }

  pub site-takes : (code : ℕ) → BufferSite (plan_for p marks) p.elements p.source p.sink cell code → T site
  unfolding takes_buffers plan_for marks_at
  site-takes code s =
      search (both, ne→neqb cell p.source s.not_source, ne→neqb cell p.sink s.not_sink, s.unblocked)

-- The parts of `arrival`, each as the words give it

module _ (net : Net) (marks words : List ℕ) (cell : ℕ) (ready : NetReady net marks) (inside : cell < length marks) where
  abbrev p : Problem
  p = net.problem

  abbrev R : Rules
  R = net_rules net marks

  abbrev e : Elements
  e = p.elements

  abbrev A : Table
  A = budget_of (length marks) words

  budget-word : (l : ℕ) → l < row_words → A cell l ≡ get_or words (cell * row_words + l) 0
  budget-word l h = budget-at (length marks) words cell l inside h

  buffer-load : (i : ℕ) → i < e.count → buffer_load (buffer_at e i) < row_words
  unfolding buffer_load buffer_at
  buffer-load i h = omega (arith, (ready.ready.valid.buffers i (omega (arith, ready.ready.valid.count))).load)

  via-standing : (i l : ℕ) → i < e.count → T (may_stand R cell (suc i)) → via_buffer R A cell l (suc i) ≡ behind words cell e l i
  unfolding via_buffer behind load_of buffer_cost only
  via-standing i l h t =
      simp
      (is_true (may_stand R cell (suc i)) t, buffer-named net marks i, limit-named net marks, budget-word (buffer_load (buffer_at e i)) (buffer-load i h))

  via-refused : (i l : ℕ) → (T (may_stand R cell (suc i)) → ⊥) → via_buffer R A cell l (suc i) ≡ 0
  unfolding via_buffer only
  via-refused i l t = simp (is_false (may_stand R cell (suc i)) (not_T (may_stand R cell (suc i)) t))

  -- a buffer stands as with one clock
  alike : (i : ℕ) → i < 6 → may_stand R cell (suc i) ≡ may_stand (rules_for p marks) cell (suc i)
  alike i h = net-stands net marks cell (suc i) (λ z. omega arith)

  stands-buffer : (i : ℕ) → i < 6 → T (may_stand R cell (suc i)) → BufferSite (plan_for p marks) e p.source p.sink cell (suc i)
  unfolding rules_for
  stands-buffer i h t =
      buffer-site (plan_for p marks) e p.source p.sink cell (suc i) (λ z. omega arith) (λ z. omega arith) (rw (alike i h) at t)

  buffer-may : (i : ℕ) → i < 6 → BufferSite (plan_for p marks) e p.source p.sink cell (suc i) → T (may_stand R cell (suc i))
  unfolding rules_for
  buffer-may i h s = rw (alike i h) (buffer-stands (plan_for p marks) e p.source p.sink cell (suc i) ready.ready.valid.count s)

  -- the buffers give the maximum over those that are listed, where a buffer may stand at all
  buffers-listed : site p marks cell ≡ true → (l : ℕ) → max_below 6 (λ i. via_buffer R A cell l (suc i)) ≡ max_below e.count (behind words cell e l)
  buffers-listed s l =
      max-longer 6 e.count (λ i. via_buffer R A cell l (suc i)) ready.ready.valid.count (λ i h k. via-refused i l (λ t. omega (arith, (stands-buffer i (omega arith) t).listed)))
      ∙ max-same e.count (λ i. via_buffer R A cell l (suc i)) (behind words cell e l) (λ i h. via-standing i l h (buffer-may i (omega arith) (takes-site p marks cell s (suc i) (omega arith) (omega arith))))

  buffers-none : site p marks cell ≡ false → (l : ℕ) → max_below 6 (λ i. via_buffer R A cell l (suc i)) ≡ 0
  unfolding max_below
  buffers-none s l =
      max-longer 6 0 (λ i. via_buffer R A cell l (suc i)) (omega arith) (λ i h k. via-refused i l (λ t. T_not (site p marks cell) (of-false (site p marks cell) s) (site-takes p marks cell (suc i) (stands-buffer i (omega arith) t))))

  -- the row before a register is tried
  unfoldable pub through : ℕ → ℕ
  through l = only (leb l e.limit.0) (max (get_or words (cell * row_words + l) 0) (max_below 6 (λ i. via_buffer R A cell l (suc i))))

  -- what twice the skew leaves of `top`
  abbrev rest : ℕ → ℕ
  rest top = top - 2 * e.skew

  -- and what a close at a gate does
  abbrev left : ℕ → Register → ℕ → ℕ → ℕ
  left code gate top l = cond (seed_of (length marks) words code cell) (rest top - gate_delay (register_driver gate) l) 0

  paid : (top l : ℕ) (gate : Register) → top - gate_delay (skewed e.skew (register_driver gate)) l ≡ rest top - gate_delay (register_driver gate) l
  paid top l gate = omega (arith, skew-paid e.skew (register_driver gate) l)

  passes : T (may_stand R cell no_gate)
  unfolding rules_for
  passes = rw (net-stands net marks cell no_gate (λ z. omega arith)) (no-gate-stands (plan_for p marks) e p.source p.sink cell)

  -- `arrival` at a cell of the plan
  whole : (top l : ℕ) → l < row_words → arrival R (seed_of (length marks) words) top A cell l ≡ only (leb l e.limit.0) (max (get_or words (cell * row_words + l) 0) (max (max_below 6 (λ i. via_buffer R A cell l (suc i))) (max (left register_code e.register top l) (left fifo_code (fifo_of net) top l))))
  unfolding arrival via_close close_cost only fifo_of
  whole top l h =
      simp
      (is_true (may_stand R cell no_gate) passes, budget-word l h, limit-named net marks, net-closer net marks cell register_code, net-closer net marks cell fifo_code, gate-register e net.clocks, paid top l e.register, paid top l (gate_for e net.clocks fifo_code))

  pub limited-through : site p marks cell ≡ false → (l : ℕ) → limited words cell e.limit.0 l ≡ through l
  unfolding through
  limited-through s l = rw (buffers-none s l) (ap (only (leb l e.limit.0)) (omega arith))

  module _ (mid : List ℕ) (to l : ℕ) where
    pub raised-by-through : site p marks cell ≡ true → ((k : ℕ) → k < row_words → get_or mid (cell * row_words + k) 0 ≡ get_or words (cell * row_words + k) 0) → get_or mid (to + l) 0 ≡ limited words cell e.limit.0 l → raised_by_buffers mid cell to e e.count l ≡ through l
    unfolding through raised_by_buffers only behind
    raised-by-through s row here =
        rw (buffers-listed s l, ← same) (raised-once (leb l e.limit.0) _ _ _ _ here)
      where
        same : max_below e.count (behind mid cell e l) ≡ max_below e.count (behind words cell e l)
        same =
            max-same e.count (behind mid cell e l) (behind words cell e l) (λ i h. simp (row (buffer_load (buffer_at e i)) (buffer-load i h)))

  -- the row after both tries to close: the register's (`past`), and then the FIFO's
  module _ (top : ℕ) (costs : List ℕ) (costed : CostsOf e (fifo_of net) costs) (fits : top ≤ word_most) (mid past : List ℕ) (to l : ℕ) (h : l < row_words) where
    abbrev within : Bool
    within = leb l e.limit.0

    abbrev before : ℕ
    before = max (get_or words (cell * row_words + l) 0) (max_below 6 (λ i. via_buffer R A cell l (suc i)))

    after-register : get_or mid (to + l) 0 ≡ through l → get_or past (to + l) 0 ≡ seeded (seed_of (length marks) words register_code cell) mid to (rest top) costs register_at l → get_or past (to + l) 0 ≡ cond within (max before (left register_code e.register top l)) 0
    unfolding through seeded only
    after-register here then =
        then
        ∙ (ap (λ (z : ℕ). cond (seed_of (length marks) words register_code cell) z (get_or mid (to + l) 0)) (raised-driven mid to (rest top) costs register_at (register_driver e.register) e.limit.0 costed.register (omega (arith, fits)) l h)
        ∙ raised-seed within (seed_of (length marks) words register_code cell) (get_or mid (to + l) 0) before (rest top - gate_delay (register_driver e.register) l) here)

    pub seeded-arrival : get_or mid (to + l) 0 ≡ through l → get_or past (to + l) 0 ≡ seeded (seed_of (length marks) words register_code cell) mid to (rest top) costs register_at l → seeded (seed_of (length marks) words fifo_code cell) past to (rest top) costs fifo_at l ≡ arrival R (seed_of (length marks) words) top A cell l
    unfolding seeded only
    seeded-arrival here then =
        ap (λ (z : ℕ). cond (seed_of (length marks) words fifo_code cell) z (get_or past (to + l) 0)) (raised-driven past to (rest top) costs fifo_at (register_driver (fifo_of net)) e.limit.0 costed.fifo (omega (arith, fits)) l h)
        ∙ (raised-seed within (seed_of (length marks) words fifo_code cell) (get_or past (to + l) 0) (max before (left register_code e.register top l)) (rest top - gate_delay (register_driver (fifo_of net)) l) (after-register here then)
        ∙ (regrouped within (get_or words (cell * row_words + l) 0) (max_below 6 (λ i. via_buffer R A cell l (suc i))) (left register_code e.register top l) (left fifo_code (fifo_of net) top l)
        ∙ sym (whole top l h)))
