-- `labels::sites::label_cell`: on each early return the cell has a label or may have none; otherwise `label` adds one.
use Rattle.std.proofs.Common.{ℕ, ◌+◌, ◌<◌, ◌≤◌, Bool, true, false, ◌≡◌, sym, ◌∙◌, inl, inr, List, arith, ltb-true, ltb-false, T, ltb, length}
use Rattle.rules.specs.Rules.{Rules, register_code}
use Rattle.rules.specs.Legal.{may_stand}
use Rattle.plan.proofs.Truth.{of-true}
use Rattle.timing.specs.declared.elements.Register.{Register}
use Rattle.rules.specs.Crossing.{gate_for}
use Rattle.problem.specs.declared.net.Net.{Net}
use Rattle.problem.specs.Problem.{rules_for}
use Rattle.problem.proofs.Clocks.{net-fresh-load, net-fresh-delay, net-stands, net-fifo-stands, net-gate-in}
use Rattle.table.specs.Problem.{net_rules, budget_of}
use Rattle.problem.proofs.Sizes.{few-cells}
use Rattle.labels.specs.Labels.{known_of, weight_word, Labelable, LabelAdded}
use Rattle.labels.specs.Additions.{FreshIn, GateIn, LabelAsks, LabelsAddedAmong}
use Rattle.labels.proofs.Labels.{word-known, word-unknown, unknown-not, ordered-count}
use Rattle.labels.proofs.Additions.{labels-none, labels-one}
use Rattle.labels.proofs.sites.label_cell.Goals as goal
use Rattle.labels.proofs.sites.label_cell.Goals.{Else-weight_word-gt0, then-weight_word-gt0-via-then-weight_word-gt0, then-weight_word-gt0-via-else-weight_word-gt0+then-not-fresh_in, then-weight_word-gt0-via-else-weight_word-gt0+else-not-fresh_in+then-not-may_register}

module _ (net : Net) (marks : List ℕ) (code set weight steps count : ℕ) (words : List ℕ) (cell : ℕ) (asks : LabelAsks net marks code set weight steps count words) (in_plan : cell < length marks) where
  abbrev n : ℕ
  n = length marks

  abbrev R : Rules
  R = net_rules net marks

  abbrev gate : Register
  gate = gate_for net.problem.elements net.clocks code

  -- where a register may stand, a gate of this code may
  stands : may_stand (rules_for net.problem marks) cell register_code ≡ may_stand R cell code
  stands = go asks.gate
    where
      go : GateIn net code → may_stand (rules_for net.problem marks) cell register_code ≡ may_stand R cell code
      go (inl e) = rw e (sym (net-stands net marks cell register_code (λ z. omega arith)))
      go (inr e) = rw e.0 (sym (net-fifo-stands net marks asks.ready e.1 cell))

  -- the state after the gate is the rules'
  fresh : (r : Bool) → FreshIn gate words cell r → r ≡ ltb (R.fresh code).delay (budget_of n words cell (R.fresh code).load)
  fresh r f = rw (net-fresh-delay net marks code, net-fresh-load net marks code) (f n in_plan)

  abbrev Added : List ℕ → ℕ → Type 0
  Added new next = LabelsAddedAmong R n code set (λ c. c ≡ cell) weight steps words new count next

  -- nothing is added
  none : (T (may_stand R cell code) → (R.fresh code).delay < budget_of n words cell (R.fresh code).load → T (known_of n set words cell)) → Added words count
  none f = labels-none (λ c. c ≡ cell) words count asks.ordered (λ c e s b. rw e (f (rw e at s) (rw e at b)))

  labelled : 0 < weight_word n set words cell → Added words count
  labelled k = none (λ s b. word-known n set words cell in_plan k)

  not-fresh : (r : Bool) → FreshIn gate words cell r → r ≡ false → Added words count
  not-fresh r f e =
      let late = ltb-false (R.fresh code).delay (budget_of n words cell (R.fresh code).load) (sym (fresh r f) ∙ e) in
      none (λ s b. absurd (omega arith))

  no-site : (r : Bool) → r ≡ may_stand (rules_for net.problem marks) cell register_code → r ≡ false → Added words count
  no-site r m e = none (λ s b. absurd (unknown-not (sym (m ∙ stands) ∙ e) s))

  -- one label
  unlabelled : weight_word n set words cell ≡ 0 → known_of n set words cell ≡ false
  unlabelled z = word-unknown n set words cell z

  may-label : weight_word n set words cell ≡ 0 → Labelable n set cell weight steps count words
  may-label z =
      record {
        ordered = asks.ordered;
        in_plan = in_plan;
        unlabelled = unlabelled z;
        last = asks.last;
        few = asks.few;
        set_in = asks.set_in;
      }

  one_more : weight_word n set words cell ≡ 0 → (r q : Bool) → FreshIn gate words cell r → r ≡ true → q ≡ may_stand (rules_for net.problem marks) cell register_code → q ≡ true → (new : List ℕ) → LabelAdded n set cell weight steps count words new → Added new (count + 1)
  one_more z r q f e m d new a =
      labels-one (unlabelled z) (of-true (may_stand R cell code) (sym (m ∙ stands) ∙ d)) (ltb-true (R.fresh code).delay (budget_of n words cell (R.fresh code).load) (sym (fresh r f) ∙ e)) a

  few-labels : count ≤ 1024
  few-labels = omega (arith, ordered-count asks.ordered, few-cells net.problem marks asks.ready.ready)

pub returns-then-weight_word-gt0 : goal.returns-then-weight_word-gt0
returns-then-weight_word-gt0 c =
    elim c.then-weight_word-gt0.branch [
      | then-weight_word-gt0-via-then-weight_word-gt0 w ↦ labelled _ _ _ _ _ _ _ _ _ c.requires.0 c.requires.1 (omega (arith, c.weight_word.ensures, w.if-weight_word-gt0.true))
      | then-weight_word-gt0-via-else-weight_word-gt0+then-not-fresh_in w ↦ not-fresh _ _ _ _ _ _ _ _ _ c.requires.0 c.requires.1 _ (rw w.gate.ensures at w.fresh_in.ensures) w.if-not-fresh_in.true
      | then-weight_word-gt0-via-else-weight_word-gt0+else-not-fresh_in+then-not-may_register w ↦ no-site _ _ _ _ _ _ _ _ _ c.requires.0 c.requires.1 _ w.may_register.ensures w.if-not-may_register.true
    ]

pub fresh_in-requires : goal.fresh_in-requires
fresh_in-requires c =
    (rw c.gate.ensures (net-gate-in _ _ c.requires.0.ready c.args.code), omega (arith, c.requires.1, c.requires.0.room))

-- the cell has no label
unlabelled-word : (e : Else-weight_word-gt0) → weight_word (length e.args.plan.now) e.args.set e.args.scratch.now e.args.cell ≡ 0
unlabelled-word e = omega (arith, e.weight_word.ensures, e.if-weight_word-gt0.false)

pub label-requires : goal.label-requires
label-requires c =
    may-label _ _ _ _ _ _ _ _ _ c.requires.0 c.requires.1 (unlabelled-word (goal.at.label-requires c).Else-weight_word-gt0)

pub overflow_add-result : goal.overflow_add-result
overflow_add-result c =
    omega (arith, few-labels _ _ _ _ _ _ _ _ _ c.requires.0 c.requires.1)

pub returns : goal.returns
returns c =
    one_more _ _ _ _ _ _ _ _ _ c.requires.0 c.requires.1 (unlabelled-word (goal.at.returns c).Else-weight_word-gt0) _ _ (rw c.gate.ensures at c.fresh_in.ensures) c.if-not-fresh_in.false c.may_register.ensures c.if-not-may_register.false _ c.label.ensures
