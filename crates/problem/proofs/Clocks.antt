-- The rules of a net: each field that the clocks change, as an equation; with one clock they are the problem's.
use Rattle.std.proofs.Common.{ℕ, ◌+◌, ◌*◌, ◌≤◌, ◌≡◌, refl, sym, Bool, true, false, cond, List, T, length}
use Rattle.timing.specs.declared.elements.Elements.{Elements}
use Rattle.timing.specs.declared.clocks.Clocks.{Clocks}
use Rattle.timing.specs.Elements.{RegisterInRange}
use Rattle.timing.specs.Formulas.{skewed, register_driver, register_load, setup_delay}
use Rattle.timing.proofs.OneClock.{one-valid}
use Rattle.rules.specs.Rules.{Rules, register_code, fifo_code, rules_of}
use Rattle.rules.specs.Legal.{may_stand}
use Rattle.rules.specs.Crossing.{is_fifo, gate_for, period_on, rules_between}
use Rattle.rules.proofs.Clocks.{one-clock, stands_alike, fifo-stands, fifo-nowhere}
use Rattle.problem.specs.declared.Problem.{Problem}
use Rattle.problem.specs.declared.net.Net.{Net}
use Rattle.problem.specs.Problem.{plan_for, rules_for, Ready}
use Rattle.problem.specs.Net.{one_net, weight_on, net_rules, NetReady}
use Rattle.problem.proofs.Sizes.{cells_are}

-- with one clock

pub one-rules : (p : Problem) (marks : List ℕ) → net_rules (one_net p) marks ≡ rules_for p marks
unfolding net_rules one_net rules_for
one-rules p marks = one-clock (plan_for p marks) p.elements p.elements.period p.source p.sink

pub one-ready : (p : Problem) (marks : List ℕ) → Ready p marks → NetReady (one_net p) marks
unfolding one_net
one-ready p marks ready = record { ready = ready; clocks = one-valid p.elements ready.valid }

-- the fields

module _ (net : Net) (marks : List ℕ) where
  abbrev R : Rules
  R = net_rules net marks

  abbrev e : Elements
  e = net.problem.elements

  abbrev x : Clocks
  x = net.clocks

  pub net-source : R.source ≡ net.problem.source
  unfolding net_rules rules_between rules_of
  net-source = refl

  pub net-sink : R.sink ≡ net.problem.sink
  unfolding net_rules rules_between rules_of
  net-sink = refl

  pub net-limit : R.limit ≡ e.limit.0
  unfolding net_rules rules_between rules_of
  net-limit = refl

  pub net-cells : NetReady net marks → R.cell_count ≡ length marks
  unfolding net_rules rules_between rules_of
  net-cells ready = sym (cells_are net.problem marks ready.ready)

  pub net-start-load : R.start.load ≡ register_load e.register
  unfolding net_rules rules_between rules_of
  net-start-load = refl

  pub net-start-delay : R.start.delay ≡ setup_delay e.register
  unfolding net_rules rules_between rules_of
  net-start-delay = refl

  pub net-fresh-load : (code : ℕ) → (R.fresh code).load ≡ register_load (gate_for e x code)
  unfolding net_rules rules_between
  net-fresh-load code = refl

  pub net-fresh-delay : (code : ℕ) → (R.fresh code).delay ≡ setup_delay (gate_for e x code)
  unfolding net_rules rules_between
  net-fresh-delay code = refl

  pub net-closer : (cell code : ℕ) → R.closer cell code ≡ skewed e.skew (register_driver (gate_for e x code))
  unfolding net_rules rules_between
  net-closer cell code = refl

  pub net-bound : (span f : ℕ) → R.bound span f ≡ 2 * period_on e x f + 1
  unfolding net_rules rules_between
  net-bound span f = refl

  pub net-fifos : R.fifos ≡ x.fifos
  unfolding net_rules rules_between
  net-fifos = refl

  pub net-weight : (f : ℕ) → R.weight f ≡ weight_on e x f
  unfolding net_rules rules_between rules_of weight_on
  net-weight f = refl

  -- every gate but a FIFO stands where it does with one clock; a FIFO stands where a register may, and nowhere with one clock

  pub net-stands : (cell code : ℕ) → (code ≡ fifo_code → ⊥) → may_stand R cell code ≡ may_stand (rules_for net.problem marks) cell code
  unfolding net_rules rules_for
  net-stands cell code f = stands_alike (plan_for net.problem marks) e x net.problem.source net.problem.sink cell code f

  module _ (ready : NetReady net marks) where
    pub net-fifo-stands : 1 ≤ x.fifos → (cell : ℕ) → may_stand R cell fifo_code ≡ may_stand (rules_for net.problem marks) cell register_code
    unfolding net_rules rules_for
    net-fifo-stands h cell =
        fifo-stands (plan_for net.problem marks) e x net.problem.source net.problem.sink ready.ready.valid.count h cell

    pub net-no-fifo : x.fifos ≡ 0 → (cell : ℕ) → T (may_stand R cell fifo_code) → ⊥
    unfolding net_rules
    net-no-fifo h cell =
        fifo-nowhere (plan_for net.problem marks) e x net.problem.source net.problem.sink ready.ready.valid.count h cell

    -- what closes a span is in range
    pub net-gate-in : (code : ℕ) → RegisterInRange (gate_for e x code)
    unfolding gate_for
    net-gate-in code = go (is_fifo x code)
      where
        go : (b : Bool) → RegisterInRange (cond b x.fifo e.register)
        go true = ready.clocks.fifo
        go false = ready.ready.valid.register
