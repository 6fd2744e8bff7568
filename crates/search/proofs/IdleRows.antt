-- Rows of costs, compared from a wire's load on, say which gates close no quicker.
use Prim.Native.Nat.{ℕ, ◌+◌, ◌≤◌, ◌<◌}
use mathlib.Core.Path.{◌≡◌}
use mathlib.Core.Bool.{Bool, true, false, cond}
use mathlib.Core.List.{List}
use native.Mathlib.Omega.{arith}
use borrow.Author.Tests.{le-leb}
use lib.ListN.{get_or}
use Rattle.timing.specs.declared.elements.Driver.{Driver}
use Rattle.timing.specs.Formulas.{wire_load, gate_delay, register_driver}
use Rattle.timing.specs.Valid.{Valid}
use Rattle.timing.proofs.Skew.{skew-paid}
use Rattle.plan.specs.Joined.{horizontal}
use Rattle.plan.proofs.Truth.{is_true}
use Rattle.rules.specs.Rules.{register_code, fifo_code, rules_of, wire_between}
use Rattle.rules.specs.Crossing.{gate_for, rules_between}
use Rattle.rules.proofs.Clocks.{gate-register}
use Rattle.costs.specs.Costs.{row_words, register_at, fifo_at, gate_cost, RowAt, CostsOf}
use Rattle.budget.specs.Table.{load_at, close_cost}
use Rattle.problem.specs.declared.net.Net.{Net}
use Rattle.problem.specs.Net.{fifo_of}
use Rattle.problem.proofs.Clocks.{net-limit, net-closer}
use Rattle.problem.specs.Problem.{plan_for}
use Rattle.table.specs.Problem.{net_rules}
use Rattle.labels.specs.declared.both.Idle.{Idle}
use Rattle.labels.specs.Idle.{NoQuicker, IdleRight}
use Rattle.search.specs.Idle.{IdleFrom}

gate-cost : (g : Driver) (limit l : ℕ) → l ≤ limit → gate_cost g limit l ≡ gate_delay g l
unfolding gate_cost
gate-cost g limit l h = rw (le-leb l limit h)

module _ (net : Net) (valid : Valid net.problem.elements) (marks : List ℕ) where
  wire-least : (from : ℕ) → from ≤ wire_load net.problem.elements.horizontal → from ≤ wire_load net.problem.elements.vertical → (a b : ℕ) → from ≤ wire_load ((net_rules net marks).wire a b)
  unfolding net_rules rules_between rules_of wire_between
  wire-least from h v a b = go (horizontal (plan_for net.problem marks) a b)
    where
      go : (across : Bool) → from ≤ wire_load (cond across net.problem.elements.horizontal net.problem.elements.vertical)
      go true = h
      go false = v

  -- the rows say what closing costs, but for the skew
  no-quicker : (costs : List ℕ) (a b at bt from : ℕ) → RowAt (gate_cost (register_driver (gate_for net.problem.elements net.clocks a)) net.problem.elements.limit.0) at costs → RowAt (gate_cost (register_driver (gate_for net.problem.elements net.clocks b)) net.problem.elements.limit.0) bt costs → from ≤ wire_load net.problem.elements.horizontal → from ≤ wire_load net.problem.elements.vertical → ((l : ℕ) → from ≤ l → l < row_words → get_or costs (bt + l) 0 ≤ get_or costs (at + l) 0) → NoQuicker (net_rules net marks) a b
  unfolding close_cost load_at
  no-quicker costs a b at bt from rowA rowB h v less n c l linked fits =
      let R = net_rules net marks in
      let x : ℕ = l + wire_load (R.wire c n) in
      let most : x ≤ net.problem.elements.limit.0 = omega (arith, fits, net-limit net marks) in
      let short : x < row_words = omega (arith, valid.limit) in
      rw (net-closer net marks n a, net-closer net marks n b)
      (omega (
        arith,
        less x (omega (arith, wire-least from h v c n)) short,
        rowA x short,
        rowB x short,
        skew-paid net.problem.elements.skew (register_driver (gate_for net.problem.elements net.clocks a)) x,
        skew-paid net.problem.elements.skew (register_driver (gate_for net.problem.elements net.clocks b)) x,
        gate-cost (register_driver (gate_for net.problem.elements net.clocks a)) net.problem.elements.limit.0 x most,
        gate-cost (register_driver (gate_for net.problem.elements net.clocks b)) net.problem.elements.limit.0 x most,
      ))

  pub idle-right : (costs : List ℕ) → CostsOf net.problem.elements (fifo_of net) costs → (from : ℕ) → from ≤ wire_load net.problem.elements.horizontal → from ≤ wire_load net.problem.elements.vertical → (r : Idle) → IdleFrom costs from r → IdleRight (net_rules net marks) r
  unfolding fifo_of
  idle-right costs costed from h v r f =
      let register : RowAt (gate_cost (register_driver (gate_for net.problem.elements net.clocks register_code)) net.problem.elements.limit.0) register_at costs = rw (gate-register net.problem.elements net.clocks) costed.register in
      record {
        registers = λ t. no-quicker costs register_code fifo_code register_at fifo_at from register costed.fifo h v (f.registers.yes (is_true r.registers t));
        fifos = λ t. no-quicker costs fifo_code register_code fifo_at register_at from costed.fifo register h v (f.fifos.yes (is_true r.fifos t));
      }
