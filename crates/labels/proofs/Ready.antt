-- The rules of a ready net.
use Rattle.std.proofs.Common.{ℕ, ◌+◌, ◌*◌, ◌-◌, ◌≤◌, ◌≡◌, List, arith, length}
use Rattle.plan.specs.Apart.{apart_by}
use Rattle.rules.specs.Crossing.{period_on}
use Rattle.budget.specs.Done.{Least, Lawful}
use Rattle.budget.specs.Cone.{Lipschitz}
use Rattle.budget.proofs.Clocks.{between-lawful, between-from, between-steps, between-weight, period-most}
use Rattle.budget.proofs.Short.{side-least-short}
use Rattle.budget.proofs.Cone.{apart-lipschitz}
use Rattle.problem.specs.declared.net.Net.{Net}
use Rattle.problem.proofs.Sizes.{few-cells}
use Rattle.problem.proofs.Clocks.{net-cells, net-fifos}
use Rattle.table.specs.Problem.{plan_for, net_rules, NetReady}

-- rows and columns from any cell are a distance
pub rules-apart : (net : Net) (marks : List ℕ) (start : ℕ) → Lipschitz (net_rules net marks) (apart_by net.problem.width start)
unfolding net_rules plan_for
rules-apart net marks start =
    apart-lipschitz (plan_for net.problem marks) net.problem.elements net.clocks net.problem.source net.problem.sink start

module _ (net : Net) (marks : List ℕ) (ready : NetReady net marks) where
  pub ready-lawful : Lawful (net_rules net marks)
  unfolding net_rules
  ready-lawful =
      between-lawful (plan_for net.problem marks) net.problem.elements net.clocks net.problem.source net.problem.sink ready.ready.valid ready.clocks

  pub ready-cells : (net_rules net marks).cell_count ≡ length marks
  ready-cells = net-cells net marks ready

  -- what a closing delay stays below has 16 bits
  pub ready-top : (f : ℕ) → 2 * period_on net.problem.elements net.clocks f + 1 ≤ 60001
  ready-top f =
      omega (arith, period-most (plan_for net.problem marks) net.problem.elements net.clocks net.problem.source net.problem.sink ready.ready.valid ready.clocks f)

  -- the least figures of a state on any side: at most 2 · 1,024 · 64 · 1,025 steps, and 1,025 spans of at most 30,000 on each of two sides
  pub ready-short : (f : ℕ) → f ≤ (net_rules net marks).fifos → (k : ℕ) {s c l d : ℕ} → Least (net_rules net marks) f ((net_rules net marks).weight f + k) s c l d → (s ≤ 134348800) × ((net_rules net marks).weight f + k ≤ 61500000)
  unfolding net_rules
  ready-short f side k {s} {c} {l} {d} least =
      let few : (net_rules net marks).cell_count ≤ 1024 = omega (arith, ready-cells, few-cells net.problem marks ready.ready) in
      let more : ℕ = (net_rules net marks).fifos - f in
      let one : more ≤ 1 = omega (arith, net-fifos net marks, ready.clocks.few) in
      let m = side-least-short (net_rules net marks) ready-lawful (between-from (plan_for net.problem marks) net.problem.elements net.clocks net.problem.source net.problem.sink) f more (omega arith) k s c l d least in (
        omega (arith, between-steps (plan_for net.problem marks) net.problem.elements net.clocks net.problem.source net.problem.sink ready.ready.valid ready.clocks few more one),
        omega (arith, between-weight (plan_for net.problem marks) net.problem.elements net.clocks net.problem.source net.problem.sink ready.ready.valid ready.clocks few f more one),
      )
