-- A net as the rules see it: a routing problem with its clocks.
use Rattle.std.specs.Prelude.{ℕ, cond, List, leb}
use Rattle.timing.specs.declared.elements.Register.{Register}
use Rattle.timing.specs.declared.elements.Elements.{Elements}
use Rattle.timing.specs.declared.clocks.Clocks.{Clocks}
use Rattle.timing.specs.Clocks.{one_clock, ValidClocks}
use Rattle.rules.specs.Rules.{Rules, fifo_code}
use Rattle.rules.specs.Crossing.{gate_for, period_on, rules_between}
use Rattle.problem.specs.declared.Problem.{Problem}
use Rattle.problem.specs.declared.net.Net.{Net}
use Rattle.problem.specs.Problem.{plan_for, Ready}

unfoldable pub one_net : Problem → Net
one_net p = record { problem = p; clocks = one_clock p.elements.period }

-- what a span on this side counts in the ranking
unfoldable pub weight_on : Elements → Clocks → ℕ → ℕ
weight_on e x side = cond (leb 1 x.fifos) (period_on e x side) 1

unfoldable pub net_rules : Net → List ℕ → Rules
net_rules net marks =
    rules_between (plan_for net.problem marks) net.problem.elements net.clocks net.problem.source net.problem.sink

-- what stands at a visit with code 8: the FIFO; with one clock there is none, and the register stands for it
unfoldable pub fifo_of : Net → Register
fifo_of net = gate_for net.problem.elements net.clocks fifo_code

-- the checks have passed
pub record NetReady (net : Net) (marks : List ℕ) : Type 0 where
  pub ready : Ready net.problem marks
  pub clocks : ValidClocks net.clocks
