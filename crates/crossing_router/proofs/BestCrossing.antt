-- Between two clocks: what the search found is the best route's latency and steps; what it did not find is no route.
use Prim.Native.Nat.{ℕ, ◌<◌}
use mathlib.Core.Path.{◌≡◌, refl}
use mathlib.Core.Logic.{◌↔◌}
use mathlib.Core.List.{List}
use native.Mathlib.Omega.{arith}
use lib.Dec.{T}
use Rattle.rules.specs.Rules.{Rules}
use Rattle.rules.specs.Legal.{Route, legal}
use Rattle.rules.specs.Ranking.{steps, IsBest}
use Rattle.rules.specs.Crossing.{crossing_latency}
use Rattle.budget.specs.Search.{FromSink}
use Rattle.budget.specs.Done.{Least}
use Rattle.budget.proofs.Best as figures
use Rattle.budget.proofs.Best.{Costs}
use Rattle.budget.proofs.Clocks.{between-from, crossing-cost}
use Rattle.best.specs.Best.{Outcome, found, none, best}
use Rattle.best.specs.Rows.{Bounded}
use Rattle.best.proofs.Best.{best-is, best_none}
use Rattle.problem.specs.declared.net.Net.{Net}
use Rattle.problem.specs.Problem.{plan_for}
use Rattle.problem.specs.Net.{net_rules, NetReady}
use Rattle.problem.proofs.Clocks.{net-sink, net-cells}
use Rattle.labels.proofs.Ready.{ready-lawful}

pub record BestIs (R : Rules) (cost : Route → ℕ) (w s : ℕ) : Type 0 where
  pub route : Route
  pub is_best : IsBest cost R route
  pub is_found : best R ≡ found route
  pub cost_is : cost route ≡ w
  pub steps_are : steps route ≡ s

module _ (net : Net) (marks : List ℕ) (ready : NetReady net marks) (two : net.clocks.fifos ≡ 1) where
  abbrev R : Rules
  R = net_rules net marks

  abbrev latency_of : Route → ℕ
  latency_of = crossing_latency net.clocks.period net.problem.elements.period

  pub cost : Costs R latency_of 0
  unfolding net_rules
  cost = crossing-cost (plan_for net.problem marks) net.problem.elements net.clocks net.problem.source net.problem.sink two

  bounded : Bounded R
  unfolding net_rules
  bounded = record { from_plan = between-from (plan_for net.problem marks) net.problem.elements net.clocks net.problem.source net.problem.sink }

  pub crossed-best : (r : Route) → (best R ≡ found r) ↔ IsBest latency_of R r
  crossed-best = best-is R (ready-lawful net marks ready) bounded latency_of 0 cost

  pub crossed-none : (best R ≡ none) ↔ ((r : Route) → T (legal R r) → ⊥)
  crossed-none = best_none R (ready-lawful net marks ready) bounded latency_of 0 cost

  pub sink-in : R.sink < R.cell_count
  sink-in = omega (arith, net-sink net marks, net-cells net marks ready, ready.ready.sink)

  pub best-is-none : ((a b : ℕ) → FromSink R a b → ⊥) → best R ≡ none
  best-is-none h = crossed-none.1 (figures.best_none R h)

  pub best-at : (w s : ℕ) → Least R 0 w s R.sink R.start.load R.start.delay → BestIs R latency_of w s
  best-at w s least = go (best R) refl
    where
      go : (o : Outcome) → best R ≡ o → BestIs R latency_of w s
      go none e = absurd (crossed-none.0 e _ (figures.least-legal R w s least sink-in))
      go (found r) e =
          let b = (crossed-best r).0 e in
          let f = figures.best-figures R w s least sink-in latency_of 0 cost r b in
          record { route = r; is_best = b; is_found = e; cost_is = omega (arith, f.0); steps_are = f.1 }
