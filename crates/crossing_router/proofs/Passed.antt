-- What passed checks say.
use Prim.Native.Nat.{ℕ}
use mathlib.Core.Path.{◌≡◌, refl}
use mathlib.Core.Logic.{◌↔◌}
use lib.Dec.{T}
use Rattle.rules.specs.Legal.{Route, legal}
use Rattle.rules.specs.Ranking.{IsBest}
use Rattle.best.specs.Best.{found, none, best}
use Rattle.answers.specs.Tables.{elements_of}
use Rattle.answers.specs.Crossing.{clocks_of}
use Rattle.problem.specs.Problem.{plan_for}
use Rattle.problem.specs.Net.{net_rules, NetReady}
use Rattle.question.specs.Checked.{problem_asked}
use Rattle.crossing_router.specs.Route.{CrossingQuestion, rules_crossed, latency_crossed, checks, passes}
use Rattle.crossing_router.proofs.BestCrossing.{crossed-best, crossed-none}
use Rattle.question.specs.Crossing.{net_asked}
use Rattle.crossing_router.proofs.Refusals.{net-ready}

module _ (c : CrossingQuestion) (scratch : ℕ) (pass : checks c scratch ≡ passes) where
  pub passed-ready : NetReady (net_asked c) c.question.marks
  unfolding checks
  passed-ready = net-ready c _ pass

  -- the executable best route of the question's rules is the best legal route, and there is none exactly where no route is legal

  pub asked-best : (r : Route) → (best (rules_crossed c) ≡ found r) ↔ IsBest (latency_crossed c) (rules_crossed c) r
  unfolding net_rules plan_for rules_crossed elements_of problem_asked clocks_of
  asked-best = crossed-best (net_asked c) c.question.marks passed-ready refl

  pub asked-none : (best (rules_crossed c) ≡ none) ↔ ((r : Route) → T (legal (rules_crossed c) r) → ⊥)
  unfolding net_rules plan_for rules_crossed elements_of problem_asked clocks_of
  asked-none = crossed-none (net_asked c) c.question.marks passed-ready refl
