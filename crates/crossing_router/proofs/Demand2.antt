-- Demand 2 between two clocks (document 02, C-15), read off the call's contract (specs/Route.antt).
-- Where checks 1 to 6 pass: the answer is Found or 8 exactly with the best route's figures, and the route is legal, with one FIFO, and no legal route ranks before it: by latency, then steps, then written order, over all splits. It is 7 exactly if no legal route exists. After Found the visits start with that route. The spare figure is the smallest of the route's spans', each by its own period.
use Prim.Native.Nat.{ℕ, ◌+◌, ◌*◌, ◌≤◌, ◌<◌}
use mathlib.Core.Path.{◌≡◌, refl}
use mathlib.Core.Bool.{not, cond}
use mathlib.Core.List.{List, ◌++◌}
use mathlib.Core.Logic.{◌⊎◌, inl, inr}
use native.Mathlib.Omega.{arith}
use lib.Dec.{T, leb}
use lib.ListN.{length, drop}
use Rattle.plan.proofs.Truth.{decided, is_true, is_false}
use Rattle.rules.specs.Legal.{Route, legal}
use Rattle.rules.specs.Ranking.{steps, written, IsBest}
use Rattle.rules.specs.Slack.{slacks, Smallest}
use Rattle.rules.proofs.Slack.{legal-smallest}
use Rattle.budget.proofs.Clocks.{period-most}
use Rattle.best.specs.Best.{Outcome, found, none, best}
use Rattle.answers.specs.Tables.{elements_of}
use Rattle.answers.specs.Crossing.{clocks_of}
use Rattle.answers.specs.declared.refusal.Refusal.{Refusal}
use Rattle.answers.specs.Numbers.{CrossingAnswer}
use Rattle.problem.specs.Problem.{plan_for}
use Rattle.problem.specs.Net.{net_rules}
use Rattle.problem.proofs.Clocks.{net-bound}
use Rattle.question.specs.Checked.{problem_asked}
use Rattle.crossing_router.specs.Route.{CrossingQuestion, rules_crossed, checks, passes, figures_of, figures_crossed, latency_crossed, answer_for, answer_after, crossing_answer_of, visits_for, visits_after, crossing_visits_of}
use Rattle.question.specs.Crossing.{net_asked}
use Rattle.crossing_router.proofs.Passed.{passed-ready, asked-best, asked-none}
use Rattle.answers.specs.declared.answer.RouteAnswer.{RouteAnswer}

-- what demand 2 asks of an answer and of the visits afterwards
pub data Demand2Crossing (c : CrossingQuestion) (visits after : List ℕ) : CrossingAnswer → Type 0 where
  -- the best legal route, with its figures counted off it, written into the visits
  is_found : (r : Route) → IsBest (latency_crossed c) (rules_crossed c) r → Smallest (figures_crossed c r).slack (slacks (rules_crossed c) r) → 2 * (steps r + 1) ≤ length visits → after ≡ written r ++ drop (length (written r)) visits → Demand2Crossing c visits after (RouteAnswer.Found (figures_crossed c r))
  -- 8: its figures are the best route's, and the visits stay
  no_room : (r : Route) → IsBest (latency_crossed c) (rules_crossed c) r → Smallest (figures_crossed c r).slack (slacks (rules_crossed c) r) → length visits < 2 * (steps r + 1) → after ≡ visits → Demand2Crossing c visits after (RouteAnswer.NoRoom (figures_crossed c r))
  -- 7: no legal route exists, and the visits stay
  no_route : ((r : Route) → T (legal (rules_crossed c) r) → ⊥) → after ≡ visits → Demand2Crossing c visits after (RouteAnswer.Refused Refusal.NoRoute)

module _ (c : CrossingQuestion) (scratch visits : List ℕ) (pass : checks c (length scratch) ≡ passes) where
  low : (k f : ℕ) → (rules_crossed c).bound k f ≤ 60001
  unfolding net_rules plan_for rules_crossed elements_of problem_asked clocks_of
  low k f =
      let ready = passed-ready c (length scratch) pass in
      let net = net_asked c in
      omega (arith, net-bound net c.question.marks k f, period-most (plan_for net.problem c.question.marks) net.problem.elements net.clocks net.problem.source net.problem.sink ready.ready.valid ready.clocks f)

  smallest : (r : Route) → best (rules_crossed c) ≡ found r → Smallest (figures_crossed c r).slack (slacks (rules_crossed c) r)
  unfolding figures_of
  smallest r e = legal-smallest (rules_crossed c) low r ((asked-best c (length scratch) pass r).0 e).is_legal

  -- the outcome decides the answer and the visits
  by-outcome : (o : Outcome) → best (rules_crossed c) ≡ o → Demand2Crossing c visits (visits_for o visits) (answer_for (rules_crossed c) c.crossing.period c.question.tables.period (length visits) o)
  unfolding answer_for visits_for
  by-outcome none e = Demand2Crossing.no_route ((asked-none c (length scratch) pass).0 e) refl
  by-outcome (found r) e = go (decided (leb (2 * (steps r + 1)) (length visits)))
    where
      go : T (leb (2 * (steps r + 1)) (length visits)) ⊎ T (not (leb (2 * (steps r + 1)) (length visits))) → Demand2Crossing c visits (cond (leb (2 * (steps r + 1)) (length visits)) (written r ++ drop (length (written r)) visits) visits) (cond (leb (2 * (steps r + 1)) (length visits)) (RouteAnswer.Found (figures_crossed c r)) (RouteAnswer.NoRoom (figures_crossed c r)))
      go (inl h) = rw (is_true (leb (2 * (steps r + 1)) (length visits)) h) (Demand2Crossing.is_found r ((asked-best c (length scratch) pass r).0 e) (smallest r e) (lib.Dec.leb→le _ _ h) refl)
      go (inr h) = rw (is_false (leb (2 * (steps r + 1)) (length visits)) h) (Demand2Crossing.no_room r ((asked-best c (length scratch) pass r).0 e) (smallest r e) (lib.Dec.nleb→lt _ _ h) refl)

  -- Demand 2, for every net between two clocks that the checks pass.
  pub demand-2-crossing : Demand2Crossing c visits (crossing_visits_of c scratch visits) (crossing_answer_of c scratch visits)
  unfolding crossing_answer_of answer_after crossing_visits_of visits_after
  demand-2-crossing = rw pass (by-outcome (best (rules_crossed c)) refl)

  -- 7 if no legal route exists
  pub demand-2-crossing-none : ((r : Route) → T (legal (rules_crossed c) r) → ⊥) → crossing_answer_of c scratch visits ≡ RouteAnswer.Refused Refusal.NoRoute
  unfolding crossing_answer_of answer_after answer_for
  demand-2-crossing-none f = rw (pass, answer_after, (asked-none c (length scratch) pass).1 f)
