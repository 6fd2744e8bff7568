-- Demand 2 of document 01, read off the route call's contract (specs/Route.antt).
-- Where checks 1 to 6 pass: the answer is Found or 8 exactly with the best route's figures, and the route is legal with no legal route ranked before it; it is 7 exactly if no legal route exists. After Found the visits start with that route. The spare figure is the smallest of the route's spans: none has less, and one has it.
use Prim.Native.Nat.{ℕ, ◌+◌, ◌*◌, ◌≤◌, ◌<◌}
use mathlib.Core.Path.{◌≡◌, refl}
use mathlib.Core.Bool.{not, cond}
use mathlib.Core.List.{List, ◌++◌}
use mathlib.Core.Logic.{◌⊎◌, inl, inr}
use lib.Dec.{T, leb}
use lib.ListN.{length, drop}
use Rattle.rules.specs.Legal.{Route, legal}
use Rattle.rules.specs.Ranking.{registers, steps, written, IsBest}
use Rattle.rules.specs.Slack.{slacks, Smallest}
use Rattle.plan.proofs.Truth.{decided}
use Rattle.answers.specs.Numbers.{Answer}
use Rattle.answers.specs.declared.refusal.Refusal.{Refusal}
use Rattle.best.specs.Best.{Outcome, found, none, best}
use Rattle.question.proofs.Slack.{asked-smallest}
use Rattle.router.specs.Route.{Question, rules_asked, checks, passes, figures_of, answer_for, answer_after, answer_under, answer_of, visits_for, visits_after, visits_under, visits_of}
use Rattle.router.proofs.Passed.{asked-best, asked-none}
use Rattle.answers.specs.declared.answer.RouteAnswer.{RouteAnswer}

-- what demand 2 asks of an answer and of the visits afterwards
pub data Demand2 (q : Question) (visits after : List ℕ) : Answer → Type 0 where
  -- the best legal route, with its figures counted off it, written into the visits
  is_found : (r : Route) → IsBest registers (rules_asked q) r → Smallest (figures_of (rules_asked q) q.tables.period r).slack (slacks (rules_asked q) r) → 2 * (steps r + 1) ≤ length visits → after ≡ written r ++ drop (length (written r)) visits → Demand2 q visits after (RouteAnswer.Found (figures_of (rules_asked q) q.tables.period r))
  -- 8: its figures are the best route's, and the visits stay
  no_room : (r : Route) → IsBest registers (rules_asked q) r → Smallest (figures_of (rules_asked q) q.tables.period r).slack (slacks (rules_asked q) r) → length visits < 2 * (steps r + 1) → after ≡ visits → Demand2 q visits after (RouteAnswer.NoRoom (figures_of (rules_asked q) q.tables.period r))
  -- 7: no legal route exists, and the visits stay
  no_route : ((r : Route) → T (legal (rules_asked q) r) → ⊥) → after ≡ visits → Demand2 q visits after (RouteAnswer.Refused Refusal.NoRoute)

module _ (q : Question) (scratch visits : List ℕ) (pass : checks q (length scratch) ≡ passes) where
  is_best : (r : Route) → best (rules_asked q) ≡ found r → IsBest registers (rules_asked q) r
  is_best r e = (asked-best q (length scratch) pass r).0 e

  smallest : (r : Route) → best (rules_asked q) ≡ found r → Smallest (figures_of (rules_asked q) q.tables.period r).slack (slacks (rules_asked q) r)
  unfolding figures_of checks
  smallest r e = asked-smallest q _ pass r (is_best r e).is_legal

  -- the outcome decides the answer and the visits
  by-outcome : (o : Outcome) → best (rules_asked q) ≡ o → Demand2 q visits (visits_for o visits) (answer_for (rules_asked q) q.tables.period (length visits) o)
  unfolding answer_for visits_for
  by-outcome none e = Demand2.no_route ((asked-none q (length scratch) pass).0 e) refl
  by-outcome (found r) e = go (decided (leb (2 * (steps r + 1)) (length visits)))
    where
      go : T (leb (2 * (steps r + 1)) (length visits)) ⊎ T (not (leb (2 * (steps r + 1)) (length visits))) → Demand2 q visits (cond (leb (2 * (steps r + 1)) (length visits)) (written r ++ drop (length (written r)) visits) visits) (cond (leb (2 * (steps r + 1)) (length visits)) (RouteAnswer.Found (figures_of (rules_asked q) q.tables.period r)) (RouteAnswer.NoRoom (figures_of (rules_asked q) q.tables.period r)))
      go (inl h) = rw (Rattle.plan.proofs.Truth.is_true (leb (2 * (steps r + 1)) (length visits)) h) (Demand2.is_found r (is_best r e) (smallest r e) (lib.Dec.leb→le _ _ h) refl)
      go (inr h) = rw (Rattle.plan.proofs.Truth.is_false (leb (2 * (steps r + 1)) (length visits)) h) (Demand2.no_room r (is_best r e) (smallest r e) (lib.Dec.nleb→lt _ _ h) refl)

  -- Demand 2, for every question that the checks pass.
  pub demand-2 : Demand2 q visits (visits_of q scratch visits) (answer_of q scratch visits)
  unfolding answer_of answer_under answer_after visits_of visits_under visits_after
  demand-2 = rw pass (by-outcome (best (rules_asked q)) refl)

  -- 7 if no legal route exists
  pub demand-2-none : ((r : Route) → T (legal (rules_asked q) r) → ⊥) → answer_of q scratch visits ≡ RouteAnswer.Refused Refusal.NoRoute
  unfolding answer_of answer_under answer_after answer_for
  demand-2-none f = rw (pass, answer_after, (asked-none q (length scratch) pass).1 f)
