-- The route call for a net between two clocks (document 02, C-15) as a session's question: what it is lent and told, its reply, what the call gives, what the rules give.
use Rattle.std.specs.Prelude.{ℕ, ◌+◌, ◌*◌, ◌≤◌, ◌<◌, cond, List, [], ◌≡◌, T, leb, length, take}
use Rattle.rules.specs.Legal.{Route, legal}
use Rattle.rules.specs.Ranking.{steps, written, IsBest}
use Rattle.best.specs.Best.{Outcome, found, none, best}
use Rattle.answers.specs.Numbers.{crossed_words}
use Rattle.answers.specs.declared.records.Crossing.{Crossing}
use Rattle.answers.specs.declared.refusal.Refusal.{Refusal}
use Rattle.answers.specs.Numbers.{CrossingAnswer}
use Rattle.crossing_router.specs.Route.{crossing_words, CrossingQuestion, rules_crossed, Check, passes, fails, checks, figures_crossed, latency_crossed, crossing_answer_of, crossing_scratch_of, crossing_visits_of}
use Rattle.session_model.specs.Asks.Asking.{Asking, asked, zeroed_words, zeros}
use Rattle.answers.specs.declared.answer.RouteAnswer.{RouteAnswer}

-- the call is told the source's clock and the FIFO, and lent scratch words and visits, too
pub record CrossingAsk : Type 0 where
  pub asking : Asking
  pub crossing : Crossing
  pub scratch : List ℕ
  pub visits : List ℕ

-- the question on a plan's bytes
unfoldable pub asked_crossing : CrossingAsk → List ℕ → CrossingQuestion
asked_crossing a marks = record { question = asked a.asking marks; crossing = a.crossing }

-- all that it hands back, and the words it fills, as in the route call's reply
pub record CrossingReply : Type 0 where
  pub answer : CrossingAnswer
  pub filled : List ℕ
  pub zeroed : List ℕ

-- the same question put to two sessions: what is lent has equal lengths and may differ in contents
pub record AlikeCrossings (a b : CrossingAsk) : Type 0 where
  pub asking : a.asking ≡ b.asking
  pub crossing : a.crossing ≡ b.crossing
  pub scratch : length a.scratch ≡ length b.scratch
  pub visits : length a.visits ≡ length b.visits

-- the best legal route: by its latency with both periods, then steps and written order
abbrev pub BestCrossed : CrossingQuestion → Route → Type 0
BestCrossed c r = IsBest (latency_crossed c) (rules_crossed c) r

-- What the call gives: its contract (crossing_router/specs/Route.antt).

unfoldable pub crossing_gives : CrossingQuestion → List ℕ → List ℕ → CrossingReply
crossing_gives c scratch visits =
    record {
      answer = crossing_answer_of c scratch visits;
      filled = take (crossed_words (crossing_answer_of c scratch visits)) (crossing_visits_of c scratch visits);
      zeroed = take (zeroed_words crossing_words (checks c (length scratch)) c.question) (crossing_scratch_of c scratch);
    }

-- What the model gives: from the lengths of what is lent alone, by the executable definition of the best route. `scratch` and `room`: the words lent for scratch and visits.

unfoldable pub best_reply : CrossingQuestion → ℕ → Outcome → CrossingReply
best_reply c room (found r) =
    cond (leb (2 * (steps r + 1)) room)
    (record { answer = RouteAnswer.Found (figures_crossed c r); filled = written r; zeroed = zeros crossing_words c.question })
    (record { answer = RouteAnswer.NoRoom (figures_crossed c r); filled = []; zeroed = zeros crossing_words c.question })
best_reply c room none =
    record { answer = RouteAnswer.Refused Refusal.NoRoute; filled = []; zeroed = zeros crossing_words c.question }

unfoldable pub checked_reply : Check → CrossingQuestion → ℕ → CrossingReply
checked_reply passes c room = best_reply c room (best (rules_crossed c))
checked_reply (fails r) c room = record { answer = RouteAnswer.Refused r; filled = []; zeroed = [] }

unfoldable pub crossing_reply : CrossingQuestion → ℕ → ℕ → CrossingReply
crossing_reply c scratch room = checked_reply (checks c scratch) c room

-- The reply that document 02's rules give, with no search: the refusal, or by the best legal route, or that none exists.
pub data CrossingAnswered (c : CrossingQuestion) (scratch room : ℕ) : CrossingReply → Type 0 where
  -- 1 to 6, the first in its order: nothing is filled, nothing zeroed
  is_refused : (r : Refusal) → checks c scratch ≡ fails r → CrossingAnswered c scratch room (record { answer = RouteAnswer.Refused r; filled = []; zeroed = [] })
  -- 7: no legal route exists; the scratch words are zeroed, 512 a cell
  no_route : checks c scratch ≡ passes → ((r : Route) → T (legal (rules_crossed c) r) → ⊥) → CrossingAnswered c scratch room (record { answer = RouteAnswer.Refused Refusal.NoRoute; filled = []; zeroed = zeros crossing_words c.question })
  -- 8: the best legal route's figures, counted off it; its visits need more words than lent, and none is filled
  no_room : (r : Route) → checks c scratch ≡ passes → BestCrossed c r → room < 2 * (steps r + 1) → CrossingAnswered c scratch room (record { answer = RouteAnswer.NoRoom (figures_crossed c r); filled = []; zeroed = zeros crossing_words c.question })
  -- 0: the best legal route, its figures counted off it and its visits filled in
  is_found : (r : Route) → checks c scratch ≡ passes → BestCrossed c r → 2 * (steps r + 1) ≤ room → CrossingAnswered c scratch room (record { answer = RouteAnswer.Found (figures_crossed c r); filled = written r; zeroed = zeros crossing_words c.question })
