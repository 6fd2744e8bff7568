-- The route call as a session's question: what it is lent and told, its reply, what the call gives, what the rules give.
use Rattle.std.specs.Prelude.{ℕ, ◌+◌, ◌*◌, ◌≤◌, ◌<◌, cond, List, [], ◌≡◌, T, leb, length, take}
use Rattle.rules.specs.Legal.{Route, legal}
use Rattle.rules.specs.Ranking.{registers, steps, written, IsBest}
use Rattle.best.specs.Best.{Outcome, found, none, best}
use Rattle.answers.specs.Numbers.{filled_words}
use Rattle.answers.specs.Numbers.{Answer}
use Rattle.answers.specs.declared.refusal.Refusal.{Refusal}
use Rattle.router.specs.Route.{cell_words, Question, rules_asked, Check, passes, fails, checks, figures_of, answer_of, scratch_of, visits_of}
use Rattle.session_model.specs.Asks.Asking.{Asking, zeroed_words, zeros}
use Rattle.answers.specs.declared.answer.RouteAnswer.{RouteAnswer}

-- the call is lent scratch words and visits, too
pub record RouteAsk : Type 0 where
  pub asking : Asking
  pub scratch : List ℕ
  pub visits : List ℕ

-- all that it hands back, and the words it fills: visits written, scratch words zeroed; not the words left alone
pub record RouteReply : Type 0 where
  pub answer : Answer
  pub filled : List ℕ
  pub zeroed : List ℕ

-- the same question put to two sessions: what is lent has equal lengths and may differ in contents
pub record AlikeRoutes (a b : RouteAsk) : Type 0 where
  pub asking : a.asking ≡ b.asking
  pub scratch : length a.scratch ≡ length b.scratch
  pub visits : length a.visits ≡ length b.visits

-- What the call gives: its contract (router/specs/Route.antt).

unfoldable pub route_gives : Question → List ℕ → List ℕ → RouteReply
route_gives q scratch visits =
    record {
      answer = answer_of q scratch visits;
      filled = take (filled_words (answer_of q scratch visits)) (visits_of q scratch visits);
      zeroed = take (zeroed_words cell_words (checks q (length scratch)) q) (scratch_of q scratch);
    }

-- What the model gives: from the lengths of what is lent alone, by the executable definition of the best route. `scratch` and `room`: the words lent for scratch and visits.

unfoldable pub best_reply : Question → ℕ → Outcome → RouteReply
best_reply q room (found r) =
    cond (leb (2 * (steps r + 1)) room)
    (record { answer = RouteAnswer.Found (figures_of (rules_asked q) q.tables.period r); filled = written r; zeroed = zeros cell_words q })
    (record { answer = RouteAnswer.NoRoom (figures_of (rules_asked q) q.tables.period r); filled = []; zeroed = zeros cell_words q })
best_reply q room none = record { answer = RouteAnswer.Refused Refusal.NoRoute; filled = []; zeroed = zeros cell_words q }

unfoldable pub checked_reply : Check → Question → ℕ → RouteReply
checked_reply passes q room = best_reply q room (best (rules_asked q))
checked_reply (fails r) q room = record { answer = RouteAnswer.Refused r; filled = []; zeroed = [] }

unfoldable pub route_reply : Question → ℕ → ℕ → RouteReply
route_reply q scratch room = checked_reply (checks q scratch) q room

-- The reply that document 01's rules give, with no search: the refusal, or by the best legal route, or that none exists.
pub data RouteAnswered (q : Question) (scratch room : ℕ) : RouteReply → Type 0 where
  -- 1 to 6, the first in its order: nothing is filled, nothing zeroed
  is_refused : (r : Refusal) → checks q scratch ≡ fails r → RouteAnswered q scratch room (record { answer = RouteAnswer.Refused r; filled = []; zeroed = [] })
  -- 7: no legal route exists; the scratch words are zeroed
  no_route : checks q scratch ≡ passes → ((r : Route) → T (legal (rules_asked q) r) → ⊥) → RouteAnswered q scratch room (record { answer = RouteAnswer.Refused Refusal.NoRoute; filled = []; zeroed = zeros cell_words q })
  -- 8: the best legal route's figures, counted off it, its smallest spare figure among them; its visits need more words than lent, and none is filled
  no_room : (r : Route) → checks q scratch ≡ passes → IsBest registers (rules_asked q) r → room < 2 * (steps r + 1) → RouteAnswered q scratch room (record { answer = RouteAnswer.NoRoom (figures_of (rules_asked q) q.tables.period r); filled = []; zeroed = zeros cell_words q })
  -- 0: the best legal route, its figures counted off it and its visits filled in
  is_found : (r : Route) → checks q scratch ≡ passes → IsBest registers (rules_asked q) r → 2 * (steps r + 1) ≤ room → RouteAnswered q scratch room (record { answer = RouteAnswer.Found (figures_of (rules_asked q) q.tables.period r); filled = written r; zeroed = zeros cell_words q })
