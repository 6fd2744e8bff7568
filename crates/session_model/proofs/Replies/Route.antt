-- The route question: what the call hands back and fills is the reply that document 01's rules give, and they give one, the model's, from the lengths of what is lent alone.
use Prim.Native.Nat.{ℕ, ◌+◌, ◌*◌}
use mathlib.Core.List.{List}
use mathlib.Core.Path.{◌≡◌, refl}
use native.Mathlib.Omega.{arith}
use borrow.Author.Tests.{le-leb, lt-leb}
use lib.Dec.{T}
use lib.ListN.{length, take}
use lib.Seq.{take_at}
use Rattle.rules.specs.Rules.{Rules}
use Rattle.rules.specs.Legal.{Route, legal}
use Rattle.rules.specs.Ranking.{steps, written}
use Rattle.answers.specs.Numbers.{filled_words}
use Rattle.answers.specs.Numbers.{Answer}
use Rattle.answers.specs.declared.refusal.Refusal.{Refusal}
use Rattle.emission.proofs.Visits.{written-length}
use Rattle.verdict.proofs.Accepted.{legal-visits}
use Rattle.router.specs.Route.{cell_words, Question, rules_asked, Check, passes, fails, checks, figures_of, answer_after, answer_under, answer_of, visits_after, visits_under, visits_of, scratch_after, scratch_of}
use Rattle.router.proofs.Passed.{asked-best, asked-none}
use Rattle.router.proofs.Demand2.{Demand2, demand-2}
use Rattle.session_model.specs.Asks.Asking.{asked, zeroed_words, zeros}
use Rattle.session_model.specs.Asks.Route.{RouteAsk, RouteReply, AlikeRoutes, route_gives, best_reply, checked_reply, route_reply, RouteAnswered, is_refused, no_route, no_room, is_found}
use Rattle.session_model.proofs.Replies.Asking.{zeros-taken}

-- a legal route has visits, so that its words are two for each step and two more
pub written-words : (R : Rules) (r : Route) → T (legal R r) → length (written r) ≡ 2 * (steps r + 1)
unfolding steps
written-words R r h = omega (arith, written-length r, legal-visits R r h)

-- The rules give one reply, and it is the model's.
module _ (q : Question) (scratch room : ℕ) where
  pub route-only : {a : RouteReply} → RouteAnswered q scratch room a → a ≡ route_reply q scratch room
  unfolding route_reply checked_reply best_reply
  route-only (is_refused r e) = rw e
  route-only (no_route pass n) = rw (pass, (asked-none q scratch pass).1 n)
  route-only (no_room r pass b short) = rw (pass, (asked-best q scratch pass r).1 b, lt-leb _ _ short)
  route-only (is_found r pass b fits) = rw (pass, (asked-best q scratch pass r).1 b, le-leb _ _ fits)

-- What the call hands back and fills is that reply: its answer and visits are demand 2's.
module _ (q : Question) (scratch visits : List ℕ) where
  refused-answered : (r : Refusal) → checks q (length scratch) ≡ fails r → RouteAnswered q (length scratch) (length visits) (route_gives q scratch visits)
  unfolding route_gives answer_of answer_under answer_after visits_of visits_under visits_after scratch_of scratch_after zeroed_words
  refused-answered r e = rw e (is_refused r e)

  module _ (pass : checks q (length scratch) ≡ passes) where
    by-demand : {after : List ℕ} {a : Answer} → Demand2 q visits after a → RouteAnswered q (length scratch) (length visits) (record { answer = a; filled = take (filled_words a) after; zeroed = zeros cell_words q })
    unfolding figures_of
    by-demand (Demand2.is_found r b z fits e) =
        rw (e, take_at (written r) _ _ (written-words (rules_asked q) r b.is_legal)) (is_found r pass b fits)
    by-demand (Demand2.no_room r b z short e) = no_room r pass b short
    by-demand (Demand2.no_route n e) = no_route pass n

    passed-answered : RouteAnswered q (length scratch) (length visits) (route_gives q scratch visits)
    unfolding route_gives scratch_of scratch_after
    passed-answered = rw (pass, zeros-taken cell_words q scratch) (by-demand (demand-2 q scratch visits pass))

  pub route-answered : RouteAnswered q (length scratch) (length visits) (route_gives q scratch visits)
  route-answered = go (checks q (length scratch)) refl
    where
      go : (k : Check) → checks q (length scratch) ≡ k → RouteAnswered q (length scratch) (length visits) (route_gives q scratch visits)
      go passes e = passed-answered e
      go (fails r) e = refused-answered r e

-- contents of what is lent do not matter
pub alike-routes : {a b : RouteAsk} → AlikeRoutes a b → (marks : List ℕ) → route_reply (asked a.asking marks) (length a.scratch) (length a.visits) ≡ route_reply (asked b.asking marks) (length b.scratch) (length b.visits)
alike-routes e marks = rw (e.asking, e.scratch, e.visits)
