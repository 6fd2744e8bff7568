-- The route question between two clocks: what the call hands back and fills is the reply that document 02's rules give, and they give one, the model's, from the lengths of what is lent alone.
use Prim.Native.Nat.{ℕ}
use mathlib.Core.List.{List}
use mathlib.Core.Path.{◌≡◌, refl}
use borrow.Author.Tests.{le-leb, lt-leb}
use lib.ListN.{length, take}
use lib.Seq.{take_at}
use Rattle.rules.specs.Ranking.{written}
use Rattle.answers.specs.Numbers.{crossed_words}
use Rattle.answers.specs.declared.refusal.Refusal.{Refusal}
use Rattle.answers.specs.Numbers.{CrossingAnswer}
use Rattle.crossing_router.specs.Route.{crossing_words, CrossingQuestion, rules_crossed, Check, passes, fails, checks, figures_of, answer_after, crossing_answer_of, visits_after, crossing_visits_of, scratch_after, crossing_scratch_of}
use Rattle.crossing_router.proofs.Passed.{asked-best, asked-none}
use Rattle.crossing_router.proofs.Demand2.{Demand2Crossing, demand-2-crossing}
use Rattle.session_model.specs.Asks.Asking.{zeroed_words, zeros}
use Rattle.session_model.specs.Asks.Crossing.{CrossingAsk, asked_crossing, CrossingReply, AlikeCrossings, crossing_gives, best_reply, checked_reply, crossing_reply, CrossingAnswered, is_refused, no_route, no_room, is_found}
use Rattle.session_model.proofs.Replies.Asking.{zeros-taken}
use Rattle.session_model.proofs.Replies.Route.{written-words}

-- The rules give one reply, and it is the model's.
module _ (c : CrossingQuestion) (scratch room : ℕ) where
  pub crossing-only : {a : CrossingReply} → CrossingAnswered c scratch room a → a ≡ crossing_reply c scratch room
  unfolding crossing_reply checked_reply best_reply
  crossing-only (is_refused r e) = rw e
  crossing-only (no_route pass n) = rw (pass, (asked-none c scratch pass).1 n)
  crossing-only (no_room r pass b short) = rw (pass, (asked-best c scratch pass r).1 b, lt-leb _ _ short)
  crossing-only (is_found r pass b fits) = rw (pass, (asked-best c scratch pass r).1 b, le-leb _ _ fits)

-- What the call hands back and fills is that reply: its answer and visits are demand 2's.
module _ (c : CrossingQuestion) (scratch visits : List ℕ) where
  refused-answered : (r : Refusal) → checks c (length scratch) ≡ fails r → CrossingAnswered c (length scratch) (length visits) (crossing_gives c scratch visits)
  unfolding crossing_gives crossing_answer_of answer_after crossing_visits_of visits_after crossing_scratch_of scratch_after zeroed_words
  refused-answered r e = rw e (is_refused r e)

  module _ (pass : checks c (length scratch) ≡ passes) where
    by-demand : {after : List ℕ} {a : CrossingAnswer} → Demand2Crossing c visits after a → CrossingAnswered c (length scratch) (length visits) (record { answer = a; filled = take (crossed_words a) after; zeroed = zeros crossing_words c.question })
    unfolding figures_of
    by-demand (Demand2Crossing.is_found r b z fits e) =
        rw (e, take_at (written r) _ _ (written-words (rules_crossed c) r b.is_legal)) (is_found r pass b fits)
    by-demand (Demand2Crossing.no_room r b z short e) = no_room r pass b short
    by-demand (Demand2Crossing.no_route n e) = no_route pass n

    passed-answered : CrossingAnswered c (length scratch) (length visits) (crossing_gives c scratch visits)
    unfolding crossing_gives crossing_scratch_of scratch_after
    passed-answered =
        rw (pass, zeros-taken crossing_words c.question scratch) (by-demand (demand-2-crossing c scratch visits pass))

  pub crossing-answered : CrossingAnswered c (length scratch) (length visits) (crossing_gives c scratch visits)
  crossing-answered = go (checks c (length scratch)) refl
    where
      go : (k : Check) → checks c (length scratch) ≡ k → CrossingAnswered c (length scratch) (length visits) (crossing_gives c scratch visits)
      go passes e = passed-answered e
      go (fails r) e = refused-answered r e

-- contents of what is lent do not matter
pub alike-crossings : {a b : CrossingAsk} → AlikeCrossings a b → (marks : List ℕ) → crossing_reply (asked_crossing a marks) (length a.scratch) (length a.visits) ≡ crossing_reply (asked_crossing b marks) (length b.scratch) (length b.visits)
unfolding asked_crossing
alike-crossings e marks = rw (e.asking, e.crossing, e.scratch, e.visits)
