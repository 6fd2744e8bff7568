-- The question why there is no route: what the call hands back and zeroes is the reply that the rules give, and they give one, the model's.
use Prim.Native.Nat.{ℕ}
use mathlib.Core.List.{List}
use mathlib.Core.Path.{◌≡◌, refl}
use lib.ListN.{length}
use Rattle.question.specs.Question.{Question, Check, passes, fails}
use Rattle.answers.specs.declared.refusal.Refusal.{Refusal}
use Rattle.router.specs.Route.{cell_words, checks, scratch_after, scratch_of}
use Rattle.reasons.specs.Reasons.{explained_after, explained_of}
use Rattle.reasons.proofs.Explained.{explained-true, explained-only}
use Rattle.session_model.specs.Asks.Asking.{asked, zeroed_words, zeros}
use Rattle.session_model.specs.Asks.Explain.{ExplainAsk, ExplainReply, AlikeExplains, explain_gives, explain_after, explain_reply, ExplainAnswered, not_explained, is_explained}
use Rattle.session_model.proofs.Replies.Asking.{zeros-taken}

-- The rules give one reply, and it is the model's.
pub explain-only : (q : Question) (scratch : ℕ) {r : ExplainReply} → ExplainAnswered q scratch r → r ≡ explain_reply q scratch
unfolding explain_reply explain_after explained_of
explain-only q scratch (not_explained r e) = rw e
explain-only q scratch (is_explained pass x) = let same = rw pass at (explained-only q scratch pass x) in rw (pass, same)

module _ (q : Question) (scratch : List ℕ) where
  refused-answered : (r : Refusal) → checks q (length scratch) ≡ fails r → ExplainAnswered q (length scratch) (explain_gives q scratch)
  unfolding explain_gives explained_of explained_after scratch_of scratch_after zeroed_words
  refused-answered r e = rw e (not_explained r e)

  passed-answered : checks q (length scratch) ≡ passes → ExplainAnswered q (length scratch) (explain_gives q scratch)
  unfolding explain_gives scratch_of scratch_after
  passed-answered pass =
      let x : ExplainAnswered q (length scratch) (record { answer = explained_of q (length scratch); zeroed = zeros cell_words q }) = is_explained pass (explained-true q (length scratch) pass) in
      rw (pass, zeros-taken cell_words q scratch) x

  -- What the call hands back and zeroes is that reply.
  pub explain-answered : ExplainAnswered q (length scratch) (explain_gives q scratch)
  explain-answered = go (checks q (length scratch)) refl
    where
      go : (k : Check) → checks q (length scratch) ≡ k → ExplainAnswered q (length scratch) (explain_gives q scratch)
      go passes e = passed-answered e
      go (fails r) e = refused-answered r e

-- contents of what is lent do not matter
pub alike-explains : {a b : ExplainAsk} → AlikeExplains a b → (marks : List ℕ) → explain_reply (asked a.asking marks) (length a.scratch) ≡ explain_reply (asked b.asking marks) (length b.scratch)
alike-explains e marks = rw (e.asking, e.scratch)
