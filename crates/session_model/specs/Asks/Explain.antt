-- The call that tells why there is no route, as a session's question: what it is lent and told, its reply, what the call gives, what the rules give.
use Rattle.std.specs.Prelude.{ℕ, List, [], ◌≡◌, length, take}
use Rattle.answers.specs.declared.refusal.Refusal.{Refusal}
use Rattle.answers.specs.Numbers.{Explained}
use Rattle.question.specs.Question.{Question, Check, passes, fails}
use Rattle.router.specs.Route.{cell_words, checks, scratch_of}
use Rattle.reasons.specs.Explains.{Explains}
use Rattle.reasons.specs.Reasons.{rules_with, explained_after, explained_of}
use Rattle.session_model.specs.Asks.Asking.{Asking, zeroed_words, zeros}
use Rattle.std.specs.Prelude.{Ok, Err}

-- the call is lent scratch words, too
pub record ExplainAsk : Type 0 where
  pub asking : Asking
  pub scratch : List ℕ

-- what it hands back, and the scratch words that it zeroes
pub record ExplainReply : Type 0 where
  pub answer : Explained
  pub zeroed : List ℕ

-- the same question put to two sessions: the scratch words have equal lengths and may differ in contents
pub record AlikeExplains (a b : ExplainAsk) : Type 0 where
  pub asking : a.asking ≡ b.asking
  pub scratch : length a.scratch ≡ length b.scratch

-- what the call gives: its contract (reasons/specs/Reasons.antt)
unfoldable pub explain_gives : Question → List ℕ → ExplainReply
explain_gives q scratch =
    record {
      answer = explained_of q (length scratch);
      zeroed = take (zeroed_words cell_words (checks q (length scratch)) q) (scratch_of q scratch);
    }

-- what the model gives: from the length of what is lent alone
unfoldable pub explain_after : Check → Question → ExplainReply
explain_after passes q = record { answer = explained_after passes (rules_with q) q; zeroed = zeros cell_words q }
explain_after (fails r) q = record { answer = Err r; zeroed = [] }

unfoldable pub explain_reply : Question → ℕ → ExplainReply
explain_reply q scratch = explain_after (checks q scratch) q

-- The reply that the rules give, with no search: the refusal, or what is true in document 02's words.
pub data ExplainAnswered (q : Question) (scratch : ℕ) : ExplainReply → Type 0 where
  -- 1 to 6, the first in its order: nothing is zeroed
  not_explained : (r : Refusal) → checks q scratch ≡ fails r → ExplainAnswered q scratch (record { answer = Err r; zeroed = [] })
  -- 19, or the reason; the scratch words are zeroed
  is_explained : {x : Explained} → checks q scratch ≡ passes → Explains q x → ExplainAnswered q scratch (record { answer = x; zeroed = zeros cell_words q })
