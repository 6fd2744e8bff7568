-- The calls on two route lists as a session's questions: `compare` tells which is the better, `better` hands it back. What they are told, what the same question is, their replies, what the rules give.
-- Everything lent is only read. `compare` gives `comparison_of` (comparison/specs/Better.antt), and so does the model, on its own plan; what that is by documents 01 and 02: `CompareAnswered`.
use Rattle.std.specs.Prelude.{Ok, Err}
use Rattle.std.specs.Prelude.{ℕ, ◌||◌, List, [], ◌≡◌, T}
use Rattle.std.specs.Borrow.{Bor}
use Rattle.rules.specs.Legal.{legal}
use Rattle.rules.specs.Ranking.{registers, ranks_before}
use Rattle.answers.specs.declared.refusal.Refusal.{Refusal}
use Rattle.answers.specs.Numbers.{Comparison}
use Rattle.answers.specs.declared.verdicts.Which.TheVariants.{First, Second}
use Rattle.question.specs.Question.{Question, rules_asked, passes, fails}
use Rattle.verdict.specs.Verdict.{route_in, bad_list}
use Rattle.comparison.specs.Better.{comparison_of}
use Rattle.session_model.specs.Asks.Asking.{Asking, list_checks}

-- both calls are told two route lists, too
pub record PairAsk : Type 0 where
  pub asking : Asking
  pub first : List ℕ
  pub second : List ℕ

-- the same question put to two sessions: the lists have equal words
pub record AlikePairs (a b : PairAsk) : Type 0 where
  pub asking : a.asking ≡ b.asking
  pub first : a.first ≡ b.first
  pub second : a.second ≡ b.second

-- The comparison that the rules give: the refusal, or by what is legal and what ranks before what.
pub data CompareAnswered (q : Question) (a b : List ℕ) : Comparison → Type 0 where
  -- 1 to 5 or 17, the first in its order
  not_compared : (r : Refusal) → list_checks q (bad_list a || bad_list b) ≡ fails r → CompareAnswered q a b (Err r)
  -- the first is legal, and the second is not or does not rank before it
  first_better : list_checks q (bad_list a || bad_list b) ≡ passes → T (legal (rules_asked q) (route_in a)) → (T (legal (rules_asked q) (route_in b)) → T (ranks_before registers (route_in b) (route_in a)) → ⊥) → CompareAnswered q a b (Ok First)
  -- the second is legal, and the first is not or the second ranks before it
  second_better : list_checks q (bad_list a || bad_list b) ≡ passes → T (legal (rules_asked q) (route_in b)) → (T (legal (rules_asked q) (route_in a)) → T (ranks_before registers (route_in b) (route_in a))) → CompareAnswered q a b (Ok Second)
  -- 18: neither is legal
  neither_legal : list_checks q (bad_list a || bad_list b) ≡ passes → (T (legal (rules_asked q) (route_in a)) → ⊥) → (T (legal (rules_asked q) (route_in b)) → ⊥) → CompareAnswered q a b (Err Refusal.NoneLegal)

-- What `better` hands back: one of the two lists itself, "the caller's own words", or an empty part. A model of values has no pointers: the reply says which list it is, with its words.
pub data BetterReply : Type 0 where
  whole_first : List ℕ → BetterReply
  whole_second : List ℕ → BetterReply
  empty_part : BetterReply

-- A reply, said of references (pointer and words) to the lists lent and to what is handed back. With `better_of` it is `better`'s contract, `Handed` (proofs/Replies/Better.antt, `handed-is`).
abbrev pub LendsBack : BetterReply → Bor (List ℕ) → Bor (List ℕ) → Bor (List ℕ) → Type 0
LendsBack (whole_first ws) a b r = (r ≡ a) × (r.now ≡ ws)
LendsBack (whole_second ws) a b r = (r ≡ b) × (r.now ≡ ws)
LendsBack empty_part a b r = r.now ≡ []

unfoldable pub handed_back : Comparison → List ℕ → List ℕ → BetterReply
handed_back (Ok First) a b = whole_first a
handed_back (Ok Second) a b = whole_second b
handed_back (Err r) a b = empty_part

-- what the call and the model give
unfoldable pub better_of : Question → List ℕ → List ℕ → BetterReply
better_of q a b = handed_back (comparison_of q a b) a b

-- What the rules hand back: the list that they tell, or an empty part for every refusal.
pub data BetterAnswered (q : Question) (a b : List ℕ) : BetterReply → Type 0 where
  hands_first : CompareAnswered q a b (Ok First) → BetterAnswered q a b (whole_first a)
  hands_second : CompareAnswered q a b (Ok Second) → BetterAnswered q a b (whole_second b)
  hands_none : (r : Refusal) → CompareAnswered q a b (Err r) → BetterAnswered q a b empty_part
