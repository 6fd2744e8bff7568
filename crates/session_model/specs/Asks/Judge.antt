-- The verdict call as a session's question: what it is told, what the same question is, what the rules give. Its reply is the verdict.
-- Everything lent is only read. The call gives `verdict_of` (verdict/specs/Verdict.antt), and so does the model, on its own plan; what that is by documents 01 and 02, without the visits tried one by one: `JudgeAnswered`.
use Rattle.std.specs.Prelude.{ℕ, List, ◌≡◌, T}
use Rattle.rules.specs.Legal.{legal}
use Rattle.rules.specs.Slack.{least_slack}
use Rattle.answers.specs.declared.refusal.Refusal.{Refusal}
use Rattle.answers.specs.declared.verdicts.VisitFault.{VisitFault}
use Rattle.std.specs.Prelude.{Ok, Err}
use Rattle.answers.specs.declared.verdicts.Finding.{Finding}
use Rattle.answers.specs.Numbers.{Verdict}
use Rattle.question.specs.Question.{Question, rules_asked, passes, fails}
use Rattle.verdict.specs.Verdict.{route_in, bad_list}
use Rattle.verdict.specs.Fault.{FirstFault}
use Rattle.session_model.specs.Asks.Asking.{Asking, list_checks}

-- the call is told a route list, too
pub record JudgeAsk : Type 0 where
  pub asking : Asking
  pub words : List ℕ

-- the same question put to two sessions: the lists have equal words
pub record AlikeJudges (a b : JudgeAsk) : Type 0 where
  pub asking : a.asking ≡ b.asking
  pub words : a.words ≡ b.words

-- The verdict that the rules give: the refusal, or by what is legal and the tests of the visits.
pub data JudgeAnswered (q : Question) (ws : List ℕ) : Verdict → Type 0 where
  -- 1 to 5 or 17, the first in its order
  not_judged : (r : Refusal) → list_checks q (bad_list ws) ≡ fails r → JudgeAnswered q ws (Err r)
  -- the route in the words is legal; with its smallest spare figure
  is_accepted : list_checks q (bad_list ws) ≡ passes → T (legal (rules_asked q) (route_in ws)) → JudgeAnswered q ws (Ok (Finding.Accepted (least_slack (rules_asked q) (route_in ws))))
  -- "the first visit at fault (from 0) and the fault there", a period fault with the figure of its close
  is_at_fault : (i : ℕ) (f : VisitFault) → list_checks q (bad_list ws) ≡ passes → FirstFault (rules_asked q) (route_in ws) i f → JudgeAnswered q ws (Ok (Finding.AtFault i f))
