-- C-17 of document 02: "with ample sheet, the old answer to a route question changes exactly when its route puts a register or a FIFO, between the ends, on a cell with both marks." The old answer is that of the same definitions under the rules of before (rules/specs/KeepOut.antt). Refusals 1 to 6 and the scratch words go by the checks alone, which did not change.
-- "The verdict calls such a visit a gate site fault."
use Rattle.std.specs.Prelude.{ℕ, ◌+◌, ◌*◌, ◌≤◌, ◌<◌, Bool, false, not, List, ◌∷◌, ◌≡◌, ◌↔◌, T, length, drop}
use Rattle.plan.specs.Plan.{Plan}
use Rattle.rules.specs.Rules.{Rules}
use Rattle.rules.specs.Legal.{Visit, Route}
use Rattle.rules.specs.Ranking.{steps}
use Rattle.rules.specs.KeepOut.{tap_last, tap_last_between, on_both, puts}
use Rattle.best.specs.Best.{Outcome, found, none, best}
use Rattle.answers.specs.Tables.{elements_of}
use Rattle.answers.specs.Crossing.{clocks_of}
use Rattle.answers.specs.Numbers.{Answer}
use Rattle.answers.specs.Numbers.{CrossingAnswer}
use Rattle.answers.specs.declared.verdicts.VisitFault.{VisitFault}
use Rattle.std.specs.Prelude.{Ok, Err}
use Rattle.answers.specs.declared.verdicts.Finding.{Finding}
use Rattle.answers.specs.Numbers.{Verdict}
use Rattle.question.specs.Question.{Question, Check, passes, fails, rules_asked, question_checks}
use Rattle.question.specs.Crossing.{CrossingQuestion}
use Rattle.router.specs.Route.{checks, answer_under, answer_of, visits_under, visits_of}
use Rattle.crossing_router.specs.Route as crossing
use Rattle.crossing_router.specs.Route.{crossing_answer_under, crossing_answer_of, crossing_visits_under, crossing_visits_of}
use Rattle.verdict.specs.Verdict.{route_in, bad_list, verdict_of}
use Rattle.verdict.specs.Fault.{fault_test}
use Rattle.rule_changes.specs.Asked.{plan_asked}

-- "its route puts a register or a FIFO, between the ends, on a cell with both marks"; without a route it does not
unfoldable pub route_puts : Plan → Outcome → Bool
route_puts p (found r) = puts (on_both p) r
route_puts p none = false

-- nor does a question that is refused
unfoldable pub puts_after : Check → Plan → Rules → Bool
puts_after passes p R = route_puts p (best R)
puts_after (fails r) p R = false

-- "with ample sheet": the words lent for the visits hold the route
abbrev pub Ample : Rules → List ℕ → Type 0
Ample R visits = (r : Route) → best R ≡ found r → 2 * (steps r + 1) ≤ length visits

-- What a call gives: its answer, and the visits afterwards. On any sheet they stay if the old route puts nothing there; on an ample one they change exactly if it does.
pub record KeepOut (A : Type 0) (stood : Bool) (ample : Type 0) (new old : A × List ℕ) : Type 0 where
  pub stays : T (not stood) → new ≡ old
  pub changes : ample → ((new ≡ old → ⊥) ↔ T stood)

-- One clock

-- the question's rules of before
unfoldable pub tap_last_asked : Question → Rules
tap_last_asked q = tap_last (plan_asked q) (elements_of q.tables q.buffers) q.source q.sink

abbrev pub RouteKeepOut : Question → List ℕ → List ℕ → Type 0
RouteKeepOut q scratch visits =
    KeepOut Answer (puts_after (checks q (length scratch)) (plan_asked q) (tap_last_asked q)) (Ample (tap_last_asked q) visits)
    (answer_of q scratch visits, visits_of q scratch visits)
    (answer_under (tap_last_asked q) q scratch visits, visits_under (tap_last_asked q) q scratch visits)

-- Two clocks

unfoldable pub tap_last_crossed : CrossingQuestion → Rules
tap_last_crossed c =
    tap_last_between (plan_asked c.question) (elements_of c.question.tables c.question.buffers) (clocks_of c.crossing) c.question.source c.question.sink

abbrev pub CrossingKeepOut : CrossingQuestion → List ℕ → List ℕ → Type 0
CrossingKeepOut c scratch visits =
    KeepOut CrossingAnswer (puts_after (crossing.checks c (length scratch)) (plan_asked c.question) (tap_last_crossed c)) (Ample (tap_last_crossed c) visits)
    (crossing_answer_of c scratch visits, crossing_visits_of c scratch visits)
    (crossing_answer_under (tap_last_crossed c) c scratch visits, crossing_visits_under (tap_last_crossed c) c scratch visits)

-- The verdict

-- In a list from outside, of a question and with a length that are not refused, visit i is between the ends and has a register or a FIFO on a cell with both marks; no visit before it is at fault, nor is its wire.
pub record KeptOutVisit (q : Question) (words : List ℕ) (i : ℕ) : Type 0 where
  pub question : question_checks q passes ≡ passes
  pub list : bad_list words ≡ false
  pub later : 0 < i
  pub visit : Visit
  pub next : Visit
  pub rest : Route
  pub here : drop i (route_in words) ≡ visit ∷ (next ∷ rest)
  pub both : T (on_both (plan_asked q) visit.cell visit.code)
  pub before : (j : ℕ) → j < i → (f : VisitFault) → T (fault_test (rules_asked q) (route_in words) j f)
  pub wire : T (fault_test (rules_asked q) (route_in words) i VisitFault.Wire)

abbrev pub KeptOutFault : Question → List ℕ → ℕ → Type 0
KeptOutFault q words i = KeptOutVisit q words i → verdict_of q words ≡ Ok (Finding.AtFault i VisitFault.Site)
