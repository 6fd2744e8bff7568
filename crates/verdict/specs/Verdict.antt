-- The whole effect of the verdict on a route list from outside: document 02, C-11 and C-12. It accepts the legal routes, with the smallest spare figure; of another it tells the first visit at fault and the first fault there. Everything lent is only read.
-- The visits are tried one by one from the sink on. The proofs say that this is document 01's `legal`, and what the first fault is (Fault.antt).
use Rattle.std.specs.Prelude.{Ok, Err, ℕ, suc, ◌%◌, Bool, ◌&&◌, ◌||◌, cond, List, [], ◌∷◌, eqb, leb, ltb, ℤ, length}
use Rattle.timing.specs.Slack.{slack_most}
use Rattle.answers.specs.declared.verdicts.VisitFault.{VisitFault}
use Rattle.answers.specs.declared.verdicts.VisitFault.TheVariants.{Cell, Wire, Site, Load, Period}
use Rattle.answers.specs.declared.verdicts.Finding.{Finding}
use Rattle.answers.specs.declared.verdicts.Finding.TheVariants.{Accepted, AtFault}
use Rattle.answers.specs.Numbers.{Verdict}
use Rattle.answers.specs.declared.refusal.Refusal.{Refusal}
use Rattle.rules.specs.Rules.{Rules, register_code}
use Rattle.rules.specs.Legal.{Visit, Route, arrive, is_last, cell_right, wire_right, code_right, load_right, period_right}
use Rattle.rules.specs.Beginning.{Place, next_place, start_place}
use Rattle.rules.specs.Slack.{slack_at, slack_after}
use Rattle.question.specs.Question.{Question, rules_asked, Check, passes, fails, or_else, question_checks}

-- the visits of a list of words cell, code, cell, code, ..; a last word alone is none
unfoldable pub route_in : List ℕ → Route
route_in [] = []
route_in (cell ∷ []) = []
route_in (cell ∷ (code ∷ ws)) = record { cell = cell; code = code } ∷ route_in ws

-- 17: "of odd length or under two visits"
unfoldable pub bad_list : List ℕ → Bool
bad_list ws = eqb (length ws % 2) 1 || ltb (length ws) 4

-- the first test of a visit that fails, if one does
pub data VisitCheck : Type 0 where
  right : VisitCheck
  wrong : VisitFault → VisitCheck

-- this test, then the rest
abbrev pub or_wrong : Bool → VisitFault → VisitCheck → VisitCheck
or_wrong ok f rest = cond ok rest (wrong f)

-- A visit after the first, from the place where the visits before it have come; `last`: it is the last one.
-- "tried in this order: cell .., wire .., gate site .., load, period"; "a period fault the signed figure of its close"
unfoldable pub visit_check : Rules → Place → Bool → Visit → VisitCheck
visit_check R a last v =
    or_wrong (cell_right R last v) Cell
    (or_wrong (wire_right R a.cell v) Wire
    (or_wrong (code_right R a.fifos last v) Site
    (or_wrong (load_right R last (arrive R a.cell a.stage v.cell) v) Load
    (or_wrong (period_right R a.span a.fifos (arrive R a.cell a.stage v.cell) v) (Period (slack_at R a v)) right))))

-- The first visit: no wire leads to it, and no span closes there.
unfoldable pub first_check : Rules → Visit → VisitCheck
first_check R v =
    or_wrong (eqb v.cell R.sink && ltb v.cell R.cell_count) Cell
    (or_wrong (eqb v.code register_code) Site
    (or_wrong (leb R.start.load R.limit) Load right))

-- the visits from number i on; `least`: the smallest spare figure of the spans closed so far
unfoldable pub judge_from : Rules → ℕ → Place → ℤ → Route → Finding
judge_from R i a least [] = Accepted least
judge_from R i a least (v ∷ vs) =
    elim (visit_check R a (is_last vs) v) [
      | wrong f ↦ AtFault i f
      | right ↦ judge_from R (suc i) (next_place R a v) (slack_after R a least v) vs
    ]

-- the verdict on a route of two visits or more; a shorter list is refused with 17. No span has more than `slack_most`.
unfoldable pub judge_route : Rules → Route → Finding
judge_route R [] = Accepted slack_most
judge_route R (v ∷ vs) = elim (first_check R v) [ wrong f ↦ AtFault 0 f | right ↦ judge_from R 1 (start_place R v) slack_most vs ]

-- Refusals 1 to 5, then 17; then the verdict. It is told under any rules R; the call's own are those of the question.

unfoldable pub verdict_after : Check → Rules → List ℕ → Verdict
verdict_after passes R ws = Ok (judge_route R (route_in ws))
verdict_after (fails r) R ws = Err r

abbrev pub verdict_under : Rules → Question → List ℕ → Verdict
verdict_under R q ws = verdict_after (question_checks q (or_else (bad_list ws) Refusal.RouteList passes)) R ws

unfoldable pub verdict_of : Question → List ℕ → Verdict
verdict_of q ws = verdict_under (rules_asked q) q ws
