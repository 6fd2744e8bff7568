-- "A skew of 0 gives the answers of before": with it the rules are those without a skew, so all that follows from them is.
use Prim.Native.Nat.{ℕ}
use mathlib.Core.Bool.{Bool, true, false}
use mathlib.Core.Path.{◌≡◌, refl, ap, ap₂, fun_ext}
use native.Mathlib.Omega.{arith}
use Rattle.std.proofs.Common.{Option}
use borrow.Author.Tests.{le-leb}
use lib.Dec.{leb}
use Rattle.timing.specs.declared.elements.Elements.{Elements}
use Rattle.timing.specs.Ranges.{period_min, period_max, skew_max}
use Rattle.timing.specs.Relaxed.{at_period, relaxed}
use Rattle.rules.specs.Rules.{Rules}
use Rattle.rules.proofs.Skew.{rules-unskewed, between-unskewed}
use Rattle.budget.specs.Emission.{first_from}
use Rattle.answers.specs.Tables.{tables_fault, elements_of}
use Rattle.answers.specs.Crossing.{crossing_fault, clocks_of}
use Rattle.answers.specs.declared.refusal.Fault.{Fault}
use Rattle.answers.specs.declared.refusal.Refusal.{Refusal}
use Rattle.answers.specs.declared.explained.Reason.{Reason}
use Rattle.answers.specs.Numbers.{Explained}
use Rattle.question.specs.Question.{Question, Check, passes, fails, checks_with, question_checks, rules_asked}
use Rattle.question.specs.Crossing.{CrossingQuestion, crossing_checks}
use Rattle.router.specs.Route.{checks, answer_under, answer_of, visits_under, visits_of}
use Rattle.verdict.specs.Verdict.{verdict_under, verdict_of}
use Rattle.comparison.specs.Better.{comparison_under, comparison_of}
use Rattle.reasons.specs.Reasons.{routed, period_reason, smallest_with, reason_with, explained_with, explained_after, explained_under, rules_with, explained_of}
use Rattle.crossing_router.specs.Route.{rules_crossed, crossing_answer_under, crossing_answer_of, crossing_visits_under, crossing_visits_of}
use Rattle.text.specs.Answers.{answer_text}
use Rattle.printing.specs.Printed.{scratch_words, visit_words, blank, reading_text}
use Rattle.rule_changes.specs.Asked.{plan_asked}
use Rattle.rule_changes.specs.Skew.{unskewed_with, unskewed_asked, fault_before, AnswersBefore, unskewed_crossed, crossing_fault_before, CrossingsBefore}
use Rattle.std.specs.Prelude.{Ok, Err}

in-range : (s : ℕ) → s ≡ 0 → leb s skew_max ≡ true
in-range s none = le-leb s skew_max (omega arith)

module _ (q : Question) where
  -- with any tables that have no skew
  tables-unskewed : (d : Elements) → d.skew ≡ 0 → rules_with q d ≡ unskewed_with q d
  unfolding unskewed_with
  tables-unskewed d none = rules-unskewed (plan_asked q) d q.source q.sink none

  module _ (none : q.tables.skew ≡ 0) where
    own : rules_asked q ≡ unskewed_asked q
    unfolding rules_asked unskewed_asked elements_of
    own = tables-unskewed (elements_of q.tables q.buffers) none

    fault : tables_fault q.tables q.buffers ≡ fault_before q
    unfolding tables_fault fault_before
    fault = rw (in-range q.tables.skew none)

    refusals : (rest : Check) → question_checks q rest ≡ checks_with (fault_before q) q rest
    unfolding question_checks
    refusals rest = ap (λ (f : Option Fault). checks_with f q rest) fault

module _ (q : Question) (e : Elements) (none : e.skew ≡ 0) where
  -- the tables with another period keep the skew; those without delays have none
  periods : smallest_with (rules_with q) e ≡ smallest_with (unskewed_with q) e
  unfolding at_period
  periods = ap (λ (f : ℕ → Bool). first_from f period_min period_max) (fun_ext (λ (t : ℕ). ap routed (tables-unskewed q (at_period t e) none)))

  -- the definition's tests
  abbrev from_loads : Bool → ℕ → Reason
  from_loads light t = elim light [ false ↦ Reason.Load | true ↦ period_reason t ]

  abbrev from_chain : Bool → Reason → Reason
  from_chain chain rest = elim chain [ false ↦ Reason.WalledOff | true ↦ rest ]

  abbrev from_route : Bool → Reason → Explained
  from_route own why = elim own [ true ↦ Err Refusal.RouteExists | false ↦ Ok why ]

  reason : reason_with (rules_with q) e ≡ reason_with (unskewed_with q) e
  unfolding relaxed
  reason =
      ap₂ from_chain (ap routed (tables-unskewed q (relaxed false e) refl))
      (ap₂ from_loads (ap routed (tables-unskewed q (relaxed true e) refl)) periods)

  explained-tables : explained_with (rules_with q) e ≡ explained_with (unskewed_with q) e
  explained-tables = ap₂ from_route (ap routed (tables-unskewed q e none)) reason

module _ (q : Question) (none : q.tables.skew ≡ 0) where
  explained : (scratch : ℕ) → explained_of q scratch ≡ explained_under (unskewed_with q) q scratch
  unfolding explained_of explained_after elements_of
  explained scratch = go (checks q scratch)
    where
      go : (k : Check) → explained_after k (rules_with q) q ≡ explained_after k (unskewed_with q) q
      go passes = explained-tables q (elements_of q.tables q.buffers) none
      go (fails r) = refl

  pub answers-before-16 : AnswersBefore q
  unfolding answer_of visits_of verdict_of comparison_of reading_text
  answers-before-16 =
      record {
        refusals = refusals q none;
        answer = λ scratch visits. ap (λ (R : Rules). answer_under R q scratch visits) (own q none);
        visits = λ scratch visits. ap (λ (R : Rules). visits_under R q scratch visits) (own q none);
        verdict = λ words. ap (λ (R : Rules). verdict_under R q words) (own q none);
        comparison = λ a b. ap (λ (R : Rules). comparison_under R q a b) (own q none);
        explained = explained;
        printed = ap (λ (R : Rules). answer_text (answer_under R q (blank scratch_words) (blank visit_words)) (visits_under R q (blank scratch_words) (blank visit_words))) (own q none);
      }

module _ (c : CrossingQuestion) (none : c.question.tables.skew ≡ 0) where
  crossed : rules_crossed c ≡ unskewed_crossed c
  unfolding rules_crossed unskewed_crossed elements_of
  crossed =
      between-unskewed (plan_asked c.question) (elements_of c.question.tables c.question.buffers) (clocks_of c.crossing) c.question.source c.question.sink none

  crossing-fault : crossing_fault c.question.tables c.crossing c.question.buffers ≡ crossing_fault_before c
  unfolding crossing_fault crossing_fault_before
  crossing-fault = rw (in-range c.question.tables.skew none)

  crossing-refusals : (rest : Check) → crossing_checks c rest ≡ checks_with (crossing_fault_before c) c.question rest
  unfolding crossing_checks
  crossing-refusals rest = ap (λ (f : Option Fault). checks_with f c.question rest) crossing-fault

  pub crossings-before-16 : CrossingsBefore c
  unfolding crossing_answer_of crossing_visits_of
  crossings-before-16 =
      record {
        refusals = crossing-refusals;
        answer = λ scratch visits. ap (λ (R : Rules). crossing_answer_under R c scratch visits) crossed;
        visits = λ scratch visits. ap (λ (R : Rules). crossing_visits_under R c scratch visits) crossed;
      }
