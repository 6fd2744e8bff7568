-- C-16 of document 02: "A skew of 0 gives the answers of before." The answers of before are those of the same definitions under rules that read no skew (rules/specs/Unskewed.antt), all else in them as now, and refusal 4 without its test of the skew. `better` hands back by `comparison_of`; the scratch words go by the checks alone; the session's calls read no tables.
use Rattle.std.specs.Prelude.{ℕ, true, List, ◌≡◌, Option}
use Rattle.timing.specs.declared.elements.Elements.{Elements}
use Rattle.rules.specs.Rules.{Rules}
use Rattle.rules.specs.Unskewed.{unskewed_rules, unskewed_between}
use Rattle.answers.specs.Tables.{require, period_in_range, register_ok, fault_from_limit, elements_of}
use Rattle.answers.specs.Crossing.{clocks_of}
use Rattle.answers.specs.declared.refusal.Fault.{Fault}
use Rattle.question.specs.Question.{Question, Check, checks_with, question_checks}
use Rattle.question.specs.Crossing.{CrossingQuestion, crossing_checks}
use Rattle.router.specs.Route.{answer_under, answer_of, visits_under, visits_of}
use Rattle.verdict.specs.Verdict.{verdict_under, verdict_of}
use Rattle.comparison.specs.Better.{comparison_under, comparison_of}
use Rattle.reasons.specs.Reasons.{explained_under, explained_of}
use Rattle.crossing_router.specs.Route.{crossing_answer_under, crossing_answer_of, crossing_visits_under, crossing_visits_of}
use Rattle.job.specs.Job.{asks}
use Rattle.text.specs.Answers.{answer_text}
use Rattle.printing.specs.Printed.{scratch_words, visit_words, blank, reading_text}
use Rattle.rule_changes.specs.Asked.{plan_asked}

-- One clock

-- the question's rules without a skew, with any tables; and with its own
unfoldable pub unskewed_with : Question → Elements → Rules
unskewed_with q d = unskewed_rules (plan_asked q) d q.source q.sink

unfoldable pub unskewed_asked : Question → Rules
unskewed_asked q = unskewed_with q (elements_of q.tables q.buffers)

-- refusal 4: T, then L
unfoldable pub fault_before : Question → Option Fault
fault_before q = require (period_in_range q.tables.period) Fault.Period (fault_from_limit true q.tables q.buffers)

pub record AnswersBefore (q : Question) : Type 0 where
  -- 1 to 5, whatever comes after them
  pub refusals : (rest : Check) → question_checks q rest ≡ checks_with (fault_before q) q rest
  pub answer : (scratch visits : List ℕ) → answer_of q scratch visits ≡ answer_under (unskewed_asked q) q scratch visits
  pub visits : (scratch visits : List ℕ) → visits_of q scratch visits ≡ visits_under (unskewed_asked q) q scratch visits
  pub verdict : (words : List ℕ) → verdict_of q words ≡ verdict_under (unskewed_asked q) q words
  pub comparison : (a b : List ℕ) → comparison_of q a b ≡ comparison_under (unskewed_asked q) q a b
  pub explained : (scratch : ℕ) → explained_of q scratch ≡ explained_under (unskewed_with q) q scratch
  -- what the printer prints of a job that asks this
  pub printed : reading_text (asks q) ≡ answer_text (answer_under (unskewed_asked q) q (blank scratch_words) (blank visit_words)) (visits_under (unskewed_asked q) q (blank scratch_words) (blank visit_words))

-- Two clocks

unfoldable pub unskewed_crossed : CrossingQuestion → Rules
unskewed_crossed c =
    unskewed_between (plan_asked c.question) (elements_of c.question.tables c.question.buffers) (clocks_of c.crossing) c.question.source c.question.sink

-- refusal 4: the source's period, the sink's, then L
unfoldable pub crossing_fault_before : CrossingQuestion → Option Fault
crossing_fault_before c =
    require (period_in_range c.crossing.period) Fault.SourcePeriod
    (require (period_in_range c.question.tables.period) Fault.SinkPeriod
    (fault_from_limit (register_ok c.crossing.fifo) c.question.tables c.question.buffers))

pub record CrossingsBefore (c : CrossingQuestion) : Type 0 where
  pub refusals : (rest : Check) → crossing_checks c rest ≡ checks_with (crossing_fault_before c) c.question rest
  pub answer : (scratch visits : List ℕ) → crossing_answer_of c scratch visits ≡ crossing_answer_under (unskewed_crossed c) c scratch visits
  pub visits : (scratch visits : List ℕ) → crossing_visits_of c scratch visits ≡ crossing_visits_under (unskewed_crossed c) c scratch visits
