-- What is asked on a plan, and refusals 1 to 5 of document 01, which every call about a route has.
use Rattle.std.specs.Prelude.{ℕ, ◌*◌, Bool, cond, List, Option, Some, None, Ok, Err, Result}
use Rattle.plan.specs.Plan.{plan_of}
use Rattle.plan.specs.Check.{checked_plan}
use Rattle.plan.specs.declared.PlanFault.{PlanFault}
use Rattle.plan.specs.declared.PlanFault.TheVariants.{Grid, Length, Mark}
use Rattle.rules.specs.Rules.{Rules, rules_of}
use Rattle.answers.specs.Tables.{tables_fault, elements_of}
use Rattle.answers.specs.Ends.{ends_fault}
use Rattle.answers.specs.declared.records.Tables.{Tables}
use Rattle.answers.specs.declared.records.BufferList.{BufferList}
use Rattle.answers.specs.declared.refusal.Fault.{Fault}
use Rattle.answers.specs.declared.refusal.Refusal.{Refusal}

-- what is asked: the plan's bytes and sides, the raw tables, the buffers, the ends
pub record Question : Type 0 where
  pub marks : List ℕ
  pub width : ℕ
  pub height : ℕ
  pub tables : Tables
  pub buffers : BufferList
  pub source : ℕ
  pub sink : ℕ

abbrev pub question_of : List ℕ → ℕ → ℕ → Tables → BufferList → ℕ → ℕ → Question
question_of marks w h t list a b =
    record { marks = marks; width = w; height = h; tables = t; buffers = list; source = a; sink = b }

-- document 01's rules, with document 02's skew, for this question
unfoldable pub rules_asked : Question → Rules
rules_asked q = rules_of (plan_of q.width q.height q.marks) (elements_of q.tables q.buffers) q.source q.sink

unfoldable pub cells_asked : Question → ℕ
cells_asked q = q.width * q.height

-- Refusals in their order, or none of them

pub data Check : Type 0 where
  passes : Check
  fails : Refusal → Check

-- 1, 2, 3, then the rest
unfoldable pub after_plan : Result Unit PlanFault → Check → Check
after_plan (Ok u) rest = rest
after_plan (Err Grid) rest = fails Refusal.Grid
after_plan (Err Length) rest = fails Refusal.Length
after_plan (Err Mark) rest = fails Refusal.Mark

-- 4 with the number at fault, then the rest
unfoldable pub after_tables : Option Fault → Check → Check
after_tables None rest = rest
after_tables (Some f) rest = fails (Refusal.Element f)

-- this refusal where the test is met, or else the rest
abbrev pub or_else : Bool → Refusal → Check → Check
or_else fault r rest = cond fault (fails r) rest

-- 1 to 5, with what 4 names where a number is at fault, then the rest
abbrev pub checks_with : Option Fault → Question → Check → Check
checks_with fault q rest =
    after_plan (checked_plan (plan_of q.width q.height q.marks))
    (after_tables fault
    (or_else (ends_fault (cells_asked q) q.source q.sink) Refusal.Ends rest))

-- with one clock
unfoldable pub question_checks : Question → Check → Check
question_checks q rest = checks_with (tables_fault q.tables q.buffers) q rest
