-- What is asked about a net between two clocks (document 02, C-15), and its refusals 1 to 5. The tables' period is the sink's.
use Rattle.std.specs.Prelude.{ℕ, List, Result}
use Rattle.answers.specs.Crossing.{crossing_fault, clocks_of}
use Rattle.answers.specs.declared.records.Tables.{Tables}
use Rattle.answers.specs.declared.records.BufferList.{BufferList}
use Rattle.answers.specs.declared.records.Crossing.{Crossing}
use Rattle.answers.specs.declared.refusal.Refusal.{Refusal}
use Rattle.problem.specs.declared.net.Net.{Net}
use Rattle.question.specs.Question.{Question, question_of, Check, passes, checks_with}
use Rattle.question.specs.Checked.{problem_asked, checked_as}

pub record CrossingQuestion : Type 0 where
  pub question : Question
  pub crossing : Crossing

abbrev pub crossing_of : List ℕ → ℕ → ℕ → Tables → Crossing → BufferList → ℕ → ℕ → CrossingQuestion
crossing_of marks w h t x list a b = record { question = question_of marks w h t list a b; crossing = x }

-- 1 to 5, then the rest
unfoldable pub crossing_checks : CrossingQuestion → Check → Check
crossing_checks c rest = checks_with (crossing_fault c.question.tables c.crossing c.question.buffers) c.question rest

-- the net asked about
abbrev pub net_asked : CrossingQuestion → Net
net_asked c = record { problem = problem_asked c.question; clocks = clocks_of c.crossing }

-- that net where they pass, or the refusal
unfoldable pub crossing_checked : CrossingQuestion → Result Net Refusal
crossing_checked c = checked_as (crossing_checks c passes) (net_asked c)
