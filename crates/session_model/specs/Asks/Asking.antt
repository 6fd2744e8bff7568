-- What the questions of a session share: what each is told beside the plan's bytes, and what is asked on them.
use Rattle.std.specs.Prelude.{ℕ, ◌*◌, Bool, List, replicate}
use Rattle.answers.specs.Lists.{list_of}
use Rattle.answers.specs.declared.records.Tables.{Tables}
use Rattle.answers.specs.declared.records.BufferRecord.{BufferRecord}
use Rattle.answers.specs.declared.refusal.Refusal.{Refusal}
use Rattle.question.specs.Question.{Question, question_of, cells_asked, Check, passes, fails, or_else, question_checks}

-- the sides are the caller's words too, for the calls have no record
pub record Asking : Type 0 where
  pub width : ℕ
  pub height : ℕ
  pub tables : Tables
  pub buffers : List BufferRecord
  pub source : ℕ
  pub sink : ℕ

-- the question on a plan's bytes
unfoldable pub asked : Asking → List ℕ → Question
asked a marks = question_of marks a.width a.height a.tables (list_of a.buffers) a.source a.sink

-- the refusals of a question about route lists: 1 to 5, then 17 if a list given is bad
unfoldable pub list_checks : Question → Bool → Check
list_checks q bad = question_checks q (or_else bad Refusal.RouteList passes)

-- scratch words that a call zeroes, so many a cell: once the checks have passed, whatever the answer
unfoldable pub zeroed_words : ℕ → Check → Question → ℕ
zeroed_words words passes q = cells_asked q * words
zeroed_words words (fails r) q = 0

unfoldable pub zeros : ℕ → Question → List ℕ
zeros words q = replicate (cells_asked q * words) 0
