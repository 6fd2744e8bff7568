-- The reading of a whole job, in document 01's order: width, height, the marks of each cell, register R K C setup,
-- horizontal R C, vertical R C, T, skew, L, source, sink, buffer count, then R K C of each. The first fault met decides.
use Rattle.std.specs.Prelude.{ℕ, ◌+◌, ◌*◌, cond, List, [], ◌∷◌, ltb, get_or, take, Result, Ok, Err}
use Rattle.plan.specs.Check.{grid_fault}
use Rattle.timing.specs.Ranges.{buffers_max}
use Rattle.answers.specs.Numbers.{refusal_number}
use Rattle.answers.specs.declared.refusal.Refusal.{Refusal}
use Rattle.answers.specs.declared.refusal.Fault.{Fault}
use Rattle.router.specs.Route.{Question, question_of}
use Rattle.numbers.specs.Numbers.{Read, value, fault, number_max, number}
use Rattle.numbers.specs.Runs.{Run, values, refused, job_fault, fault_number, run}
use Rattle.job.specs.Fields.{tables_of, table_numbers, buffer_list_of}
use Rattle.job.specs.declared.read.Asked.{Asked}
use Rattle.numbers.specs.declared.fault.JobFault.{JobFault}

-- a question, or a refusal's number
pub data Reading : Type 0 where
  asks : Question → Reading
  refuses : ℕ → Reading

-- refusal 16: over 128 cells
abbrev pub size_fault : ℕ
size_fault = 16

abbrev pub cells_max : ℕ
cells_max = 128

-- the first bytes that decide what a job asks (proofs/Decides: `job-decided`)
abbrev pub job_bytes : ℕ
job_bytes = 225

-- a mark above it is refused while reading
abbrev pub marks_max : ℕ
marks_max = 15

abbrev pub mark_number : ℕ
mark_number = refusal_number Refusal.Mark

abbrev pub grid_number : ℕ
grid_number = refusal_number Refusal.Grid

abbrev pub count_number : ℕ
count_number = refusal_number (Refusal.Element Fault.Count)

-- the rest of the reading, or the fault met
unfoldable pub with_number : Read → (ℕ → List ℕ → Reading) → Reading
with_number (value v rest) next = next v rest
with_number fault next = refuses job_fault

unfoldable pub with_run : Run → (List ℕ → List ℕ → Reading) → Reading
with_run (values vs rest) next = next vs rest
with_run (refused k) next = refuses k

-- the tables and, after them, source and sink
unfoldable pub asked_of : ℕ → ℕ → List ℕ → Asked
asked_of w h vs = record { width = w; height = h; tables = tables_of vs; source = get_or vs table_numbers 0; sink = get_or vs (table_numbers + 1) 0 }

unfoldable pub question_from : List ℕ → Asked → ℕ → List ℕ → Question
question_from marks a n vs = question_of marks a.width a.height a.tables (buffer_list_of n vs) a.source a.sink

-- no byte may be left over
unfoldable pub ended : Question → List ℕ → Reading
ended q [] = asks q
ended q (byte ∷ rest) = refuses job_fault

unfoldable pub buffers_from : List ℕ → Asked → ℕ → List ℕ → Reading
buffers_from marks a n bytes = with_run (run (3 * n) number_max job_fault bytes) (λ vs rest. ended (question_from marks a n vs) rest)

unfoldable pub count_from : List ℕ → Asked → List ℕ → Reading
count_from marks a bytes = with_number (number bytes) (λ n rest. cond (ltb buffers_max n) (refuses count_number) (buffers_from marks a n rest))

unfoldable pub tables_from : ℕ → ℕ → List ℕ → List ℕ → Reading
tables_from w h marks bytes = with_run (run (table_numbers + 2) number_max job_fault bytes) (λ vs rest. count_from marks (asked_of w h vs) rest)

unfoldable pub marks_from : ℕ → ℕ → List ℕ → Reading
marks_from w h bytes = with_run (run (w * h) marks_max mark_number bytes) (λ marks rest. tables_from w h marks rest)

-- 1, then 16, then the marks
unfoldable pub sized : ℕ → ℕ → List ℕ → Reading
sized w h bytes = cond (grid_fault w h) (refuses grid_number) (cond (ltb cells_max (w * h)) (refuses size_fault) (marks_from w h bytes))

unfoldable pub read_job : List ℕ → Reading
read_job bytes = with_number (number bytes) (λ w rest. with_number (number rest) (λ h left. sized w h left))

-- What the code's answer says, with the marks that stand in the plan and the buffers' numbers in the words.
unfoldable pub marks_of : List ℕ → Asked → List ℕ
marks_of plan a = take (a.width * a.height) plan

unfoldable pub reading_of : List ℕ → List ℕ → Result (Asked × ℕ) JobFault → Reading
reading_of plan words (Ok r) = asks (question_from (marks_of plan r.0) r.0 r.1 (take (3 * r.1) words))
reading_of plan words (Err f) = refuses (fault_number f)
