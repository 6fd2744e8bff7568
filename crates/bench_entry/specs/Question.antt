-- The question that numbers and words make. The tables' words are in the job's order.
use Rattle.std.specs.Prelude.{ℕ, List}
use Rattle.job.specs.Fields.{tables_of}
use Rattle.question.specs.Question.{Question, question_of}
use Rattle.bench_words.specs.Words.{buffers_in}

unfoldable pub bench_question : List ℕ → ℕ → ℕ → List ℕ → List ℕ → ℕ → ℕ → Question
bench_question marks w h tables buffers a b = question_of marks w h (tables_of tables) (buffers_in buffers) a b
