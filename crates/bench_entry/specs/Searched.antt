-- The whole effect of the entry to the search without the route: the number that it returns, and what it leaves in the words lent.
-- It rests on what no call can test: the areas lent are as long as the caller says, and lie apart from one another.
use Rattle.std.specs.Prelude.{ℕ, ◌*◌, Bool, true, false, ◌≡◌, Option, Some, None, List, pos, length}
use Rattle.answers.specs.Numbers.{answer_number}
use Rattle.answers.specs.declared.refusal.Refusal.{Refusal}
use Rattle.answers.specs.Numbers.{Answer}
use Rattle.best.specs.Best.{best}
use Rattle.rows.specs.Words.{KeptFrom}
use Rattle.question.specs.Question.{Question, Check, passes, fails, rules_asked, cells_asked}
use Rattle.router.specs.Route.{cell_words, checks}
use Rattle.router.specs.Least.{least_of}
use Rattle.router.specs.declared.least.Least.{Least}
use Rattle.bench_words.specs.Figures.{figure_words}
use Rattle.bench_entry.specs.Explained.{Unexplained}
use Rattle.answers.specs.declared.answer.RouteAnswer.{RouteAnswer}

-- registers and steps alone
abbrev pub least_answer : Option Least → Answer
least_answer (Some l) = RouteAnswer.Found (record { registers = l.registers; steps = l.steps; latency = 0; slack = pos 0 })
least_answer None = RouteAnswer.Refused Refusal.NoRoute

-- the best route's, by the route call's checks
unfoldable pub searched_after : Check → Question → Answer
searched_after passes q = least_answer (least_of (best (rules_asked q)))
searched_after (fails r) q = RouteAnswer.Refused r

unfoldable pub searched_of : Question → ℕ → Answer
searched_of q scratch = searched_after (checks q scratch) q

-- where the checks pass, the scratch words of the cells hold anything; all others stay
unfoldable pub WordsAfter : Check → Question → List ℕ → List ℕ → Type 0
WordsAfter passes q scratch scratch' = (length scratch' ≡ length scratch) × KeptFrom (cells_asked q * cell_words) scratch scratch'
WordsAfter (fails r) q scratch scratch' = scratch' ≡ scratch

pub record Searching (q : Question) (scratch scratch' : List ℕ) (r : Answer) : Type 0 where
  pub answer : r ≡ searched_of q (length scratch)
  pub scratch_left : WordsAfter (checks q (length scratch)) q scratch scratch'

-- the call's effect; the plan is only read
pub record BenchSearched (q : Question) (scratch scratch' figures' : List ℕ) (r : ℕ) : Type 0 where
  pub number : r ≡ answer_number (searched_of q (length scratch))
  pub scratch_left : WordsAfter (checks q (length scratch)) q scratch scratch'
  pub told : figures' ≡ figure_words (searched_of q (length scratch))

-- by whether the lengths are right; where one is wrong, 15, and everything stays
abbrev pub SearchEffect : Bool → Question → List ℕ → List ℕ → List ℕ → List ℕ → ℕ → Type 0
SearchEffect true q scratch scratch' figures figures' r = BenchSearched q scratch scratch' figures' r
SearchEffect false q scratch scratch' figures figures' r = Unexplained scratch scratch' figures figures' r
