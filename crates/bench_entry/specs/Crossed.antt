-- The whole effect of the entry to the route call between two clocks: the number that it returns, and what it leaves in the words lent.
-- It rests on what no call can test: the areas lent are as long as the caller says, and lie apart from one another.
use Rattle.std.specs.Prelude.{ℕ, Bool, true, false, ◌≡◌, List}
use Rattle.answers.specs.Numbers.{crossing_number}
use Rattle.job.specs.Fields.{tables_of}
use Rattle.crossing_router.specs.Route.{CrossingQuestion, crossing_of, crossing_answer_of, crossing_scratch_of, crossing_visits_of}
use Rattle.bench_words.specs.Words.{buffers_in}
use Rattle.bench_words.specs.Crossed.{crossing_in, crossed_figures}
use Rattle.bench_entry.specs.Effect.{WrongLength}

-- the question that numbers and words make; T among the tables' words is the sink's
unfoldable pub bench_crossing : List ℕ → ℕ → ℕ → List ℕ → List ℕ → List ℕ → ℕ → ℕ → CrossingQuestion
bench_crossing marks w h tables clocks buffers a b = crossing_of marks w h (tables_of tables) (crossing_in clocks) (buffers_in buffers) a b

-- the call's effect; the plan is only read
pub record BenchCrossed (q : CrossingQuestion) (scratch scratch' visits visits' figures' : List ℕ) (r : ℕ) : Type 0 where
  pub number : r ≡ crossing_number (crossing_answer_of q scratch visits)
  pub scratch_left : scratch' ≡ crossing_scratch_of q scratch
  pub visits_left : visits' ≡ crossing_visits_of q scratch visits
  pub told : figures' ≡ crossed_figures (crossing_answer_of q scratch visits)

-- by whether the lengths are right; where one is wrong, 15, and everything stays
abbrev pub CrossingEffect : Bool → CrossingQuestion → List ℕ → List ℕ → List ℕ → List ℕ → List ℕ → List ℕ → ℕ → Type 0
CrossingEffect true q scratch scratch' visits visits' figures figures' r = BenchCrossed q scratch scratch' visits visits' figures' r
CrossingEffect false q scratch scratch' visits visits' figures figures' r = WrongLength scratch scratch' visits visits' figures figures' r
