-- The whole effect of the entry to the route call: the number that it returns, and what it leaves in the words lent.
-- It rests on what no call can test: the areas lent are as long as the caller says, and lie apart from one another.
use Rattle.std.specs.Prelude.{ℕ, Bool, true, false, ◌≡◌, List}
use Rattle.answers.specs.Numbers.{answer_number}
use Rattle.router.specs.Route.{Question, answer_of, scratch_of, visits_of}
use Rattle.bench_words.specs.Figures.{figure_words}

-- the route call's effect
pub record BenchAnswered (q : Question) (scratch scratch' visits visits' figures' : List ℕ) (r : ℕ) : Type 0 where
  pub number : r ≡ answer_number (answer_of q scratch visits)
  pub scratch_left : scratch' ≡ scratch_of q scratch
  pub visits_left : visits' ≡ visits_of q scratch visits
  pub told : figures' ≡ figure_words (answer_of q scratch visits)

-- a list of a wrong length: 15, and everything stays
pub record WrongLength (scratch scratch' visits visits' figures figures' : List ℕ) (r : ℕ) : Type 0 where
  pub number : r ≡ 15
  pub scratch_left : scratch' ≡ scratch
  pub visits_left : visits' ≡ visits
  pub told : figures' ≡ figures

-- by whether the lengths are right
abbrev pub BenchEffect : Bool → Question → List ℕ → List ℕ → List ℕ → List ℕ → List ℕ → List ℕ → ℕ → Type 0
BenchEffect true q scratch scratch' visits visits' figures figures' r = BenchAnswered q scratch scratch' visits visits' figures' r
BenchEffect false q scratch scratch' visits visits' figures figures' r = WrongLength scratch scratch' visits visits' figures figures' r
