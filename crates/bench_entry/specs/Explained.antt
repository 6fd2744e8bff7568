-- The whole effect of the entry to the reasons: the number that it returns, and what it leaves in the words lent.
-- It rests on what no call can test: the areas lent are as long as the caller says, and lie apart from one another.
use Rattle.std.specs.Prelude.{ℕ, Bool, true, false, ◌≡◌, List, length}
use Rattle.answers.specs.Numbers.{explained_number}
use Rattle.question.specs.Question.{Question}
use Rattle.router.specs.Route.{scratch_of}
use Rattle.reasons.specs.Reasons.{explained_of}
use Rattle.bench_words.specs.Explained.{why_of, why_words}

-- the call's effect; the plan is only read
pub record BenchExplained (q : Question) (scratch scratch' told' : List ℕ) (r : ℕ) : Type 0 where
  pub number : r ≡ explained_number (explained_of q (length scratch))
  pub scratch_left : scratch' ≡ scratch_of q scratch
  pub told_left : told' ≡ why_words (why_of (explained_of q (length scratch)))

-- a list of a wrong length: 15, and everything stays
pub record Unexplained (scratch scratch' told told' : List ℕ) (r : ℕ) : Type 0 where
  pub number : r ≡ 15
  pub scratch_left : scratch' ≡ scratch
  pub told_left : told' ≡ told

-- by whether the lengths are right
abbrev pub ExplainEffect : Bool → Question → List ℕ → List ℕ → List ℕ → List ℕ → ℕ → Type 0
ExplainEffect true q scratch scratch' told told' r = BenchExplained q scratch scratch' told' r
ExplainEffect false q scratch scratch' told told' r = Unexplained scratch scratch' told told' r
