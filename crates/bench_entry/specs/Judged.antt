-- The whole effect of the entry to the verdict: the number that it returns, and what it leaves in the words lent.
-- It rests on what no call can test: the areas lent are as long as the caller says, and lie apart from one another.
use Rattle.std.specs.Prelude.{ℕ, Bool, true, false, ◌≡◌, List}
use Rattle.answers.specs.Numbers.{verdict_number}
use Rattle.question.specs.Question.{Question}
use Rattle.verdict.specs.Verdict.{verdict_of}
use Rattle.bench_words.specs.Judged.{found_of, found_words}

-- the verdict's effect; plan and list are only read
pub record Judged (q : Question) (list found' : List ℕ) (r : ℕ) : Type 0 where
  pub number : r ≡ verdict_number (verdict_of q list)
  pub told : found' ≡ found_words (found_of (verdict_of q list))

-- a list of a wrong length: 15, and everything stays
pub record Unjudged (found found' : List ℕ) (r : ℕ) : Type 0 where
  pub number : r ≡ 15
  pub told : found' ≡ found

-- by whether the lengths are right
abbrev pub JudgeEffect : Bool → Question → List ℕ → List ℕ → List ℕ → ℕ → Type 0
JudgeEffect true q list found found' r = Judged q list found' r
JudgeEffect false q list found found' r = Unjudged found found' r
