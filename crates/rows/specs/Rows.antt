-- The row operations of the delay-budget table, as functions of the words at entry. A row is 64 words, one a load.
use Rattle.std.specs.Prelude.{ℕ, ◌+◌, ◌*◌, ◌-◌, ◌≤◌, ◌<◌, max, ◌≡◌, Bool, true, false, List, ltb, get_or}
use Rattle.budget.specs.Table.{only}
use Rattle.costs.specs.Costs.{row_words, cost_words, word_most}

-- the table's word for a cell and a load
abbrev pub view_of : List ℕ → ℕ → ℕ → ℕ
view_of words cell load = get_or words (cell * row_words + load) 0

-- what the costs at `base` leave of the cell's row
unfoldable pub copied : List ℕ → ℕ → List ℕ → ℕ → ℕ → ℕ
copied words cell costs base l = view_of words cell l - get_or costs (base + l) 0

-- the row at `at`, raised to what they leave of `top`
unfoldable pub raised : List ℕ → ℕ → ℕ → List ℕ → ℕ → ℕ → ℕ
raised words at top costs base l = max (get_or words (at + l) 0) (top - get_or costs (base + l) 0)

-- the word at load l of the row at `at`; 0 past the loads
unfoldable pub word_of : List ℕ → ℕ → ℕ → ℕ
word_of words at l = only (ltb l row_words) (get_or words (at + l) 0)

-- the row at `to`, raised to what they leave of the row at `from`, a step further on
unfoldable pub pushed : List ℕ → ℕ → ℕ → List ℕ → ℕ → ℕ → ℕ → ℕ
pushed words from to costs base step l =
    max (get_or words (to + l) 0) (word_of words from (l + step) - get_or costs (base + l) 0)

-- the costs of a step at `base`: past the row it costs all
pub record StepRow (costs : List ℕ) (base step : ℕ) : Type 0 where
  pub inside : base + row_words ≤ cost_words
  pub short : step ≤ row_words
  pub past : (l : ℕ) → l < row_words → row_words ≤ l + step → get_or costs (base + l) 0 ≡ word_most

-- some word of the row at `to` grows by the push
pub record RowGrows (from to : ℕ) (costs : List ℕ) (base step : ℕ) (words : List ℕ) : Type 0 where
  pub load : ℕ
  pub in_row : load < row_words
  pub more : get_or words (to + load) 0 < pushed words from to costs base step load

pub record Grows (from to : ℕ) (costs : List ℕ) (base step : ℕ) (words : List ℕ) (grows : Bool) : Type 0 where
  pub some : grows ≡ true → RowGrows from to costs base step words
  pub none : grows ≡ false → (l : ℕ) → l < row_words → pushed words from to costs base step l ≡ get_or words (to + l) 0
