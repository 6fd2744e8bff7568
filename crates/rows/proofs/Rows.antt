-- The laws of `pushed`: what the costs leave of the word that is read, and what the largest growth says of the row. One row written leaves the others.
use Rattle.std.proofs.Common.{ℕ, ◌+◌, ◌-◌, ◌*◌, ◌≤◌, ◌<◌, max, ◌≡◌, ◌⊎◌, inl, inr, List, arith, lt-ltb, le-ltb, ltb, get_or}
use Rattle.plan.proofs.Truth.{split}
use Rattle.budget.specs.Table.{only, max_below}
use Rattle.budget.proofs.Max.{below-max, max_none}
use Rattle.costs.specs.Costs.{row_words, word_most}
use Rattle.rows.specs.Words.{Filled}
use Rattle.rows.specs.Rows.{view_of, word_of, pushed, StepRow, RowGrows}

module _ (words : List ℕ) (from to : ℕ) (costs : List ℕ) (base step : ℕ) where
  -- the word at load l, with the word that is read
  pub pushed-is : StepRow costs base step → (l : ℕ) → l < row_words → get_or words (from + (l + step)) 0 ≤ word_most → pushed words from to costs base step l ≡ max (get_or words (to + l) 0) (get_or words (from + (l + step)) 0 - get_or costs (base + l) 0)
  unfolding pushed word_of only
  pushed-is row l k h = go (split row_words (l + step))
    where
      go : (row_words ≤ l + step) ⊎ (l + step < row_words) → max (get_or words (to + l) 0) (only (ltb (l + step) row_words) (get_or words (from + (l + step)) 0) - get_or costs (base + l) 0) ≡ max (get_or words (to + l) 0) (get_or words (from + (l + step)) 0 - get_or costs (base + l) 0)
      go (inl m) = simp (le-ltb (l + step) row_words m) (omega (arith, row.past l k m))
      go (inr m) = simp (lt-ltb (l + step) row_words m)

  -- by how much it grows
  unfoldable pub growth : ℕ → ℕ
  growth l = pushed words from to costs base step l - get_or words (to + l) 0

  pub growth-is : StepRow costs base step → (l : ℕ) → l < row_words → get_or words (from + (l + step)) 0 ≤ word_most → growth l ≡ get_or words (from + (l + step)) 0 - get_or costs (base + l) 0 - get_or words (to + l) 0
  unfolding growth
  growth-is row l k h = omega (arith, pushed-is row l k h)

  pub row-grows : 0 < max_below row_words growth → RowGrows from to costs base step words
  unfolding growth
  row-grows h =
      let w = below-max row_words growth 0 h in
      record { load = w.at; in_row = w.below; more = omega (arith, w.above) }

  pub row_stays : max_below row_words growth ≡ 0 → (l : ℕ) → l < row_words → pushed words from to costs base step l ≡ get_or words (to + l) 0
  unfolding growth pushed
  row_stays e l h = omega (arith, max_none row_words growth e l h)

-- one cell's row is filled: another cell's lies before or after it
pub row-elsewhere : {F : ℕ → ℕ} {cell : ℕ} {old new : List ℕ} → Filled F (cell * row_words) row_words old new → (c l : ℕ) → l < row_words → (c ≡ cell → ⊥) → view_of new c l ≡ view_of old c l
row-elsewhere {cell = cell} {old} {new} f c l k q = go (split cell c)
  where
    go : (cell ≤ c) ⊎ (c < cell) → view_of new c l ≡ view_of old c l
    go (inl h) = f.high (c * row_words + l) (omega arith)
    go (inr h) = f.low (c * row_words + l) (omega arith)
