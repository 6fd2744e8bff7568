-- The sum of the table: bounded, and raised by every layer that changes a word.
use Prim.Native.Nat.{ℕ, ◌+◌, ◌*◌, ◌/◌, ◌%◌, ◌≤◌, ◌<◌}
use mathlib.Core.Path.{◌≡◌, ◌∙◌}
use mathlib.Core.Logic.{◌⊎◌, inl, inr}
use mathlib.Core.List.{List}
use native.Mathlib.Omega.{arith}
use lib.ListN.{get_or}
use Rattle.plan.proofs.Truth.{split}
use Rattle.layout.specs.Layout.{arrival_at}
use Rattle.lists.specs.Lists.{sum_below}
use Rattle.lists.proofs.Sums.{sum_same, sum_bound, sum-least, sum-grows}
use Rattle.rows.specs.Words.{Kept}
use Rattle.costs.specs.Costs.{row_words}
use Rattle.table.specs.Problem.{budget_of}
use Rattle.table.specs.Layer.{Grew}
use Rattle.table.proofs.Views.{budget-at, budget-outside}
use Rattle.search.specs.Front.{total}

module _ (n : ℕ) (old new : List ℕ) where
  pub total_kept : Kept 0 (n * arrival_at) old new → total n new ≡ total n old
  unfolding total
  total_kept kept = sum_same (n * arrival_at) _ _ (λ i h. kept i (omega arith) h)

  -- a word of the table, as an entry
  entry : (words : List ℕ) (i : ℕ) → i < n * arrival_at → budget_of n words (i / row_words) (i % row_words) ≡ get_or words i 0
  entry words i h =
      let e : i / row_words * row_words + i % row_words ≡ i = omega arith in
      budget-at n words (i / row_words) (i % row_words) (omega arith) (omega arith) ∙ rw e

  pub total-least : ((c l : ℕ) → budget_of n old c l ≤ budget_of n new c l) → total n old ≤ total n new
  unfolding total
  total-least least = sum-least (n * arrival_at) _ _ (λ i h. omega (arith, entry old i h, entry new i h, least (i / row_words) (i % row_words)))

  pub total-grows : ((c l : ℕ) → budget_of n old c l ≤ budget_of n new c l) → (c : ℕ) → Grew n old new c → total n old < total n new
  unfolding total
  total-grows least c g = go (split row_words g.load) (split n c)
    where
      go : (row_words ≤ g.load) ⊎ (g.load < row_words) → (n ≤ c) ⊎ (c < n) → sum_below (n * arrival_at) (λ i. get_or old i 0) < sum_below (n * arrival_at) (λ i. get_or new i 0)
      go (inl k) q = absurd (omega (arith, g.more, budget-outside n new c g.load (λ a b. omega arith)))
      go (inr k) (inl q) = absurd (omega (arith, g.more, budget-outside n new c g.load (λ a b. omega arith)))
      go (inr k) (inr q) =
          sum-grows (n * arrival_at) (λ i. get_or old i 0) (λ i. get_or new i 0) (c * row_words + g.load)
          (λ i h. omega (arith, entry old i h, entry new i h, least (i / row_words) (i % row_words)))
          (omega arith)
          (omega (arith, g.more, budget-at n old c g.load q k, budget-at n new c g.load q k))

-- words of 16 bits, at most 65,536 of them: the sum is below 2³²
pub total-fits : (n : ℕ) (words : List ℕ) → n ≤ 1024 → ((i : ℕ) → get_or words i 0 < 65536) → total n words < 4294967296
unfolding total
total-fits n words few small = omega (arith, sum_bound (n * arrival_at) 65535 (λ i. get_or words i 0) (λ i h. omega (arith, small i)))
