-- `reach::span::first_with`: the labels before `low` are too light, those from `high` on have enough weight; the order ascends.
use Prim.Native.Nat.{ℕ, ◌-◌, ◌<◌, ◌≤◌}
use mathlib.Core.List.{List}
use Rattle.reach.specs.Reach.{weight_at}
use Rattle.reach.proofs.span.first_with.Given as goal

pub record Between (n set : ℕ) (words : List ℕ) (count weight low high : ℕ) : Type 0 where
  pub ordered : low ≤ high
  pub within : high ≤ count
  pub lighter : (i : ℕ) → i < low → weight_at n set words i < weight
  pub enough : (i : ℕ) → high ≤ i → i < count → weight ≤ weight_at n set words i

abbrev pub invariant-loop-low : goal.invariant-loop-low
invariant-loop-low l = Between l.n l.set l.scratch l.count l.weight l.low l.high

abbrev pub decreases-loop-low : goal.decreases-loop-low
decreases-loop-low l = l.high - l.low
