-- The route that was written is the best one, whatever its cost is made of.
use Prim.Native.Nat.{ℕ, ◌<◌}
use mathlib.Core.Path.{◌≡◌}
use Rattle.rules.specs.Rules.{Rules}
use Rattle.rules.specs.Legal.{Route}
use Rattle.rules.specs.Ranking.{IsBest}
use Rattle.rules.proofs.Order.{best-unique}
use Rattle.budget.specs.Done.{Least}
use Rattle.budget.specs.Emission.{FirstEnding}
use Rattle.budget.proofs.Best.{Costs, best-found}
use Rattle.emission.specs.Emission.{from_sink}

pub made-best : {R : Rules} {w s : ℕ} {made : Route} → FirstEnding R 0 w s R.sink R.start.load R.start.delay made → Least R 0 w s R.sink R.start.load R.start.delay → R.sink < R.cell_count → (cost : Route → ℕ) (less : ℕ) → Costs R cost less → (r : Route) → IsBest cost R r → from_sink R made ≡ r
made-best {R} {w} {s} {made} first least in_plan cost less costs r b =
    best-unique cost R (from_sink R made) r (best-found R cost less costs w s least made first in_plan) b
