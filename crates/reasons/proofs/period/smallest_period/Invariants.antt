-- The loop keeps: no route at `low`, one at `high`. Where they are neighbours, `high` is the smallest.
use Prim.Native.Nat.{◌*◌, ◌-◌, ◌<◌, ◌≤◌}
use mathlib.Core.Bool.{true, false}
use mathlib.Core.Path.{◌≡◌}
use lib.ListN.{length}
use Rattle.timing.specs.Ranges.{period_min, period_max}
use Rattle.rows.specs.Words.{KeptFrom}
use Rattle.router.specs.Route.{cell_words}
use Rattle.reasons.specs.Probe.{routed_for}
use Rattle.reasons.proofs.period.smallest_period.Given as goal

abbrev pub invariant-loop-low : goal.invariant-loop-low
invariant-loop-low l =
    ((period_min ≤ l.low) × ((l.low < l.high) × (l.high ≤ period_max)))
    × (((routed_for l.p l.plan l.low ≡ false) × (routed_for l.p l.plan l.high ≡ true))
    × ((length l.scratch ≡ length l.initial.scratch) × KeptFrom (length l.plan * cell_words) l.initial.scratch l.scratch))

abbrev pub decreases-loop-low : goal.decreases-loop-low
decreases-loop-low l = l.high - l.low
