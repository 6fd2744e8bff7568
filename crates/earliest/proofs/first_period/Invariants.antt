-- The loop keeps what holds between two turns; it ends where the source is reached within the period, no period is left, or no turn is.
use Prim.Native.Nat.{◌*◌}
use mathlib.Core.Path.{◌≡◌}
use lib.ListN.{length}
use Rattle.layout.specs.Layout.{cell_words}
use Rattle.rows.specs.Words.{KeptFrom}
use Rattle.earliest.specs.Earliest.{Passing}
use Rattle.earliest.proofs.first_period.Given as goal

abbrev pub invariant-loop-f : goal.invariant-loop-f
invariant-loop-f l = Passing l.p l.plan l.f.period l.scratch l.f.count × ((length l.scratch ≡ length l.initial.scratch) × KeptFrom (length l.plan * cell_words) l.initial.scratch l.scratch)

abbrev pub decreases-loop-f : goal.decreases-loop-f
decreases-loop-f l = l.left
