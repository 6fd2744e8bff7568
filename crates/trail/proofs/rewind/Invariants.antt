-- `trail::rewind`: the entries that are left are older; once the newest is not above the layer, none is.
use Rattle.std.proofs.Common.{ℕ, ◌*◌, ◌≤◌, ◌≡◌, List, length}
use Rattle.budget.specs.Table.{Table}
use Rattle.layout.specs.Layout.{arrival_at}
use Rattle.rows.specs.Words.{KeptFrom}
use Rattle.trail.specs.declared.Trail.{Trail}
use Rattle.trail.specs.Trail.{Sound, History}
use Rattle.trail.proofs.rewind.Given as goal

pub record Rewinding (n layer : ℕ) (old : List ℕ) (t : Trail) (new : List ℕ) (r : Trail) : Type 0 where
  pub same : length new ≡ length old
  pub kept : KeptFrom (n * arrival_at) old new
  pub sound : Sound n new r
  pub lowest : r.low ≡ t.low
  pub history : (u : ℕ) (Z : ℕ → Table) → layer ≤ u → History n old t u Z → History n new r layer Z

abbrev pub invariant-loop-left : goal.invariant-loop-left
invariant-loop-left l = Rewinding l.n l.layer l.initial.scratch l.initial.left l.scratch l.left

abbrev pub decreases-loop-left : goal.decreases-loop-left
decreases-loop-left l = l.left.count
