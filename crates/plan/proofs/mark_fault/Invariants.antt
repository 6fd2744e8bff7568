-- The loop has met no invalid mark below `cell`.
use Rattle.std.proofs.Common.{◌≡◌, false}
use Rattle.plan.specs.Plan.{plan_of}
use Rattle.plan.specs.Check.{invalid_below}
use Rattle.plan.proofs.mark_fault.Given as goal

abbrev pub invariant-loop-cell : goal.invariant-loop-cell
invariant-loop-cell l = invalid_below (plan_of l.width l.height l.plan) l.cell ≡ false
