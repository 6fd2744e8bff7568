-- `search::loops::search` meets its contract: every turn of the loop starts at a front; the sum of the table plus the places in the orders grows.
use Prim.Native.Nat.{◌+◌, ◌-◌}
use mathlib.Core.Path.{◌≡◌}
use lib.ListN.{length}
use Rattle.table.specs.Problem.{net_rules}
use Rattle.search.specs.Front.{total}
use Rattle.search.specs.Turn.{FrontOf, Beyond}
use Rattle.search.proofs.loops.search.Given as goal

abbrev pub invariant-loop-reached : goal.invariant-loop-reached
invariant-loop-reached l =
    FrontOf (net_rules l.net l.plan) (length l.plan) l.side l.exits l.scratch l.f × ((length l.scratch ≡ length l.initial.scratch) × Beyond (length l.plan) l.side l.initial.scratch l.scratch)

abbrev pub decreases-loop-reached : goal.decreases-loop-reached
decreases-loop-reached l = 4294969345 - (total (length l.plan) l.scratch + l.f.at + l.f.exit)
