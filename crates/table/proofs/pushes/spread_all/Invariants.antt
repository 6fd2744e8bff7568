-- `table::pushes::spread_all` meets its contract: after i turns the first i cells of the list have given.
use Rattle.std.proofs.Common.{length}
use Rattle.table.specs.Problem.{net_rules}
use Rattle.table.specs.Layer.{SpreadAll}
use Rattle.table.proofs.pushes.spread_all.Given as goal

abbrev pub invariant-loop-i : goal.invariant-loop-i
invariant-loop-i l =
    SpreadAll (net_rules l.net l.plan) (length l.plan) l.top l.i l.initial.next.trail l.initial.scratch l.scratch l.next
