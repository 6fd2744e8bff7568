-- `emission::emit` meets its contract: the loop keeps `Emitting`, by proofs/Visits.
use Prim.Native.Nat.{ℕ}
use mathlib.Core.Path.{◌≡◌}
use mathlib.Core.List.{List}
use lib.ListN.{length, set}
use Rattle.rules.specs.Rules.{register_code}
use Rattle.table.specs.Problem.{net_rules}
use Rattle.emission.specs.Emission.{Emitting}
use Rattle.emission.proofs.emit.Given as goal

abbrev pub invariant-loop-at : goal.invariant-loop-at
invariant-loop-at l =
    (v : List ℕ) → l.initial.visits ≡ set (set v 0 l.net.problem.sink) 1 register_code →
    Emitting (net_rules l.net l.plan) (length l.plan) l.weight l.steps l.aside l.initial.scratch l.scratch v l.visits l.at l.layers l.i l.left l.tally

abbrev pub decreases-loop-at : goal.decreases-loop-at
decreases-loop-at l = l.at.steps
