-- `queue::lift`: the invariant: the same states wait as at entry.
use Prim.Native.Nat.{◌<◌}
use Rattle.queue.specs.Queue.{Requeued}
use Rattle.queue.proofs.lift.Given as goal

abbrev pub invariant-loop-i : goal.invariant-loop-i
invariant-loop-i l = Requeued l.n l.count l.initial.scratch l.scratch × (l.i < l.count)

abbrev pub decreases-loop-i : goal.decreases-loop-i
decreases-loop-i l = l.i
