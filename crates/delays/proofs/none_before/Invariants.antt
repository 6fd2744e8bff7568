-- What waits at the places before i is not earlier than the close, or idle.
use Rattle.delays.specs.Delays.{NoneBefore}
use Rattle.delays.proofs.none_before.Given as goal

abbrev pub invariant-loop-i : goal.invariant-loop-i
invariant-loop-i l = NoneBefore l.n l.scratch l.i l.close
