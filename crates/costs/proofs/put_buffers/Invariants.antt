-- The rows of the first i buffers are put.
use Rattle.costs.specs.Costs.{BuffersPut}
use Rattle.costs.proofs.put_buffers.Given as goal

abbrev pub invariant-loop-i : goal.invariant-loop-i
invariant-loop-i l = BuffersPut l.e l.i l.initial.all l.all
