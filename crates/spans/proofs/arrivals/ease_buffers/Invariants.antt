-- After i buffers the words are `Driven` by the first i.
use Rattle.std.proofs.Common.{◌≡◌, true, get_or}
use Rattle.table.specs.ArrivalRow.{takes_buffers}
use Rattle.spans.specs.Arrive.{ArriveAsks}
use Rattle.spans.proofs.Buffers.{Driven}
use Rattle.spans.proofs.arrivals.ease_buffers.Given as goal

abbrev pub invariant-loop-i : goal.invariant-loop-i
invariant-loop-i l =
    (asks : ArriveAsks l.p l.plan l.period l.initial.scratch l.count l.cell l.load.0 l.delay.0) → takes_buffers (get_or l.plan l.cell 0) l.p l.cell ≡ true → Driven l.p l.plan l.period l.initial.scratch l.count l.cell l.load.0 l.delay.0 asks l.scratch l.waiting l.i
