-- `queue::join`: a state that waits only moves; any other takes the place after the last, for which there is room.
use Prim.Native.Nat.{◌+◌, ◌*◌, ◌<◌}
use native.Mathlib.Omega.{arith}
use lib.ListN.{length-set}
use Rattle.costs.specs.Costs.{row_words}
use Rattle.queue.specs.Queue.{Waits, Joined}
use Rattle.queue.proofs.Queue.{stored, space-kept, queue-room, queue-room-for, joined-waiting, joined-new, joined-then}
use Rattle.queue.proofs.join.Goals as goal
use Rattle.queue.proofs.join.Goals.{Joined-else-place-count, else-place-count-via-else-place-count, else-place-count-via-then-place-count+else-scratch-n}

pub overflow_add-n : goal.overflow_add-n
overflow_add-n c = omega (arith, queue-room c.requires.1.0)

pub offset_bounds-scratch-n-then-place-count : goal.offset_bounds-scratch-n-then-place-count
offset_bounds-scratch-n-then-place-count c = omega (arith, queue-room c.requires.1.0)

pub bounds-scratch-n-then-place-count : goal.bounds-scratch-n-then-place-count
bounds-scratch-n-then-place-count c = omega (arith, queue-room c.requires.1.0)

pub overflow_cast-scratch : goal.overflow_cast-scratch
overflow_cast-scratch c = omega (arith, c.requires.1.0.states _ c.if-place-count.true)

pub lift-requires : goal.lift-requires
lift-requires c = (c.requires.0, (c.requires.1.0, c.if-place-count.true))

pub returns-then-scratch-n : goal.returns-then-scratch-n
returns-then-scratch-n c = joined-waiting (omega arith) (record { early = c.if-place-count.true; holds = c.if-scratch-n.true }) c.lift.ensures

-- the state does not wait, and there is room for it
absent : (c : Joined-else-place-count) → Waits c.args.n c.args.scratch.now c.args.count c.args.state → ⊥
absent c w = elim c.else-place-count.branch [ else-place-count-via-then-place-count+else-scratch-n p ↦ p.if-scratch-n.false w.holds | else-place-count-via-else-place-count p ↦ omega arith ]

short : (c : Joined-else-place-count) → c.args.count < c.args.n * row_words
short c = queue-room-for c.requires.1.0 _ (omega arith) (absent c)

joined : (c : Joined-else-place-count) → Joined c.args.n c.args.count c.args.state c.args.scratch.now (stored c.args.n c.args.count c.args.state c.args.scratch.now) (c.args.count + 1)
joined c = joined-new c.requires.0 c.requires.1.0 (omega arith) (absent c)

pub overflow_add-scratch : goal.overflow_add-scratch
overflow_add-scratch c = omega (arith, short c)

pub offset_bounds-scratch-n-2 : goal.offset_bounds-scratch-n-2
offset_bounds-scratch-n-2 c = omega (arith, short c)

pub bounds-scratch-n-2 : goal.bounds-scratch-n-2
bounds-scratch-n-2 c = omega (arith, short c)

pub overflow_cast-scratch-3 : goal.overflow_cast-scratch-3
overflow_cast-scratch-3 c = omega (arith, short c)

pub bounds-scratch-n-3 : goal.bounds-scratch-n-3
bounds-scratch-n-3 c = simp length-set (omega (arith, short c))

pub overflow_add-count : goal.overflow_add-count
overflow_add-count c = omega (arith, short (goal.at.overflow_add-count c).Joined-else-place-count)

pub lift-requires-2 : goal.lift-requires-2
lift-requires-2 c = (space-kept c.requires.0 (joined (goal.at.lift-requires-2 c).Joined-else-place-count).aside, ((joined (goal.at.lift-requires-2 c).Joined-else-place-count).queue, omega arith))

pub overflow_add-result : goal.overflow_add-result
overflow_add-result c = omega (arith, short (goal.at.overflow_add-result c).Joined-else-place-count)

pub shape_of-scratch : goal.shape_of-scratch
shape_of-scratch c = omega (arith, (joined (goal.at.shape_of-scratch c).Joined-else-place-count).aside.same)

pub returns : goal.returns
returns c = joined-then (omega arith) (joined (goal.at.returns c).Joined-else-place-count) c.lift-2.ensures
