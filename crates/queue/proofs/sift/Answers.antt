use Prim.Native.Nat.{◌<◌}
use native.Mathlib.Omega.{arith}
use Rattle.queue.proofs.Queue.{queue-room, requeued-self, two-slots, requeued-more}
use Rattle.queue.proofs.sift.Goals as goal
use Rattle.queue.proofs.sift.Goals.{Joined-below-count, then-below-count+then-earlier, else-below-count}

pub loop-i-init : goal.loop-i-init
loop-i-init c = (requeued-self c.requires.1, omega arith)

pub overflow_mul-i : goal.overflow_mul-i
overflow_mul-i c = omega (arith, queue-room c.requires.1)

pub overflow_add-i : goal.overflow_add-i
overflow_add-i c = omega (arith, queue-room c.requires.1)

pub earlier-requires : goal.earlier-requires
earlier-requires c = two-slots c.loop-i.invariant.0 _ _ (omega arith) (omega arith) c.requires.0

-- the place below
between : (c : Joined-below-count) → (c.loop-i.i < c.if-below-count.below) × (c.if-below-count.below < c.args.count)
between c = elim c.if-below-count.branch [ then-below-count+then-earlier p ↦ (omega arith, omega arith) | else-below-count p ↦ (omega arith, omega arith) ]

pub earlier-requires-in-loop-i : goal.earlier-requires-in-loop-i
earlier-requires-in-loop-i c = two-slots c.loop-i.invariant.0 _ _ (between c).1 (omega (arith, between c)) c.requires.0

pub returns-then-not-earlier : goal.returns-then-not-earlier
returns-then-not-earlier c = c.loop-i.invariant.0

pub exchange-requires : goal.exchange-requires
exchange-requires c = two-slots c.loop-i.invariant.0 _ _ (omega (arith, between (goal.at.exchange-requires c).Joined-below-count)) (between (goal.at.exchange-requires c).Joined-below-count).1 c.requires.0

pub loop-i-smaller : goal.loop-i-smaller
loop-i-smaller c = omega (arith, between (goal.at.loop-i-smaller c).Joined-below-count)

pub loop-i-preserved : goal.loop-i-preserved
loop-i-preserved c = (
  requeued-more c.loop-i.invariant.0 _ _ (omega (arith, between (goal.at.loop-i-preserved c).Joined-below-count)) (between (goal.at.loop-i-preserved c).Joined-below-count).1 c.exchange.ensures,
  omega (arith, between (goal.at.loop-i-preserved c).Joined-below-count),
)

pub returns : goal.returns
returns c = c.loop-i.invariant.0
