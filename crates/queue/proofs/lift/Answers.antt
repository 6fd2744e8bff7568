use native.Mathlib.Omega.{arith}
use Rattle.queue.proofs.Queue.{requeued-self, two-slots, requeued-more}
use Rattle.queue.proofs.lift.Goals as goal

pub loop-i-init : goal.loop-i-init
loop-i-init c = (requeued-self c.requires.1.0, omega arith)

pub earlier-requires : goal.earlier-requires
earlier-requires c = two-slots c.loop-i.invariant.0 _ _ (omega arith) (omega arith) c.requires.0

pub returns-then-not-earlier : goal.returns-then-not-earlier
returns-then-not-earlier c = c.loop-i.invariant.0

pub exchange-requires : goal.exchange-requires
exchange-requires c = two-slots c.loop-i.invariant.0 _ _ (omega arith) (omega arith) c.requires.0

pub loop-i-preserved : goal.loop-i-preserved
loop-i-preserved c = (requeued-more c.loop-i.invariant.0 _ _ (omega arith) (omega arith) c.exchange.ensures, omega arith)

pub returns : goal.returns
returns c = c.loop-i.invariant.0
