-- `queue::leave`: the first state goes to the last place, which is then no place of the queue.
use Prim.Native.Nat.{ℕ, ◌*◌}
use mathlib.Core.Path.{ap}
use native.Mathlib.Omega.{arith}
use lib.ListN.{get_or}
use Rattle.layout.specs.Layout.{queue_at}
use Rattle.queue.specs.Queue.{Left}
use Rattle.queue.proofs.Queue.{space-kept, requeued-self, two-slots, left-last, left-then}
use Rattle.queue.proofs.leave.Goals as goal
use Rattle.queue.proofs.leave.Goals.{After-exchange}

pub bounds-scratch-n : goal.bounds-scratch-n
bounds-scratch-n c = omega (arith, c.requires.1.0.states 0 (omega arith))

pub exchange-requires : goal.exchange-requires
exchange-requires c = two-slots (requeued-self c.requires.1.0) _ _ (omega arith) (omega arith) c.requires.0

-- after the exchange
left : (c : After-exchange) → Left c.args.n c.args.count c.args.scratch.now c.exchange.new.scratch (get_or c.args.scratch.now (c.args.n * queue_at) 0)
left c = left-last c.requires.1.0 (omega arith) (ap (λ (k : ℕ). get_or c.args.scratch.now k 0) (omega arith)) c.exchange.ensures

pub sift-requires : goal.sift-requires
sift-requires c = (space-kept c.requires.0 (left (goal.at.sift-requires c).After-exchange).aside, (left (goal.at.sift-requires c).After-exchange).queue)

pub returns : goal.returns
returns c = left-then (left (goal.at.returns c).After-exchange) c.sift.ensures
