use Rattle.std.proofs.Common.{◌≡◌, arith}
use Rattle.std.proofs.lemmas.Grind.{common_steps}
use Rattle.queue.specs.Queue.{Slot}
use Rattle.queue.proofs.Queue.{queue-slot}
use Rattle.delays.proofs.Idles.{none-next}
use Rattle.delays.proofs.none_before.Goals as goal
use Rattle.delays.proofs.none_before.Goals.{In-loop-i}

-- the place that is looked at
slot : (c : In-loop-i) → let a = c.args in Slot a.n a.scratch.now c.loop-i.i
slot c = queue-slot c.requires.1 _ (omega arith)

pub loop-i-init : goal.loop-i-init
loop-i-init c = λ i h. absurd (omega arith)

pub bounds-scratch-n : goal.bounds-scratch-n
bounds-scratch-n c = omega (arith, (slot (goal.at.bounds-scratch-n c).In-loop-i).place)

pub loop-i-preserved : goal.loop-i-preserved
loop-i-preserved c =
    let loop = c.loop-i in
    let a = c.args in
    none-next a.n a.scratch.now loop.i a.close loop.invariant (grind (arith, common_steps))

pub returns : goal.returns
returns c =
    let end : c.loop-i.i ≡ c.args.count = omega arith in
    λ e. rw end at c.loop-i.invariant
