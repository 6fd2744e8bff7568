-- Where something waits, its first place holds a state.
use native.Mathlib.Omega.{arith}
use Rattle.queue.proofs.Queue.{queue-slot}
use Rattle.earliest.proofs.Parts.{lines-space}
use Rattle.earliest.proofs.turns.is_early.Goals as goal

pub delay_at-requires : goal.delay_at-requires
delay_at-requires c = (lines-space c.requires.0, queue-slot c.requires.1 0 (omega arith))

pub bounds-scratch-n : goal.bounds-scratch-n
bounds-scratch-n c = omega (arith, c.requires.0.room, c.requires.1.states 0 (omega arith))
