-- A state goes on, with or without a new hint, or the period goes up.
use Rattle.earliest.specs.Earliest.{on}
use Rattle.earliest.proofs.Parts.{lines-space, ground-lines, hint-passing, hint-then}
use Rattle.queue.proofs.Queue.{queue-slot}
use Rattle.earliest.proofs.turns.take_turn.Goals as goal

pub is_early-requires : goal.is_early-requires
is_early-requires c = (ground-lines _ _ c.requires.0.ground, c.requires.0.ground.queue)

pub go_on-requires : goal.go_on-requires
go_on-requires c = (c.requires.0, c.is_early.ensures c.if-is_early.true)

pub shape_of-scratch-then-is_early : goal.shape_of-scratch-then-is_early
shape_of-scratch-then-is_early c = c.go_on.ensures.same

pub returns-then-is_early : goal.returns-then-is_early
returns-then-is_early c = on c.go_on.ensures

pub next_close-close-requires : goal.next_close-close-requires
next_close-close-requires c = ground-lines _ _ c.requires.0.ground

pub goes_first-requires : goal.goes_first-requires
goes_first-requires c = (ground-lines _ _ c.requires.0.ground, c.requires.0.ground.queue)

pub delay_at-first-requires : goal.delay_at-first-requires
delay_at-first-requires c =
    (lines-space (ground-lines _ _ c.requires.0.ground), queue-slot c.requires.0.ground.queue 0 (c.goes_first.ensures.0 c.if-goes_first.true))

pub go_on-requires-then-goes_first : goal.go_on-requires-then-goes_first
go_on-requires-then-goes_first c =
    (hint-passing _ _ c.requires.0 _, c.goes_first.ensures.0 c.if-goes_first.true)

pub shape_of-scratch-then-goes_first : goal.shape_of-scratch-then-goes_first
shape_of-scratch-then-goes_first c =
    (hint-then _ _ c.requires.0 _ c.go_on-then-goes_first.ensures).same

pub returns-then-goes_first : goal.returns-then-goes_first
returns-then-goes_first c =
    on (hint-then _ _ c.requires.0 _ c.go_on-then-goes_first.ensures)

pub rise-requires : goal.rise-requires
rise-requires c =
    record { passing = c.requires.0; far = c.requires.1; next = c.next_close-close.ensures; none = c.goes_first.ensures.1 c.if-goes_first.false }
