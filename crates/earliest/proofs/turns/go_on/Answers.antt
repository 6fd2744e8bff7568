-- The state that left the queue has gone on, or a lighter one makes it idle.
use mathlib.Core.Path.{◌∙◌}
use Rattle.earliest.proofs.Parts.{lines-space, ground-lines, left-asks, gone-on}
use Rattle.earliest.proofs.turns.go_on.Goals as goal

pub leave-state-requires : goal.leave-state-requires
leave-state-requires c = (lines-space (ground-lines _ _ c.requires.0.ground), (c.requires.0.ground.queue, c.requires.1))

pub spread-count-requires : goal.spread-count-requires
spread-count-requires c = left-asks _ _ c.requires.0 c.requires.1 c.leave-state.ensures

pub shape_of-scratch : goal.shape_of-scratch
shape_of-scratch c = c.spread-count.ensures.0.same ∙ c.leave-state.ensures.aside.same

pub returns : goal.returns
returns c =
    gone-on _ _ c.requires.0 c.requires.1 c.leave-state.ensures c.spread-count.ensures.0 c.spread-count.ensures.1
