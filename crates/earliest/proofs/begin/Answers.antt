-- The words are filled, then the span at the sink starts.
use mathlib.Core.Path.{◌∙◌}
use Rattle.earliest.proofs.Parts.{ground-start, filled-ground, begun}
use Rattle.earliest.proofs.begin.Goals as goal

pub start-requires : goal.start-requires
start-requires c =
    ground-start _ _ (filled-ground _ _ c.requires.0 c.requires.1.0 c.requires.1.1 c.fill_never.ensures c.fill_never-2.ensures) _ c.requires.0.sink

pub shape_of-scratch : goal.shape_of-scratch
shape_of-scratch c =
    c.start.ensures.same ∙ (c.fill_never-2.ensures.same ∙ c.fill_never.ensures.same)

pub returns : goal.returns
returns c =
    begun _ _ c.requires.0 c.requires.1.0 c.requires.1.1 c.fill_never.ensures c.fill_never-2.ensures c.start.ensures
