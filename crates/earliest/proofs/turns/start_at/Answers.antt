-- A span that closes within the period opens the next one at its cell.
use native.Mathlib.Omega.{arith}
use Rattle.earliest.proofs.Parts.{ground-start, started-one}
use Rattle.earliest.proofs.turns.start_at.Goals as goal

pub start-requires : goal.start-requires
start-requires c = ground-start _ _ c.requires.0.ground _ c.requires.1

pub shape_of-scratch : goal.shape_of-scratch
shape_of-scratch c = c.start.ensures.same

pub returns : goal.returns
returns c =
    started-one _ _ c.requires.0 _ c.requires.1 (λ h. omega arith) (omega arith) c.start.ensures
