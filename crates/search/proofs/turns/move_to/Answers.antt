-- The label at this place.
use mathlib.Core.Path.{refl}
use native.Mathlib.Omega.{arith}
use Rattle.labels.proofs.Labels.{known-word}
use Rattle.search.specs.Turn.{moved_to}
use Rattle.search.proofs.turns.move_to.Goals as goal

pub overflow_mul-first : goal.overflow_mul-first
overflow_mul-first c = omega (arith, c.requires.set_in.small)

pub overflow_add-first : goal.overflow_add-first
overflow_add-first c = omega (arith, c.requires.set_in.small, c.requires.set_in.low)

pub overflow_add-first-2 : goal.overflow_add-first-2
overflow_add-first-2 c = omega (arith, c.requires.set_in.small, c.requires.set_in.low, c.requires.within)

pub offset_bounds-scratch-set : goal.offset_bounds-scratch-set
offset_bounds-scratch-set c = omega (arith, c.requires.set_in.small, c.requires.set_in.low, c.requires.within)

pub bounds-scratch-set : goal.bounds-scratch-set
bounds-scratch-set c = let p = c.requires in omega (arith, p.set_in.room, p.within)

pub overflow_cast-first : goal.overflow_cast-first
overflow_cast-first c = let p = c.requires in omega (arith, p.cell, p.set_in.small)

pub weight_word-requires : goal.weight_word-requires
weight_word-requires c = let p = c.requires in (p.set_in, p.cell)

pub overflow_sub-result : goal.overflow_sub-result
overflow_sub-result c = omega (arith, c.weight_word.ensures, known-word _ _ _ _ c.requires.known)

pub steps_of-requires : goal.steps_of-requires
steps_of-requires c = let p = c.requires in (p.set_in, p.cell)

pub returns : goal.returns
unfolding moved_to
returns c = rw (c.steps_of.ensures, c.weight_word.ensures) refl
