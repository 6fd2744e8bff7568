-- `trail::place`: the two cases of `place_in`; a slot of the ring is below 3,072.
use Rattle.std.proofs.Common.{◌*◌, ◌-◌, ◌≤◌, ◌<◌, arith, le-leb}
use borrow.Author.Tests.{lt-leb}
use Rattle.layout.specs.Layout.{labels_at, slot_words}
use Rattle.trail.specs.Trail.{place_in}
use Rattle.trail.proofs.Slots.{PlaceIn, slot-below, slots-few, place_view}
use Rattle.trail.proofs.place.Goals as goal
use Rattle.trail.proofs.place.Goals.{After-slot-at}

pub slot-at-requires : goal.slot-at-requires
slot-at-requires c = (c.requires.0, (omega (arith, slots-few c.args.n), omega arith))

-- the slot is in the ring
below : (c : After-slot-at) → (c.slot-at.result < c.args.trail.room) × (c.args.trail.room ≤ 3072)
below c =
    (omega (arith, c.slot-at.ensures, slot-below c.args.trail c.requires.0 c.args.i c.requires.1.1.1), omega (arith, slots-few c.args.n))

pub overflow_mul-at : goal.overflow_mul-at
overflow_mul-at c = omega (arith, below c)

pub overflow_add-at : goal.overflow_add-at
overflow_add-at c = omega (arith, below c)

pub overflow_sub-result : goal.overflow_sub-result
overflow_sub-result c = omega (arith, below (goal.at.overflow_sub-result c).After-slot-at)

pub overflow_mul-result-else-at-n-2 : goal.overflow_mul-result-else-at-n-2
overflow_mul-result-else-at-n-2 c = omega (arith, below (goal.at.overflow_mul-result-else-at-n-2 c).After-slot-at)

pub overflow_sub-result-else-at-n : goal.overflow_sub-result-else-at-n
overflow_sub-result-else-at-n c =
    fits (place_view c.args.n c.args.trail.room c.requires.1.0 c.slot-at.result (below (goal.at.overflow_sub-result-else-at-n c).After-slot-at).0)
  where
    fits : PlaceIn c.args.n c.args.trail.room c.slot-at.result → (c.args.trail.room - c.slot-at.result) * slot_words ≤ c.args.n * labels_at
    fits (PlaceIn.first p e) = absurd (omega (arith, c.if-at-n.false))
    fits (PlaceIn.second x p r e) = omega arith

pub returns-then-at-n : goal.returns-then-at-n
unfolding place_in
returns-then-at-n c = rw (← c.slot-at.ensures) (simp (le-leb _ _ c.if-at-n.true))

pub returns-else-at-n : goal.returns-else-at-n
unfolding place_in
returns-else-at-n c = rw (← c.slot-at.ensures) (simp (lt-leb _ _ c.if-at-n.false))
