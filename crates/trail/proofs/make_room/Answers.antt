-- `trail::make_room`: a free slot changes nothing; else the oldest entry is forgotten.
use Rattle.std.proofs.Common.{refl, ap, ◌∙◌, arith}
use Rattle.trail.specs.Trail.{stamp_of}
use Rattle.trail.proofs.Slots.{slots-few, place-in}
use Rattle.trail.proofs.Changes.{forget}
use Rattle.trail.proofs.make_room.Goals as goal

pub stamp_of-oldest-requires : goal.stamp_of-oldest-requires
stamp_of-oldest-requires c =
    let inside = place-in c.requires.0.sound 0 c.requires.1 in
    (omega (arith, c.place.ensures, inside, c.requires.0.few), omega (arith, c.place.ensures, inside, c.requires.0.room))

pub slot-requires : goal.slot-requires
slot-requires c =
    (c.requires.0.sound.start, (omega (arith, c.requires.0.sound.slots, slots-few c.args.n, c.requires.0.few), c.requires.1))

pub returns : goal.returns
returns c =
    forget _ _ _ _ c.requires.0.sound c.requires.1 c.if-trail.false refl c.slot.ensures refl
    (c.stamp_of-oldest.ensures ∙ ap (stamp_of c.args.scratch.now) c.place.ensures) refl
