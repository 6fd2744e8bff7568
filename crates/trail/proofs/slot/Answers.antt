-- `trail::slot`: the two cases of `slot_of`.
use Rattle.std.proofs.Common.{lt-ltb, le-ltb}
use Rattle.trail.specs.Trail.{slot_of}
use Rattle.trail.proofs.slot.Goals as goal

pub returns-then-at-trail : goal.returns-then-at-trail
unfolding slot_of
returns-then-at-trail c = simp (lt-ltb _ _ c.if-at-trail.true)

pub returns-else-at-trail : goal.returns-else-at-trail
unfolding slot_of
returns-else-at-trail c = simp (le-ltb _ _ c.if-at-trail.false)
