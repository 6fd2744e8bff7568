-- One set after the other, by proofs/BothSets.
use Rattle.std.proofs.Common.{◌<◌, arith}
use Rattle.labels.proofs.BothSets.{near-asks, far-asks, both-near, both-far}
use Rattle.labels.proofs.both.arrive_both.Goals as goal
use Rattle.labels.proofs.both.arrive_both.Goals.{Else-exit-exits}

pub arrive-near-requires : goal.arrive-near-requires
arrive-near-requires c = near-asks _ _ _ _ _ _ _ c.requires

pub returns-then-exit-exits : goal.returns-then-exit-exits
returns-then-exit-exits c = both-near _ _ _ _ _ _ _ _ _ _ _ _ _ c.requires c.arrive-near.ensures c.if-exit-exits.true

-- a FIFO waits
waits : (c : Else-exit-exits) → c.args.exit < c.args.exits
waits c = omega (arith, c.if-exit-exits.false, c.requires.within)

pub arrive-far-requires : goal.arrive-far-requires
arrive-far-requires c = far-asks _ c.args.idle _ _ _ _ _ _ _ _ _ _ _ c.requires c.arrive-near.ensures (waits (goal.at.arrive-far-requires c).Else-exit-exits)

pub returns : goal.returns
returns c = both-far _ _ _ _ _ _ _ _ _ _ _ _ _ c.requires c.arrive-near.ensures (waits (goal.at.returns c).Else-exit-exits) _ _ _ c.arrive-far.ensures
