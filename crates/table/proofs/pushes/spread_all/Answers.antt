use Rattle.table.proofs.Spreads.{spread_none, spread-more}
use Rattle.table.proofs.pushes.spread_all.Goals as goal

pub loop-i-init : goal.loop-i-init
loop-i-init c = spread_none _ _ _ _ _ _ c.requires _

pub loop-i-preserved : goal.loop-i-preserved
loop-i-preserved c = spread-more _ _ _ _ _ _ c.requires _ _ _ _ c.loop-i-test.true c.loop-i.invariant _ _ c.spread-next.ensures
