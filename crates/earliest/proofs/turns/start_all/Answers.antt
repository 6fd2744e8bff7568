use Rattle.std.proofs.Common.{arith}
use Rattle.earliest.proofs.Parts.{starting-none, starting-asks, starting-more, starting-end}
use Rattle.earliest.proofs.turns.start_all.Goals as goal

pub loop-cell-init : goal.loop-cell-init
loop-cell-init c = starting-none _ _ _ _ _ c.requires

pub start_at-waiting-requires : goal.start_at-waiting-requires
start_at-waiting-requires c = (starting-asks _ _ _ _ _ c.requires c.loop-cell.invariant, omega arith)

pub loop-cell-preserved : goal.loop-cell-preserved
loop-cell-preserved c =
    starting-more _ _ _ _ _ c.requires c.loop-cell.invariant (omega arith) c.start_at-waiting.ensures

pub returns : goal.returns
returns c = starting-end _ _ _ _ _ c.requires c.loop-cell.invariant (omega (arith, c.loop-cell.invariant.few))
