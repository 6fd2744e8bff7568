use Rattle.std.proofs.Common.{◌+◌, arith}
use Rattle.rows.specs.Rows.{raised}
use Rattle.rows.proofs.Words.{filled_more}
use Rattle.rows.proofs.raise_row.Goals as goal

pub loop-l-preserved : goal.loop-l-preserved
unfolding raised
loop-l-preserved c =
    let a = c.args in
    let loop = c.loop-l in
    let old = loop.invariant.high (a.at + loop.l) (omega arith) in
    filled_more loop.invariant _ (omega arith) (cc (c.max.ensures, c.saturating_sub-rest.ensures, old))
