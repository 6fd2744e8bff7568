use Rattle.std.proofs.Common.{◌+◌, arith}
use Rattle.rows.proofs.Words.{filled_more}
use Rattle.rows.proofs.Rows.{pushed-is}
use Rattle.rows.proofs.push_row.Goals as goal

pub loop-l-preserved : goal.loop-l-preserved
loop-l-preserved c =
    let a = c.args in
    let loop = c.loop-l in
    let l = loop.l in
    let old = loop.invariant.high (a.to + l) (omega arith) in
    let read = loop.invariant.high (a.from + (l + a.step)) (omega arith) in
    let word = pushed-is a.scratch.now a.from a.to a.costs.now a.base a.step c.requires.0 l (omega arith) (omega (arith, c.slice_known-1.given (a.from + (l + a.step)))) in
    filled_more loop.invariant _ (omega arith) (cc (c.max.ensures, c.saturating_sub-given.ensures, old, read, word))
