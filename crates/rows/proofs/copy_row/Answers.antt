use Rattle.std.proofs.Common.{◌+◌, ◌*◌, ◌∙◌, arith}
use Rattle.costs.specs.Costs.{row_words}
use Rattle.rows.specs.Rows.{copied}
use Rattle.rows.proofs.Words.{filled_more}
use Rattle.rows.proofs.copy_row.Goals as goal

pub loop-l-preserved : goal.loop-l-preserved
unfolding copied
loop-l-preserved c =
    let a = c.args in
    let loop = c.loop-l in
    let word = c.view.ensures ∙ loop.invariant.low (a.cell * row_words + loop.l) (omega arith) in
    filled_more loop.invariant _ (omega arith) (cc (c.saturating_sub.ensures, word))
