use Rattle.std.proofs.Common.{◌≡◌, ◌+◌, add-one, refl, arith, ltb-true, ltb-false}
use Rattle.budget.specs.Table.{max_below}
use Rattle.costs.specs.Costs.{row_words}
use Rattle.rows.proofs.Rows.{growth-is, row-grows, row_stays}
use Rattle.rows.proofs.grows.Goals as goal

pub loop-l-init : goal.loop-l-init
unfolding max_below
loop-l-init c = refl

pub loop-l-preserved : goal.loop-l-preserved
unfolding max_below
loop-l-preserved c =
    let a = c.args in
    let loop = c.loop-l in
    let l = loop.l in
    let more = growth-is a.scratch.now a.from a.to a.costs.now a.base a.step c.requires.0 l (omega arith) (omega (arith, c.type_inv.scratch (a.from + (l + a.step)))) in
    rw (add-one, max_below) (cc (c.max-grown.ensures, c.saturating_sub.ensures, c.saturating_sub-rest.ensures, loop.invariant, more))

pub returns : goal.returns
returns c =
    let loop = c.loop-l in
    let end : loop.l ≡ row_words = omega arith in
    let grown = rw end at loop.invariant in
    record {
      some = λ e. row-grows _ _ _ _ _ _ (rw grown at (ltb-true 0 loop.grown e));
      none = λ e. row_stays _ _ _ _ _ _ (omega (arith, grown, ltb-false 0 loop.grown e));
    }
