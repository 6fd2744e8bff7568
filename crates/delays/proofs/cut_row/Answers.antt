use Rattle.std.proofs.Common.{◌≤◌, ◌<◌, get_or, below_more, arith}
use Rattle.delays.proofs.Cuts.{stretch-none, stretch-more, cut_at}
use Rattle.delays.proofs.cut_row.Goals as goal

pub loop-i-init : goal.loop-i-init
loop-i-init c = (stretch-none _ _ _, λ k a b. absurd (omega arith))

pub returns-then-scratch-i : goal.returns-then-scratch-i
returns-then-scratch-i c =
    let loop = c.loop-i in
    cut_at loop.invariant.0 _ (omega arith) loop.invariant.1 (λ h. omega (arith, loop.invariant.0.1.high loop.i (omega arith), c.if-scratch-i.true))

pub loop-i-preserved : goal.loop-i-preserved
loop-i-preserved c =
    let a = c.args in
    let loop = c.loop-i in
    let here : a.delay < get_or a.scratch.now loop.i 0 = omega (arith, loop.invariant.0.1.high loop.i (omega arith), c.if-scratch-i.false) in
    (stretch-more loop.invariant.0 (omega arith), λ k h b. below_more (λ k. a.at ≤ k → a.delay < get_or a.scratch.now k 0) loop.i (λ k b h. loop.invariant.1 k h b) (λ h. here) k b h)

pub returns : goal.returns
returns c =
    let loop = c.loop-i in
    cut_at loop.invariant.0 _ (omega arith) loop.invariant.1 (λ h. absurd (omega arith))
