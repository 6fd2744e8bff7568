use Rattle.std.proofs.Common.{◌≡◌, arith}
use Rattle.std.proofs.lemmas.Grind.{common_steps}
use Rattle.delays.proofs.Closes.{nearest-none, nearest-next}
use Rattle.delays.proofs.next_close.Goals as goal

pub loop-c-init : goal.loop-c-init
loop-c-init c = nearest-none _ _ _

pub loop-c-preserved : goal.loop-c-preserved
loop-c-preserved c = nearest-next _ _ _ _ _ c.loop-c.invariant (omega arith) c.if-bound-close.least (grind (arith, common_steps))

pub returns : goal.returns
returns c =
    let end : c.loop-c.c ≡ c.args.n = omega arith in
    let near = rw end at c.loop-c.invariant in
    record { least = near.0; known = near.1 }
