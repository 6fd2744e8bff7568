-- `reach::span::next_both`: what the registers leave bounds what the FIFOs are asked for.
use Rattle.std.proofs.Common.{arith}
use Rattle.reach.proofs.span.next_both.Goals as goal

pub next_steps-requires : goal.next_steps-requires
next_steps-requires c = c.requires.1 (omega (arith, c.if-exit-exits.true))

pub returns-then-exit-exits : goal.returns-then-exit-exits
returns-then-exit-exits c =
    let near = c.next_steps-first.ensures in
    let far = c.next_steps.ensures in
    record {
      within = omega (arith, near.within, far.within);
      near = λ h e. omega (arith, near.early h e, far.within);
      far = far.early;
      most = λ u h p q. far.most u (near.most u h p) q;
    }

pub returns-else-exit-exits : goal.returns-else-exit-exits
returns-else-exit-exits c =
    let near = c.next_steps-first.ensures in
    record {
      within = near.within;
      near = near.early;
      far = λ h. absurd (omega (arith, c.if-exit-exits.false));
      most = λ u h p q. near.most u h p;
    }
