-- The FIFOs' labels, past the FIFO.
use Prim.Native.Nat.{◌<◌}
use mathlib.Core.Path.{refl}
use native.Mathlib.Omega.{arith}
use Rattle.search.proofs.turns.watch.Goals as goal
use Rattle.search.proofs.turns.watch.Goals.{Else-side-eq0}

pub returns-then-side-eq0 : goal.returns-then-side-eq0
returns-then-side-eq0 c =
    record { same = refl; low = λ k h. refl; high = λ k h. refl; none = λ e k. refl; added = λ h. absurd (omega (arith, c.if-side-eq0.true)) }

past : (c : Else-side-eq0) → 0 < c.args.side
past c = omega (arith, c.if-side-eq0.false)

pub overflow_mul-set : goal.overflow_mul-set
overflow_mul-set c = omega (arith, c.requires.few)

pub label_active-requires : goal.label_active-requires
label_active-requires c = let p = c.requires in (p.label (past (goal.at.label_active-requires c).Else-side-eq0), p.listed)

pub returns : goal.returns
returns c =
    let a = c.label_active.ensures in
    record {
      same = a.same;
      low = a.low;
      high = λ k h. a.high k (omega arith);
      none = λ e k. absurd (omega (arith, past (goal.at.returns c).Else-side-eq0));
      added = λ h. a;
    }
