-- Past the FIFO the set that was laid aside is copied; else nothing changes.
use mathlib.Core.Path.{refl}
use mathlib.Core.Logic.{inr}
use native.Mathlib.Omega.{arith}
use borrow.Author.Tests.{eq-eqb, ne_eqb}
use Rattle.emission.specs.Emission.{counts_after}
use Rattle.emission.proofs.sides.pass.Goals as goal

pub overflow_mul-n : goal.overflow_mul-n
overflow_mul-n c = omega (arith, c.requires.few)

pub overflow_mul-n-then-code-eq8 : goal.overflow_mul-n-then-code-eq8
overflow_mul-n-then-code-eq8 c = omega (arith, c.requires.few)

pub copy_set-requires : goal.copy_set-requires
copy_set-requires c =
    let p = c.requires in
    let room = p.room c.if-code-eq8.true in
    record {
      source = record { small = p.few; low = omega (arith, p.few); room = room };
      target = record { small = p.few; low = omega (arith, p.few); room = omega arith };
      apart = inr (omega arith);
    }

pub returns-then-code-eq8 : goal.returns-then-code-eq8
unfolding counts_after
returns-then-code-eq8 c =
    let f = c.copy_set.ensures in
    let taken = c.if-code-eq8.true in (
      record {
        same = f.same;
        stays = λ z. absurd (z taken);
        takes = λ z k h. f.done k h;
        low = f.low;
        high = f.high;
      },
      simp (eq-eqb _ _ taken),
    )

pub returns-else-code-eq8 : goal.returns-else-code-eq8
unfolding counts_after
returns-else-code-eq8 c = (
  record {
    same = refl;
    stays = λ z. refl;
    takes = λ z. absurd (c.if-code-eq8.false z);
    low = λ k h. refl;
    high = λ k h. refl;
  },
  simp (ne_eqb _ _ c.if-code-eq8.false),
)
