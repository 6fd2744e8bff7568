-- Below 50,000 an eighth more has 16 bits.
use mathlib.Core.Path.{refl}
use native.Mathlib.Omega.{arith}
use borrow.Author.Tests.{lt-ltb, le-ltb}
use Rattle.earliest.proofs.turns.eighth_more.Goals as goal

pub returns-then-delay-lt50000 : goal.returns-then-delay-lt50000
returns-then-delay-lt50000 c = rw (lt-ltb c.args.delay 50000 (omega arith)) refl

pub returns-else-delay-lt50000 : goal.returns-else-delay-lt50000
returns-else-delay-lt50000 c = rw (le-ltb c.args.delay 50000 (omega arith)) refl
