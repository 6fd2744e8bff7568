-- The register's load is within the limit, and its setup delay fits a word.
use Prim.Native.Nat.{◌≤◌}
use native.Mathlib.Omega.{arith}
use Rattle.timing.specs.declared.elements.Register.{Register}
use Rattle.timing.specs.Elements.{RegisterInRange}
use Rattle.timing.specs.Formulas.{setup_delay}
use Rattle.spans.proofs.arrivals.start.Goals as goal

setup-most : {r : Register} → RegisterInRange r → setup_delay r ≤ 60000
unfolding setup_delay
setup-most fits = omega (arith, fits.setup)

pub overflow_cast-delay : goal.overflow_cast-delay
overflow_cast-delay c = omega (arith, setup-most c.requires.valid.register)

pub ease-requires : goal.ease-requires
ease-requires c =
    (c.requires.space, (c.requires.queue, (c.requires.falling, (c.requires.inside, (omega (arith, c.requires.light, c.load-load.ensures), omega (arith, c.requires.valid.limit))))))

pub returns : goal.returns
returns c =
    rw (c.load-load.ensures, c.start_delay-delay.ensures) at c.ease.ensures
