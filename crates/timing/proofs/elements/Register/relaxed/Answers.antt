use Prim.Native.Nat.{ℕ}
use mathlib.Core.Path.{ap}
use Rattle.timing.specs.Formulas.{register_load}
use Rattle.timing.specs.Elements.{register_of, driver_of}
use Rattle.timing.specs.Relaxed.{relaxed_register}
use Rattle.timing.proofs.elements.Register.relaxed.Goals as goal

pub returns : goal.returns
unfolding relaxed_register register_of register_load driver_of
returns c = ap (λ (n : ℕ). register_of 0 0 n 0) c.kept.ensures
