use Prim.Native.Nat.{ℕ}
use mathlib.Core.Path.{ap}
use Rattle.timing.specs.Formulas.{wire_load}
use Rattle.timing.specs.Elements.{wire_of}
use Rattle.timing.specs.Relaxed.{relaxed_wire}
use Rattle.timing.proofs.elements.Wire.relaxed.Goals as goal

pub returns : goal.returns
unfolding relaxed_wire wire_of wire_load
returns c = ap (λ (n : ℕ). wire_of 0 n) c.kept.ensures
