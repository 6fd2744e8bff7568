use Prim.Native.Nat.{ℕ}
use mathlib.Core.Path.{ap}
use Rattle.timing.specs.Formulas.{buffer_load}
use Rattle.timing.specs.Elements.{buffer_of, driver_of}
use Rattle.timing.specs.Relaxed.{relaxed_buffer}
use Rattle.timing.proofs.elements.Buffer.relaxed.Goals as goal

pub returns : goal.returns
unfolding relaxed_buffer buffer_of buffer_load driver_of
returns c = ap (λ (n : ℕ). buffer_of 0 0 n) c.kept.ensures
