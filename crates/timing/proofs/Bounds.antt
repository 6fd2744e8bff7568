-- The largest delay of each formula: both fit 16 bits.
use Prim.Native.Nat.{ℕ, ◌*◌, ◌≤◌}
use native.Mathlib.Nat.{mul-le-mul}
use native.Mathlib.Omega.{arith}
use Rattle.timing.specs.declared.elements.Wire.{Wire}
use Rattle.timing.specs.declared.elements.Driver.{Driver}
use Rattle.timing.specs.Ranges.{load_max}
use Rattle.timing.specs.Formulas.{wire_delay, gate_delay}
use Rattle.timing.specs.Elements.{WireInRange, DriverInRange}

-- 255 · (2 · 63 + 63)
abbrev pub wire_delay_max : ℕ
wire_delay_max = 48195

-- 2 · (255 · 63 + 1000)
abbrev pub gate_delay_max : ℕ
gate_delay_max = 34130

pub wire-delay-max : (w : Wire) (load : ℕ) → WireInRange w → load ≤ load_max → wire_delay w load ≤ wire_delay_max
unfolding wire_delay
wire-delay-max w load f h = mul-le-mul {n₂ = 255} {m₂ = 189} f.resistance (omega arith)

pub gate-delay-max : (g : Driver) (load : ℕ) → DriverInRange g → load ≤ load_max → gate_delay g load ≤ gate_delay_max
unfolding gate_delay
gate-delay-max g load f h =
    let p : g.resistance.0 * load ≤ 16065 = mul-le-mul {n₂ = 255} {m₂ = 63} f.resistance h in
    omega arith
