-- The skew of the clock (document 02, C-16): what closes a span pays it twice, in half-ticks; without skew it is what it was.
use Prim.Native.Nat.{ℕ, ◌+◌, ◌*◌}
use mathlib.Core.Path.{◌≡◌, ap}
use native.Mathlib.Omega.{arith}
use Rattle.timing.specs.Formulas.{gate_delay, skewed}
use Rattle.timing.specs.declared.elements.Driver.{Driver}

-- "plus twice the skew"
pub skew-paid : (s : ℕ) (g : Driver) (load : ℕ) → gate_delay (skewed s g) load ≡ gate_delay g load + 2 * s
unfolding skewed gate_delay
skew-paid s g load = omega arith

pub no-skew : (g : Driver) → skewed 0 g ≡ g
unfolding skewed
no-skew g =
    let same : g.delay + 0 ≡ g.delay = omega arith in
    ap {B = Driver} (λ (k : ℕ). record { resistance = g.resistance; delay = k }) same
