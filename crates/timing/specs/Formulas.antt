-- The two formulas that join a resistance, a load and a delay (document 01, "Legal routes"). Delays are in half-ticks, so nothing is rounded.
-- Also what the other layers read of an element, whose fields are private to this crate.
use Rattle.std.specs.Prelude.{ℕ, ◌+◌, ◌*◌}
use Rattle.timing.specs.declared.elements.Wire.{Wire}
use Rattle.timing.specs.declared.elements.Driver.{Driver}
use Rattle.timing.specs.declared.elements.Buffer.{Buffer}
use Rattle.timing.specs.declared.elements.Register.{Register}

-- a step over a wire: R·(2·load + C), the pi model; the half is not over the whole bracket
unfoldable pub wire_delay : Wire → ℕ → ℕ
wire_delay w load = w.resistance.0 * (2 * load + w.load.0)

-- a buffer, a register or the source under a load: 2·(R·load + K)
unfoldable pub gate_delay : Driver → ℕ → ℕ
gate_delay g load = 2 * (g.resistance.0 * load + g.delay)

-- What drives a span that closes, with the skew of the clock in its delay: 2·(R·load + K + skew). So a closing delay by it is document 01's "plus twice the skew" (document 02, C-16; `skew-paid` in proofs/Skew.antt).
unfoldable pub skewed : ℕ → Driver → Driver
skewed s g = record { resistance = g.resistance; delay = g.delay + s }

-- the load that one step of wire adds
unfoldable pub wire_load : Wire → ℕ
wire_load w = w.load.0

unfoldable pub buffer_driver : Buffer → Driver
buffer_driver b = b.driver

unfoldable pub buffer_load : Buffer → ℕ
buffer_load b = b.load.0

unfoldable pub register_driver : Register → Driver
register_driver r = r.driver

unfoldable pub register_load : Register → ℕ
register_load r = r.load.0

-- the delay with which a span starts at a register: 2·setup
unfoldable pub setup_delay : Register → ℕ
setup_delay r = 2 * r.setup
