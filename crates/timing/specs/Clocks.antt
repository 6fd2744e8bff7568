-- The clocks of a net (document 02, C-15): how many FIFOs a route has, the period of the spans beyond them, and the FIFO. The sink's period is that of the tables.
use Rattle.std.specs.Prelude.{ℕ, ◌≤◌}
use Rattle.timing.specs.Ranges.{period_min, period_max}
use Rattle.timing.specs.Elements.{RegisterInRange, register_of}
use Rattle.timing.specs.declared.clocks.Clocks.{Clocks}

-- one clock: no FIFO stands on a route, and nothing reads the period and the FIFO here
unfoldable pub one_clock : ℕ → Clocks
one_clock period = record { fifos = 0; period = period; fifo = register_of 0 0 0 0 }

-- "with its own R, K, C and setup and the ranges of the register"
pub record ValidClocks (x : Clocks) : Type 0 where
  pub few : x.fifos ≤ 1
  pub least : period_min ≤ x.period
  pub most : x.period ≤ period_max
  pub fifo : RegisterInRange x.fifo
