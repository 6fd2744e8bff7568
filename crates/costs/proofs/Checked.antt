-- A checked buffer is in range.
use Rattle.std.proofs.Common.{ℕ, ◌≤◌, ◌<◌}
use Rattle.timing.specs.declared.elements.Elements.{Elements}
use Rattle.timing.specs.Elements.{DriverInRange}
use Rattle.timing.specs.Formulas.{buffer_driver, buffer_load}
use Rattle.timing.specs.Ranges.{load_max, buffers_max}
use Rattle.timing.specs.Valid.{Valid}
use Rattle.costs.specs.Costs.{buffer_at}

pub buffer-driver-fits : {e : Elements} → Valid e → (i : ℕ) → i < buffers_max → DriverInRange (buffer_driver (buffer_at e i))
unfolding buffer_driver buffer_at
buffer-driver-fits v i h = (v.buffers i h).driver

pub buffer-load-most : {e : Elements} → Valid e → (i : ℕ) → i < buffers_max → buffer_load (buffer_at e i) ≤ load_max
unfolding buffer_load buffer_at
buffer-load-most v i h = (v.buffers i h).load
