-- When an element is within its ranges, and what each checking constructor answers (document 01, "Elements").
use Rattle.std.specs.Prelude.{ℕ, ◌≤◌, Bool, ◌&&◌, cond, leb, Option, Some, None}
use Rattle.timing.specs.Ranges.{resistance_max, delay_max, load_max, setup_max}
use Rattle.timing.specs.declared.elements.Wire.{Wire}
use Rattle.timing.specs.declared.elements.Driver.{Driver}
use Rattle.timing.specs.declared.elements.Buffer.{Buffer}
use Rattle.timing.specs.declared.elements.Register.{Register}

pub record WireInRange (w : Wire) : Type 0 where
  pub resistance : w.resistance.0 ≤ resistance_max
  pub load : w.load.0 ≤ load_max

pub record DriverInRange (g : Driver) : Type 0 where
  pub resistance : g.resistance.0 ≤ resistance_max
  pub delay : g.delay ≤ delay_max

pub record BufferInRange (b : Buffer) : Type 0 where
  pub driver : DriverInRange b.driver
  pub load : b.load.0 ≤ load_max

pub record RegisterInRange (r : Register) : Type 0 where
  pub driver : DriverInRange r.driver
  pub load : r.load.0 ≤ load_max
  pub setup : r.setup ≤ setup_max

-- the elements of given numbers
unfoldable pub wire_of : ℕ → ℕ → Wire
wire_of r c = record { resistance = record { 0 = r }; load = record { 0 = c } }

unfoldable pub driver_of : ℕ → ℕ → Driver
driver_of r k = record { resistance = record { 0 = r }; delay = k }

unfoldable pub buffer_of : ℕ → ℕ → ℕ → Buffer
buffer_of r k c = record { driver = driver_of r k; load = record { 0 = c } }

unfoldable pub register_of : ℕ → ℕ → ℕ → ℕ → Register
register_of r k c s = record { driver = driver_of r k; load = record { 0 = c }; setup = s }

-- the range tests
unfoldable pub wire_in_range : ℕ → ℕ → Bool
wire_in_range r c = leb r resistance_max && leb c load_max

unfoldable pub buffer_in_range : ℕ → ℕ → ℕ → Bool
buffer_in_range r k c = leb r resistance_max && leb k delay_max && leb c load_max

unfoldable pub register_in_range : ℕ → ℕ → ℕ → ℕ → Bool
register_in_range r k c s = leb r resistance_max && leb k delay_max && leb c load_max && leb s setup_max

-- the answers of the checking constructors
unfoldable pub checked_wire : ℕ → ℕ → Option Wire
checked_wire r c = cond (wire_in_range r c) (Some (wire_of r c)) None

unfoldable pub checked_buffer : ℕ → ℕ → ℕ → Option Buffer
checked_buffer r k c = cond (buffer_in_range r k c) (Some (buffer_of r k c)) None

unfoldable pub checked_register : ℕ → ℕ → ℕ → ℕ → Option Register
checked_register r k c s = cond (register_in_range r k c s) (Some (register_of r k c s)) None
