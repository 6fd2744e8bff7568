-- Checked tables: every number within its range (document 01, "Elements").
use Rattle.std.specs.Prelude.{ℕ, ◌≤◌, ◌<◌, ◌≡◌, length, get_or}
use Rattle.timing.specs.Ranges.{load_max, period_min, period_max, skew_max, buffers_max}
use Rattle.timing.specs.Elements.{WireInRange, RegisterInRange, BufferInRange, buffer_of}
use Rattle.timing.specs.declared.elements.Elements.{Elements}

pub record Valid (e : Elements) : Type 0 where
  pub least : period_min ≤ e.period
  pub most : e.period ≤ period_max
  pub skew : e.skew ≤ skew_max
  pub limit : e.limit.0 ≤ load_max
  pub horizontal : WireInRange e.horizontal
  pub vertical : WireInRange e.vertical
  pub register : RegisterInRange e.register
  pub count : e.count ≤ buffers_max
  pub places : length e.buffers ≡ buffers_max
  pub buffers : (i : ℕ) → i < buffers_max → BufferInRange (get_or e.buffers i (buffer_of 0 0 0))
