-- The tables that the checks vary, and a number for each fault of theirs.
use Rattle.std.specs.Prelude.{ℕ, [], ◌∷◌, Option, Some, None}
use Rattle.answers.specs.declared.refusal.Fault.{Fault}
use Rattle.answers.specs.declared.refusal.Fault.TheVariants.{Period, SourcePeriod, SinkPeriod, Skew, Limit, Horizontal, Vertical, Register, Fifo, Count, Buffer}
use Rattle.answers.specs.declared.records.Tables.{Tables}
use Rattle.answers.specs.declared.records.Crossing.{Crossing}
use Rattle.answers.specs.declared.records.BufferList.{BufferList}
use Rattle.answers.specs.Lists.{no_buffer}
use Rattle.answers.specs.Tables.{tables_fault}
use Rattle.answers.specs.Crossing.{crossing_fault}

-- a buffer's place, or above 100
abbrev pub fault_number : Option Fault → ℕ
fault_number None = 0
fault_number (Some Period) = 101
fault_number (Some Limit) = 102
fault_number (Some Horizontal) = 103
fault_number (Some Vertical) = 104
fault_number (Some Register) = 105
fault_number (Some Count) = 106
fault_number (Some SourcePeriod) = 107
fault_number (Some SinkPeriod) = 108
fault_number (Some Fifo) = 109
fault_number (Some Skew) = 110
fault_number (Some (Buffer place)) = place

-- the strip's tables, with these numbers for period, skew, limit, the resistances of wires and register
unfoldable pub tables_with : ℕ → ℕ → ℕ → ℕ → ℕ → ℕ → Tables
tables_with p sk l h v r =
    record {
      register = record { resistance = r; delay = 2; load = 1; setup = 1 };
      horizontal = record { resistance = h; load = 3 };
      vertical = record { resistance = v; load = 3 };
      period = p;
      skew = sk;
      limit = l;
    }

-- n buffers, the second with this resistance
unfoldable pub list_with : ℕ → ℕ → BufferList
list_with n b =
    record {
      n = n;
      items = no_buffer ∷ record { resistance = b; delay = 1; load = 1 } ∷ no_buffer ∷ no_buffer ∷ no_buffer ∷ no_buffer ∷ [];
    }

unfoldable pub fault_with : ℕ → ℕ → ℕ → ℕ → ℕ → ℕ → ℕ → ℕ → ℕ
fault_with p sk l h v r n b = fault_number (tables_fault (tables_with p sk l h v r) (list_with n b))

-- the source's period and a FIFO with these numbers
unfoldable pub crossing_with : ℕ → ℕ → ℕ → ℕ → ℕ → Crossing
crossing_with p r k c s = record { period = p; fifo = record { resistance = r; delay = k; load = c; setup = s } }

unfoldable pub crossing_number_of : Tables → Crossing → BufferList → ℕ
crossing_number_of t x list = fault_number (crossing_fault t x list)
