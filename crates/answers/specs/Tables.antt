-- Refusal 4 of document 01: a number outside its range, or over 6 buffers. It carries the first fault in this order:
-- T, the skew (document 02, C-16), L, horizontal wire, vertical wire, register, buffer count, the place of a buffer from 1.
-- A net between two clocks (document 02, C-15) has its two periods in T's place, and the FIFO after the register: Crossing.antt.
use Rattle.std.specs.Prelude.{ℕ, zero, suc, ◌+◌, Bool, true, ◌&&◌, cond, List, [], ◌∷◌, leb, ltb, get_or, Option, Some, None, Result, Ok, Err}
use Rattle.timing.specs.Ranges.{load_max, period_min, period_max, skew_max, buffers_max}
use Rattle.timing.specs.Elements.{wire_in_range, register_in_range, buffer_in_range, wire_of, register_of, buffer_of}
use Rattle.timing.specs.declared.elements.Wire.{Wire}
use Rattle.timing.specs.declared.elements.Register.{Register}
use Rattle.timing.specs.declared.elements.Buffer.{Buffer}
use Rattle.timing.specs.declared.elements.Elements.{Elements}
use Rattle.answers.specs.Lists.{no_buffer}
use Rattle.answers.specs.declared.records.WireRecord.{WireRecord}
use Rattle.answers.specs.declared.records.RegisterRecord.{RegisterRecord}
use Rattle.answers.specs.declared.records.BufferRecord.{BufferRecord}
use Rattle.answers.specs.declared.records.Tables.{Tables}
use Rattle.answers.specs.declared.records.BufferList.{BufferList}
use Rattle.answers.specs.declared.refusal.Fault.{Fault}

-- a test of a chain: the fault where it fails, the rest of the chain where it passes
abbrev pub require : Bool → Fault → Option Fault → Option Fault
require ok f rest = cond ok rest (Some f)

unfoldable pub period_in_range : ℕ → Bool
period_in_range p = leb period_min p && leb p period_max

unfoldable pub wire_ok : WireRecord → Bool
wire_ok w = wire_in_range w.resistance w.load

unfoldable pub register_ok : RegisterRecord → Bool
register_ok r = register_in_range r.resistance r.delay r.load r.setup

unfoldable pub buffer_ok : BufferRecord → Bool
buffer_ok b = buffer_in_range b.resistance b.delay b.load

-- the first buffer out of range among `left` of them from index i on
unfoldable pub buffer_fault : List BufferRecord → ℕ → ℕ → Option Fault
buffer_fault items i zero = None
buffer_fault items i (suc left) = require (buffer_ok (get_or items i no_buffer)) (Fault.Buffer (i + 1)) (buffer_fault items (i + 1) left)

unfoldable pub buffers_fault : BufferList → Option Fault
buffers_fault list = buffer_fault list.items 0 list.n

-- the count, then the first buffer out of range
unfoldable pub list_fault : BufferList → Option Fault
list_fault list = require (leb list.n buffers_max) Fault.Count (buffers_fault list)

-- The order from L on, for every call. `fifoOk` says whether the FIFO's numbers are in range; without a FIFO nothing can fail there.
abbrev pub fault_from_limit : Bool → Tables → BufferList → Option Fault
fault_from_limit fifoOk t list =
    require (leb t.limit load_max) Fault.Limit
    (require (wire_ok t.horizontal) Fault.Horizontal
    (require (wire_ok t.vertical) Fault.Vertical
    (require (register_ok t.register) Fault.Register
    (require fifoOk Fault.Fifo
    (list_fault list)))))

-- and from the skew on, which stands after the periods
abbrev pub elements_fault : Bool → Tables → BufferList → Option Fault
elements_fault fifoOk t list = require (leb t.skew skew_max) Fault.Skew (fault_from_limit fifoOk t list)

unfoldable pub tables_fault : Tables → BufferList → Option Fault
tables_fault t list = require (period_in_range t.period) Fault.Period (elements_fault true t list)

-- the elements of given records
unfoldable pub wire_from : WireRecord → Wire
wire_from w = wire_of w.resistance w.load

unfoldable pub register_from : RegisterRecord → Register
register_from r = register_of r.resistance r.delay r.load r.setup

unfoldable pub buffer_from : BufferRecord → Buffer
buffer_from b = buffer_of b.resistance b.delay b.load

-- the buffer at index i: of zeros at and past the count
unfoldable pub listed_buffer : BufferList → ℕ → Buffer
listed_buffer list i = cond (ltb i list.n) (buffer_from (get_or list.items i no_buffer)) (buffer_of 0 0 0)

unfoldable pub six_places : (ℕ → Buffer) → List Buffer
six_places f = f 0 ∷ f 1 ∷ f 2 ∷ f 3 ∷ f 4 ∷ f 5 ∷ []

unfoldable pub elements_of : Tables → BufferList → Elements
elements_of t list =
    record {
      period = t.period;
      skew = t.skew;
      limit = record { 0 = t.limit };
      horizontal = wire_from t.horizontal;
      vertical = wire_from t.vertical;
      register = register_from t.register;
      count = list.n;
      buffers = six_places (listed_buffer list);
    }

-- What a check answers: what it made, or the first fault.
abbrev pub unless_fault : {A : Type 0} → Option Fault → A → Result A Fault
unless_fault None made = Ok made
unless_fault (Some f) made = Err f

-- the check of a list: its six places
unfoldable pub checked_list : BufferList → Result (List Buffer) Fault
checked_list list = unless_fault (list_fault list) (six_places (listed_buffer list))

unfoldable pub checked_tables : Tables → BufferList → Result Elements Fault
checked_tables t list = unless_fault (tables_fault t list) (elements_of t list)
