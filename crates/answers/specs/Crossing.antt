-- Refusal 4 of a net between two clocks (document 02, C-15): "4 names the source period, then the sink's, in T's place, and the FIFO after the register".
-- The tables' period is the sink's.
use Rattle.std.specs.Prelude.{Option, Result}
use Rattle.timing.specs.declared.clocks.Clocks.{Clocks}
use Rattle.answers.specs.declared.records.Tables.{Tables}
use Rattle.answers.specs.declared.records.BufferList.{BufferList}
use Rattle.answers.specs.declared.records.Crossing.{Crossing}
use Rattle.answers.specs.declared.refusal.Fault.{Fault}
use Rattle.answers.specs.declared.tables.CrossingElements.{CrossingElements}
use Rattle.answers.specs.Tables.{require, period_in_range, register_ok, elements_fault, register_from, elements_of, unless_fault}

unfoldable pub crossing_fault : Tables → Crossing → BufferList → Option Fault
crossing_fault t x list =
    require (period_in_range x.period) Fault.SourcePeriod
    (require (period_in_range t.period) Fault.SinkPeriod
    (elements_fault (register_ok x.fifo) t list))

-- one FIFO on a route; the spans beyond it have the source's period
unfoldable pub clocks_of : Crossing → Clocks
clocks_of x = record { fifos = 1; period = x.period; fifo = register_from x.fifo }

-- what the check makes
unfoldable pub crossing_elements : Tables → Crossing → BufferList → CrossingElements
crossing_elements t x list = record { elements = elements_of t list; clocks = clocks_of x }

-- What the check answers: the elements and the clocks, or the first fault.
unfoldable pub checked_crossing : Tables → Crossing → BufferList → Result CrossingElements Fault
checked_crossing t x list = unless_fault (crossing_fault t x list) (crossing_elements t x list)

-- the same from the skew on
unfoldable pub checked_elements : Tables → Crossing → BufferList → Result CrossingElements Fault
checked_elements t x list = unless_fault (elements_fault (register_ok x.fifo) t list) (crossing_elements t x list)
