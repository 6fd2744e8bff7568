-- What the entries share: the lengths, the buffers read from words, and the place of refusal 4. The tables' words are in the job's order.
use Rattle.std.specs.Prelude.{ℕ, ◌+◌, ◌*◌, ◌/◌, ◌%◌, Bool, ◌&&◌, List, eqb, length}
use Rattle.answers.specs.declared.records.BufferList.{BufferList}
use Rattle.answers.specs.declared.refusal.Fault.{Fault}
use Rattle.answers.specs.declared.refusal.Fault.TheVariants.{Period, SourcePeriod, SinkPeriod, Skew, Limit, Horizontal, Vertical, Register, Fifo, Count, Buffer}
use Rattle.answers.specs.declared.refusal.Refusal.{Refusal}
use Rattle.answers.specs.declared.refusal.Refusal.TheVariants.{Grid, Length, Mark, Element, Ends, Scratch, NoRoute, RouteList, NoneLegal, RouteExists}
use Rattle.job.specs.Fields.{table_numbers, buffer_list_of}

-- eleven words of tables, three words a buffer
unfoldable pub inputs_right : ℕ → ℕ → Bool
inputs_right tables buffers = eqb tables table_numbers && eqb (buffers % 3) 0

-- and five words for what is told
abbrev pub result_numbers : ℕ
result_numbers = 5

unfoldable pub lengths_right : ℕ → ℕ → ℕ → Bool
lengths_right tables buffers results = eqb results result_numbers && inputs_right tables buffers

-- the list of so many buffers
unfoldable pub buffers_in : List ℕ → BufferList
buffers_in ws = buffer_list_of (length ws / 3) ws

-- Refusal 4: the place of what is at fault in the order of a call with so many clocks, from 1; a buffer's is the count's and its own. 0 for every other answer.
-- Each clock has a period before the skew, and each clock but one a FIFO before the count. With one clock that is document 01's order with the skew after T, 1 to 7 and the buffers.

abbrev pub fault_place : ℕ → Fault → ℕ
fault_place clocks Period = 1
fault_place clocks SourcePeriod = 1
fault_place clocks SinkPeriod = 2
fault_place clocks Skew = clocks + 1
fault_place clocks Limit = clocks + 2
fault_place clocks Horizontal = clocks + 3
fault_place clocks Vertical = clocks + 4
fault_place clocks Register = clocks + 5
fault_place clocks Fifo = clocks + 6
fault_place clocks Count = 2 * clocks + 5
fault_place clocks (Buffer place) = 2 * clocks + 5 + place

abbrev pub refusal_fault : ℕ → Refusal → ℕ
refusal_fault clocks Grid = 0
refusal_fault clocks Length = 0
refusal_fault clocks Mark = 0
refusal_fault clocks (Element f) = fault_place clocks f
refusal_fault clocks Ends = 0
refusal_fault clocks Scratch = 0
refusal_fault clocks NoRoute = 0
refusal_fault clocks RouteList = 0
refusal_fault clocks NoneLegal = 0
refusal_fault clocks RouteExists = 0
