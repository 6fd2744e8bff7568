-- Refusal 4 between two clocks, exactly in its case: each answer of `crossing_fault` is given where the tests before it pass and its own fails, and nothing is at fault exactly where the elements and the clocks are valid.
-- From L on the cases are those of one clock.
use Rattle.std.proofs.Common.{◌≡◌, Bool, true, false, Option, Some, None, refl, arith}
use Rattle.timing.specs.Valid.{Valid}
use Rattle.timing.specs.Clocks.{ValidClocks}
use Rattle.timing.proofs.Checked.{register-in, in-register}
use Rattle.answers.specs.declared.records.BufferList.{BufferList}
use Rattle.answers.specs.declared.records.Tables.{Tables}
use Rattle.answers.specs.declared.records.Crossing.{Crossing}
use Rattle.answers.specs.declared.refusal.Fault.{Fault}
use Rattle.answers.specs.Tables.{require, period_in_range, register_ok, elements_fault, register_from, elements_of}
use Rattle.answers.specs.Crossing.{crossing_fault, clocks_of}
use Rattle.answers.proofs.FirstFault.{FirstElement, first-element, element-is, require-passed, period-in, in-period, elements-valid, valid-elements, valid-period}

-- the first fault: the source's period, the sink's, then the skew and what follows it
pub data FirstCrossing (t : Tables) (x : Crossing) (list : BufferList) : Option Fault → Type 0 where
  source_period : period_in_range x.period ≡ false → FirstCrossing t x list (Some Fault.SourcePeriod)
  sink_period : period_in_range x.period ≡ true → period_in_range t.period ≡ false → FirstCrossing t x list (Some Fault.SinkPeriod)
  after_periods : {f : Option Fault} → period_in_range x.period ≡ true → period_in_range t.period ≡ true → FirstElement (register_ok x.fifo) t list f → FirstCrossing t x list f

-- The answer is the first fault, and the only one.
pub first-crossing : (t : Tables) (x : Crossing) (list : BufferList) → FirstCrossing t x list (crossing_fault t x list)
unfolding crossing_fault
first-crossing t x list = go _ _ refl refl where
  go : (a b : Bool) → period_in_range x.period ≡ a → period_in_range t.period ≡ b → FirstCrossing t x list (require a Fault.SourcePeriod (require b Fault.SinkPeriod (elements_fault (register_ok x.fifo) t list)))
  go false b e g = source_period e
  go true false e g = sink_period e g
  go true true e g = after_periods e g (first-element (register_ok x.fifo) t list)

pub crossing_is : (t : Tables) (x : Crossing) (list : BufferList) {f : Option Fault} → FirstCrossing t x list f → crossing_fault t x list ≡ f
unfolding crossing_fault
crossing_is t x list (source_period e) = rw e
crossing_is t x list (sink_period e g) = rw (e, g)
crossing_is t x list (after_periods e g h) = rw (e, g) (element-is (register_ok x.fifo) t list h)

-- No fault exactly where the elements and the clocks are valid.
pub crossing-valid : (t : Tables) (x : Crossing) (list : BufferList) → crossing_fault t x list ≡ None → Valid (elements_of t list) × ValidClocks (clocks_of x)
unfolding crossing_fault clocks_of register_ok register_from
crossing-valid t x list e =
    let source = require-passed (period_in_range x.period) Fault.SourcePeriod (require (period_in_range t.period) Fault.SinkPeriod (elements_fault (register_ok x.fifo) t list)) e in
    let sink = require-passed (period_in_range t.period) Fault.SinkPeriod (elements_fault (register_ok x.fifo) t list) source.1 in
    let v = elements-valid (register_ok x.fifo) t list sink.0 sink.1 in
    (v.0, record { few = omega arith; least = (period-in _ source.0).0; most = (period-in _ source.0).1; fifo = register-in _ _ _ _ v.1 })

pub valid-crossing : (t : Tables) (x : Crossing) (list : BufferList) → Valid (elements_of t list) × ValidClocks (clocks_of x) → crossing_fault t x list ≡ None
unfolding crossing_fault clocks_of register_ok register_from
valid-crossing t x list (v, k) =
    simp (in-period _ k.least k.most, valid-period t list v) (valid-elements (register_ok x.fifo) t list v (in-register _ _ _ _ k.fifo))
