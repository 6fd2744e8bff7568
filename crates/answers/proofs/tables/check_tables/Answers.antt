-- The period, then what follows it with a FIFO of zeros.
use Rattle.std.proofs.Common.{◌≡◌, true, sym, ◌∙◌}
use Rattle.std.proofs.lemmas.Result.{err_from_is_err_and}
use Rattle.timing.specs.Elements.{register_in_range}
use Rattle.answers.specs.Tables.{checked_tables, tables_fault, register_ok}
use Rattle.answers.specs.declared.records.Crossing.{Crossing}
use Rattle.answers.specs.Crossing.{checked_elements, crossing_elements}
use Rattle.answers.proofs.Made.{found-fault, found-none}
use Rattle.answers.proofs.tables.check_tables.Goals as goal

pub returns-then-not-period_in_range : goal.returns-then-not-period_in_range
unfolding checked_tables tables_fault
returns-then-not-period_in_range c = simp (sym c.period_in_range.ensures ∙ c.if-not-period_in_range.true)

-- a FIFO of zeros is in range
zeros-in : (x : Crossing) → (x.fifo.resistance ≡ 0) × ((x.fifo.delay ≡ 0) × ((x.fifo.load ≡ 0) × (x.fifo.setup ≡ 0))) → register_ok x.fifo ≡ true
unfolding register_ok register_in_range
zeros-in x zero = simp (zero.0, zero.1.0, zero.1.1.0, zero.1.1.1)

pub returns-in_err-made : goal.returns-in_err-made
unfolding checked_tables tables_fault checked_elements
returns-in_err-made c =
    let p = err_from_is_err_and c.from_residual.result c.from_residual.ensures.1 in
    let out = rw (zeros-in c.default.result c.default.ensures.1) at (found-fault _ _ (sym c.in_err-made.ensures)) in
    rw (p.1, p.2) (simp (sym c.period_in_range.ensures ∙ c.if-not-period_in_range.false, out))

pub returns : goal.returns
unfolding checked_tables tables_fault checked_elements crossing_elements
returns c =
    let made = rw (zeros-in c.default.result c.default.ensures.1) at (found-none _ _ (sym c.in_ok-made.ensures)) in
    simp (sym c.period_in_range.ensures ∙ c.if-not-period_in_range.false, made.0, made.1)
