use Rattle.std.proofs.Common.{◌+◌, ◌*◌, ◌≡◌, sym, ◌∙◌, arith, add-one, get_or}
use Rattle.timing.specs.Elements.{buffer_of, driver_of}
use Rattle.timing.specs.Formulas.{buffer_driver, buffer_load}
use Rattle.costs.specs.Costs.{row_words, buffer_at, buffers_at}
use Rattle.rows.specs.Words.{Filled}
use Rattle.rows.specs.Rows.{raised}
use Rattle.rows.proofs.Words.{filled_none, filled-longer, filled-as, filled-twice}
use Rattle.rows.proofs.Leaves.{raised-driven}
use Rattle.table.proofs.ArrivalRow.{raised-by-none, raised-by-past, raised-by-more}
use Rattle.table.proofs.arrival.raise_buffers.Goals as goal
use Rattle.table.proofs.arrival.raise_buffers.Goals.{then-load-limit, else-load-limit}

pub loop-i-init : goal.loop-i-init
loop-i-init c = filled-longer (filled_none _ _ _) row_words (omega arith) (λ k a b. sym (raised-by-none _ _ _ _ k))

pub loop-i-preserved : goal.loop-i-preserved
unfolding buffer_at buffer_of driver_of buffer_driver
loop-i-preserved c =
    let loop = c.loop-i in
    let a = c.args in
    let b = buffer_at a.elements loop.i in
    let load : c.load-load.result.0 ≡ buffer_load b = c.load-load.ensures in
    rw add-one (elim c.if-load-limit.branch [
      | then-load-limit w ↦
          let raise : Filled (raised loop.scratch a.to w.view-top.result a.costs.now (buffers_at loop.i)) a.to row_words loop.scratch w.raise_row.new.scratch = w.raise_row.ensures in
          let top = loop.invariant.low (a.cell * row_words + buffer_load b) (omega arith) in
          let known = c.slice_known-1.given (a.cell * row_words + buffer_load b) in
          rw w.scratch-is (filled-as (filled-twice loop.invariant _ _ (rw load at (rw w.view-top.ensures at raise))) _ (λ k h. raised-driven loop.scratch a.to (get_or loop.scratch (a.cell * row_words + buffer_load b) 0) a.costs.now (buffers_at loop.i) (buffer_driver b) a.elements.limit.0 (c.requires.costed loop.i (omega arith)) (omega (arith, top, known)) k h ∙ raised-by-more a.scratch.now a.cell a.to a.elements loop.i k loop.scratch (loop.invariant.done k h) top (omega (arith, load, w.if-load-limit.true))))
      | else-load-limit w ↦ rw w.scratch-is (filled-as loop.invariant _ (λ k h. raised-by-past a.scratch.now a.cell a.to a.elements loop.i k (omega (arith, load, w.if-load-limit.false))))
    ])
