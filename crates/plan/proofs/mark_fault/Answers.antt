-- A cell with an invalid mark is one below the number of cells.
use Rattle.std.proofs.Common.{sym, ◌∙◌, arith}
use Rattle.plan.specs.Plan.{cells, marks_at}
use Rattle.plan.specs.Check.{mark_fault}
use Rattle.plan.proofs.Check.{one-invalid}
use Rattle.plan.proofs.mark_fault.Goals as goal

pub returns-then-invalid_mark : goal.returns-then-invalid_mark
unfolding mark_fault cells marks_at
returns-then-invalid_mark c =
    sym (one-invalid _ _ c.loop-cell.cell (omega arith) (sym c.invalid_mark.ensures ∙ c.if-invalid_mark.true))
