-- What an answered move has.
use Rattle.std.proofs.Common.{sym, length, arith}
use Rattle.plan.specs.Plan.{cells}
use Rattle.plan.proofs.Check.{valid-sized}
use Rattle.session.proofs.Answered.{Movable, move-done}
use Rattle.session.proofs.calls.set_marks_at.Goals as goal
use Rattle.session.proofs.calls.set_marks_at.Goals.{In_default}

movable : (c : In_default) → Movable c.args.s c.args.plan.now (length c.args.journal.now) c.args.cell c.args.marks
movable c = move-done _ _ _ _ _ (sym c.in_default.ensures)

pub bounds-plan-cell : goal.bounds-plan-cell
unfolding cells
bounds-plan-cell c = let m = movable (goal.at.bounds-plan-cell c).In_default in omega (arith, m.inside, (valid-sized _ m.intact.openable.valid).full)

pub bounds-plan-cell-2 : goal.bounds-plan-cell-2
unfolding cells
bounds-plan-cell-2 c = let m = movable (goal.at.bounds-plan-cell-2 c).In_default in omega (arith, m.inside, (valid-sized _ m.intact.openable.valid).full)

pub write_entry-requires : goal.write_entry-requires
write_entry-requires c = let m = movable (goal.at.write_entry-requires c).In_default in omega (arith, m.space, m.intact.openable.space)

pub overflow_add-result : goal.overflow_add-result
overflow_add-result c = let m = movable (goal.at.overflow_add-result c).In_default in omega (arith, m.space)
