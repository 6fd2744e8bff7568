-- What an answered undo has.
use Rattle.std.proofs.Common.{sym, arith}
use Rattle.plan.specs.Plan.{cells}
use Rattle.plan.proofs.Check.{valid-sized}
use Rattle.session.specs.Answers.{newest_at}
use Rattle.session.proofs.Answered.{Undoable, undo-done}
use Rattle.session.proofs.calls.undo_at.Goals as goal
use Rattle.session.proofs.calls.undo_at.Goals.{In_default}

undoable : (c : In_default) → Undoable c.args.s c.args.plan.now c.args.journal.now
undoable c = undo-done _ _ _ (sym c.in_default.ensures)

pub overflow_sub-at : goal.overflow_sub-at
overflow_sub-at c = let u = undoable (goal.at.overflow_sub-at c).In_default in omega (arith, u.some)

pub read_entry-newest-requires : goal.read_entry-newest-requires
read_entry-newest-requires c = let u = undoable (goal.at.read_entry-newest-requires c).In_default in omega (arith, u.some, u.intact.deep, u.intact.openable.space)

pub bounds-plan-newest : goal.bounds-plan-newest
unfolding cells newest_at
bounds-plan-newest c =
    let u = undoable (goal.at.bounds-plan-newest c).In_default in
    let inside = rw (← c.read_entry-newest.ensures) at u.newest.inside in
    omega (arith, inside, (valid-sized _ u.intact.openable.valid).full)

pub write_entry-requires : goal.write_entry-requires
write_entry-requires c = let u = undoable (goal.at.write_entry-requires c).In_default in omega (arith, u.some, u.intact.deep, u.intact.openable.space)

pub overflow_sub-result : goal.overflow_sub-result
overflow_sub-result c = let u = undoable (goal.at.overflow_sub-result c).In_default in omega (arith, u.some)
