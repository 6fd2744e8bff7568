-- What the shared tests leave.
use Rattle.std.proofs.Common.{sym, arith}
use Rattle.plan.proofs.Check.{valid-sized}
use Rattle.session.proofs.Answered.{session-done}
use Rattle.session.proofs.checks.undo_answer.Goals as goal

pub read_entry-newest-requires : goal.read_entry-newest-requires
read_entry-newest-requires c = let i = session-done _ _ _ (sym c.in_ok-session_answer.ensures) in omega (arith, i.deep, i.openable.space)

pub is_corrupt-requires : goal.is_corrupt-requires
is_corrupt-requires c = valid-sized _ (session-done _ _ _ (sym c.in_ok-session_answer.ensures)).openable.valid
