-- The plan is valid where the shared tests pass.
use Rattle.std.proofs.Common.{sym, arith}
use Rattle.plan.specs.Plan.{cells}
use Rattle.plan.proofs.Check.{valid-sized, cells-most}
use Rattle.session.proofs.Answered.{session-done}
use Rattle.session.proofs.checks.move_answer.Goals as goal

pub overflow_mul-s : goal.overflow_mul-s
unfolding cells
overflow_mul-s c = omega (arith, cells-most _ (valid-sized _ (session-done _ _ _ (sym c.in_ok-session_answer.ensures)).openable.valid))

pub invalid_mark-requires : goal.invalid_mark-requires
invalid_mark-requires c = (valid-sized _ (session-done _ _ _ (sym c.in_ok-session_answer.ensures)).openable.valid).wide
