-- Document 01's table of refusals, 0 to 3.
use Rattle.std.specs.Prelude.{ℕ, Ok, Err, Result}
use Rattle.plan.specs.declared.PlanFault.{PlanFault}

unfoldable pub check_number : Result Unit PlanFault → ℕ
check_number (Ok u) = 0
check_number (Err PlanFault.Grid) = 1
check_number (Err PlanFault.Length) = 2
check_number (Err PlanFault.Mark) = 3
