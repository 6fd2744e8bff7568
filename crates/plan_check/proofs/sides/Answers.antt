-- The definitions compute.
use Rattle.std.proofs.Common.{refl, lit<}
use Rattle.plan.specs.Plan.{cells, marks_at, cut_right, cut_below}
use Rattle.plan.specs.Check.{checked_plan, grid_fault, length_fault, mark_fault, invalid_below, invalid_mark}
use Rattle.plan.proofs.Check.{valid-sized}
use Rattle.plan_check.proofs.sides.Goals as goal

pub neighbours_of-requires : goal.neighbours_of-requires
unfolding checked_plan grid_fault length_fault mark_fault invalid_below invalid_mark cells marks_at cut_right cut_below
neighbours_of-requires c = (valid-sized _ refl, lit< tt)

pub neighbours_of-requires-2 : goal.neighbours_of-requires-2
unfolding checked_plan grid_fault length_fault mark_fault invalid_below invalid_mark cells marks_at cut_right cut_below
neighbours_of-requires-2 c = (valid-sized _ refl, lit< tt)

pub neighbours_of-requires-3 : goal.neighbours_of-requires-3
unfolding checked_plan grid_fault length_fault mark_fault invalid_below invalid_mark cells marks_at cut_right cut_below
neighbours_of-requires-3 c = (valid-sized _ refl, lit< tt)

pub neighbours_of-requires-4 : goal.neighbours_of-requires-4
unfolding checked_plan grid_fault length_fault mark_fault invalid_below invalid_mark cells marks_at cut_right cut_below
neighbours_of-requires-4 c = (valid-sized _ refl, lit< tt)
