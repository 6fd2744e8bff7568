-- A ready problem's sizes.
use Rattle.std.proofs.Common.{ℕ, ◌*◌, ◌≤◌, ◌≡◌, List, arith, length}
use Rattle.plan.specs.Plan.{cells}
use Rattle.plan.proofs.Check.{cells-most}
use Rattle.problem.specs.declared.Problem.{Problem}
use Rattle.problem.specs.Problem.{plan_for, Ready}

module _ (p : Problem) (marks : List ℕ) (ready : Ready p marks) where
  pub cells_are : length marks ≡ cells (plan_for p marks)
  unfolding plan_for
  cells_are = ready.sized.full

  pub cells-product : length marks ≡ p.width * p.height
  unfolding plan_for cells
  cells-product = ready.sized.full

  pub few-cells : length marks ≤ 1024
  few-cells = omega (arith, cells_are, cells-most (plan_for p marks) ready.sized)
