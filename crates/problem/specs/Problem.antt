-- A routing problem as the rules see it, and what its parts must meet.
use Rattle.std.specs.Prelude.{ℕ, ◌<◌, List, length}
use Rattle.plan.specs.Plan.{Plan, plan_of, Sized}
use Rattle.timing.specs.Valid.{Valid}
use Rattle.rules.specs.Rules.{Rules, rules_of}
use Rattle.problem.specs.declared.Problem.{Problem}

unfoldable pub plan_for : Problem → List ℕ → Plan
plan_for p marks = plan_of p.width p.height marks

unfoldable pub rules_for : Problem → List ℕ → Rules
rules_for p marks = rules_of (plan_for p marks) p.elements p.source p.sink

-- checks 1 to 5 have passed
pub record Ready (p : Problem) (marks : List ℕ) : Type 0 where
  pub sized : Sized (plan_for p marks)
  pub valid : Valid p.elements
  pub source : p.source < length marks
  pub sink : p.sink < length marks
