-- What routing a problem that the checks have passed leaves.
use Rattle.std.specs.Prelude.{ℕ, ◌*◌, ◌≡◌, List, length}
use Rattle.best.specs.Best.{best}
use Rattle.answers.specs.Numbers.{Answer}
use Rattle.problem.specs.declared.Problem.{Problem}
use Rattle.problem.specs.Problem.{rules_for}
use Rattle.router.specs.Route.{cell_words, answer_for, visits_for, zeroed}

pub record RouteDone (p : Problem) (marks scratch scratch' visits visits' : List ℕ) (r : Answer) : Type 0 where
  pub answer : r ≡ answer_for (rules_for p marks) p.elements.period (length visits) (best (rules_for p marks))
  pub zero-words : scratch' ≡ zeroed (length marks * cell_words) scratch
  pub filled : visits' ≡ visits_for (best (rules_for p marks)) visits
