-- The search without the route: what it tells, and that it writes on its own words only.
use Rattle.std.specs.Prelude.{ℕ, ◌*◌, ◌≡◌, Option, Some, None, List, length}
use Rattle.rules.specs.Ranking.{registers, steps}
use Rattle.best.specs.Best.{Outcome, found, none, best}
use Rattle.rows.specs.Words.{KeptFrom}
use Rattle.problem.specs.declared.Problem.{Problem}
use Rattle.problem.specs.Problem.{rules_for}
use Rattle.router.specs.Route.{cell_words}
use Rattle.router.specs.declared.least.Least.{Least}

unfoldable pub least_of : Outcome → Option Least
least_of (found r) = Some (record { registers = registers r; steps = steps r })
least_of none = None

pub record Searched (p : Problem) (marks scratch scratch' : List ℕ) (r : Option Least) : Type 0 where
  pub least : r ≡ least_of (best (rules_for p marks))
  pub same : length scratch' ≡ length scratch
  pub rest : KeptFrom (length marks * cell_words) scratch scratch'
