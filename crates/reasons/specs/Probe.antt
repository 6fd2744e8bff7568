-- What the functions on a problem that the checks have passed tell and leave.
use Rattle.std.specs.Prelude.{ℕ, ◌*◌, Bool, List, ◌≡◌, length}
use Rattle.timing.specs.declared.elements.Elements.{Elements}
use Rattle.answers.specs.declared.explained.Reason.{Reason}
use Rattle.answers.specs.Numbers.{Explained}
use Rattle.rules.specs.Rules.{rules_of}
use Rattle.rows.specs.Words.{KeptFrom}
use Rattle.problem.specs.declared.Problem.{Problem}
use Rattle.problem.specs.Problem.{plan_for}
use Rattle.router.specs.Route.{cell_words, zeroed}
use Rattle.reasons.specs.Reasons.{routed, routed_at, smallest_period, reason_for, explained_for}

-- this is told, and only the scratch words of so many cells were written
pub record Told {A : Type 0} (is : A) (cells : ℕ) (scratch scratch' : List ℕ) (r : A) : Type 0 where
  pub told : r ≡ is
  pub same : length scratch' ≡ length scratch
  pub rest : KeptFrom (cells * cell_words) scratch scratch'

module _ (p : Problem) (marks : List ℕ) where
  unfoldable pub routed_for : ℕ → Bool
  routed_for t = routed_at (plan_for p marks) p.elements p.source p.sink t

  unfoldable pub smallest_for : ℕ
  smallest_for = smallest_period (plan_for p marks) p.elements p.source p.sink

  unfoldable pub reason_of : Reason
  reason_of = reason_for (plan_for p marks) p.elements p.source p.sink

  unfoldable pub explained_by : Explained
  explained_by = explained_for (plan_for p marks) p.elements p.source p.sink

abbrev pub Probed : Problem → Elements → List ℕ → List ℕ → List ℕ → Bool → Type 0
Probed p e marks scratch scratch' r = Told (routed (rules_of (plan_for p marks) e p.source p.sink)) (length marks) scratch scratch' r

pub record ReasonDone (p : Problem) (marks scratch scratch' : List ℕ) (r : Explained) : Type 0 where
  pub answer : r ≡ explained_by p marks
  pub zero-words : scratch' ≡ zeroed (length marks * cell_words) scratch
