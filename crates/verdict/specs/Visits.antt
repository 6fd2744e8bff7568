-- What the code of the verdict does at a wire and at a visit, and how far it has come in a list.
use Rattle.std.specs.Prelude.{ℕ, ◌*◌, ◌≤◌, ◌<◌, Bool, false, List, ◌≡◌, T, length, drop, Option, Some, None, Result}
use Rattle.timing.specs.Slack.{slack_most}
use Rattle.rules.specs.Rules.{Rules}
use Rattle.rules.specs.Legal.{Visit}
use Rattle.rules.specs.Beginning.{Place, next_place, start_place}
use Rattle.rules.specs.Slack.{slack_after}
use Rattle.problem.specs.declared.Problem.{Problem}
use Rattle.problem.specs.Problem.{rules_for}
use Rattle.verdict.specs.Verdict.{route_in, visit_check, first_check, judge_from, judge_route}
use Rattle.verdict.specs.Gates.{At, StepIs}
use Rattle.verdict.specs.declared.gates.point.Point.{Point}
use Rattle.answers.specs.declared.verdicts.VisitFault.{VisitFault}
use Rattle.timing.specs.declared.elements.Wire.{Wire}

-- the wire between two cells, or none
abbrev pub LinkIs : Rules → ℕ → ℕ → Option Wire → Type 0
LinkIs R from cell (Some w) = T (R.linked from cell) × (w ≡ R.wire from cell)
LinkIs R from cell None = R.linked from cell ≡ false

-- what the next visit needs of the point before it, on a plan of n cells
pub record Standing (p : Problem) (n : ℕ) (b : Point) : Type 0 where
  pub in_plan : b.cell < n
  pub light : b.load.0 ≤ p.elements.limit.0

-- a visit from a point, whatever place it is
abbrev pub VisitIs : Problem → List ℕ → Point → Bool → Visit → Result Point VisitFault → Type 0
VisitIs p marks from last v r =
    (a : Place) → At from a → StepIs p.elements.limit.0 last (visit_check (rules_for p marks) a last v) (next_place (rules_for p marks) a v) (slack_after (rules_for p marks) a from.slack v) r

-- the first visit
abbrev pub FirstIs : Problem → List ℕ → Visit → Result Point VisitFault → Type 0
FirstIs p marks v r =
    StepIs p.elements.limit.0 false (first_check (rules_for p marks) v) (start_place (rules_for p marks) v) slack_most r

-- The visits before number i are right and have come to `place`; the verdict on the list is the verdict on the others from there.
pub record Judging (p : Problem) (marks words : List ℕ) (i : ℕ) (b : Point) : Type 0 where
  pub place : Place
  pub here : At b place
  pub standing : 2 * i < length words → Standing p (length marks) b
  pub judged : judge_route (rules_for p marks) (route_in words) ≡ judge_from (rules_for p marks) i place b.slack (drop i (route_in words))
