-- `reach::layers::run_span`: the table is that of u steps, and the labels of the span with at most u steps are seeds; a turn is a layer or a leap, and then the arrivals.
-- The loop does not see the words at the entry: what it keeps, it keeps for whatever words the labels are from.
use Prim.Native.Nat.{ℕ, ◌+◌, ◌-◌, ◌≤◌}
use mathlib.Core.Bool.{Bool}
use mathlib.Core.List.{List}
use lib.ListN.{length}
use Rattle.plan.specs.Apart.{apart_by}
use Rattle.budget.specs.Cone.{in_cone}
use Rattle.trail.specs.declared.Trail.{Trail}
use Rattle.problem.specs.declared.net.Net.{Net}
use Rattle.table.specs.Problem.{net_rules}
use Rattle.reach.specs.Reach.{Started, Current, Trailing}
use Rattle.reach.proofs.layers.run_span.Given as goal

-- the rows that matter: those in the cone of the cell
abbrev pub inside : Net → ℕ → ℕ → ℕ → ℕ → Bool
inside net cell steps = in_cone (apart_by net.problem.width cell) (steps + 1)

-- what holds at u: the table and the trail
abbrev pub Turning : Net → List ℕ → ℕ → ℕ → ℕ → ℕ → ℕ → ℕ → List ℕ → List ℕ → ℕ → ℕ → ℕ → ℕ → Trail → Type 0
Turning net marks f count exits cell weight steps old words u active at exit trail =
    Current (net_rules net marks) (length marks) f weight (inside net cell steps) old words u active at count exit exits × Trailing (net_rules net marks) (length marks) f weight exits (inside net cell steps) old words u trail

abbrev pub invariant-loop-u : goal.invariant-loop-u
invariant-loop-u l =
    (l.u ≤ l.steps) × ((old : List ℕ) → Started (net_rules l.net l.plan) (length l.plan) l.weight old l.initial.scratch l.initial.active l.initial.at l.count l.initial.exit l.exits → Turning l.net l.plan l.side l.count l.exits l.cell l.weight l.steps old l.scratch l.u l.active l.at l.exit l.trail)

abbrev pub decreases-loop-u : goal.decreases-loop-u
decreases-loop-u l =
    l.steps - l.u
