-- A state goes on to its neighbours: what each function asks, and what is then in the scratch words.
use Rattle.std.specs.Prelude.{ℕ, ◌*◌, ◌≤◌, ◌<◌, ◌/◌, ◌%◌, ◌≡◌, ◌⊎◌, List, T, length, get_or}
use Rattle.timing.specs.declared.elements.Wire.{Wire}
use Rattle.timing.specs.Elements.{WireInRange}
use Rattle.rules.specs.Rules.{Rules}
use Rattle.rules.specs.Legal.{arrive}
use Rattle.budget.specs.Done.{stage}
use Rattle.costs.specs.Costs.{row_words}
use Rattle.problem.specs.declared.Problem.{Problem}
use Rattle.problem.specs.Problem.{rules_for}
use Rattle.delays.specs.Delays.{never, latest, Idle}
use Rattle.spans.specs.Opens.{Opens}
use Rattle.spans.specs.Eases.{Ground}
use Rattle.spans.specs.Arrive.{Arrived}

pub record StepAsks (p : Problem) (marks : List ℕ) (t : ℕ) (words : List ℕ) (count cell load delay to : ℕ) (wire : Wire) : Type 0 where
  pub ground : Ground p marks words count
  pub most : 2 * t ≤ latest
  pub inside : cell < length marks
  pub light : load < row_words
  pub small : delay ≤ never
  pub opens : load ≤ p.elements.limit.0 → delay < never → Opens p marks t cell load delay
  pub within : to ≤ length marks
  pub joined : to < length marks → T ((rules_for p marks).linked cell to)
  pub same : to < length marks → (rules_for p marks).wire cell to ≡ wire
  pub wire_fits : WireInRange wire

-- the step to one neighbour, within the load limit and early enough
abbrev pub Offered : Rules → ℕ → List ℕ → ℕ → ℕ → ℕ → ℕ → Type 0
Offered R n words cell load delay to =
    (arrive R cell (stage load delay) to).load ≤ R.limit → (arrive R cell (stage load delay) to).delay ≤ latest
    → Arrived R n words to (arrive R cell (stage load delay) to).load (arrive R cell (stage load delay) to).delay

abbrev pub Stepped : Rules → ℕ → List ℕ → ℕ → ℕ → ℕ → ℕ → Type 0
Stepped R n words cell load delay to = to < n → Offered R n words cell load delay to

pub record SpreadAsks (p : Problem) (marks : List ℕ) (t : ℕ) (words : List ℕ) (count state : ℕ) : Type 0 where
  pub ground : Ground p marks words count
  pub most : 2 * t ≤ latest
  pub inside : state < length marks * row_words
  pub opens : state % row_words ≤ p.elements.limit.0 → get_or words state 0 < never → Opens p marks t (state / row_words) (state % row_words) (get_or words state 0)

-- the step to every neighbour
abbrev pub Spread : Rules → ℕ → List ℕ → ℕ → ℕ → ℕ → Type 0
Spread R n words cell load delay = (to : ℕ) → T (R.linked cell to) → Offered R n words cell load delay to

abbrev pub SpreadOut : Rules → ℕ → ℕ → List ℕ → List ℕ → Type 0
SpreadOut R n state old new =
    Idle old state ⊎ Spread R n new (state / row_words) (state % row_words) (get_or old state 0)
