-- One step of emission: the next visit, in written order, from which the rest can still be done.
-- R are the rules, m the labels by code, A the table of what can be reached, n the number of cells.
use Rattle.std.specs.Prelude.{ℕ, ◌-◌, ◌*◌, ◌≤◌, ◌<◌, ◌≡◌, Option, Some, None, List, T, length}
use Rattle.timing.specs.Ranges.{load_max}
use Rattle.rules.specs.Rules.{Rules, fifo_code, side_after}
use Rattle.rules.specs.Beginning.{Place}
use Rattle.rules.specs.Slack.{slack_after}
use Rattle.budget.specs.Table.{Table}
use Rattle.budget.specs.Done.{stage, Labels}
use Rattle.budget.specs.Emission.{goes_on, after_load, after_delay, after_weight, Before}
use Rattle.layout.specs.Layout.{aside_at}
use Rattle.problem.specs.declared.net.Net.{Net}
use Rattle.table.specs.Problem.{NetReady, Room}
use Rattle.choice.specs.declared.State.{State}
use Rattle.choice.specs.declared.Visit.{Visit}

-- the largest delay of a state, in half-ticks: that of a word of the table
abbrev pub delay_most : ℕ
delay_most = 65535

-- more FIFOs than a route passes, so that their number can be counted on
abbrev pub sides_most : ℕ
sides_most = 1024

-- a state in the plan, with a load and a delay that a span can have
pub record InRange (n : ℕ) (s : State) : Type 0 where
  pub in_plan : s.cell < n
  pub light : s.load.0 ≤ load_max
  pub early : s.delay.0 ≤ delay_most

-- where there are labels of FIFOs, their set is in the words
pub record ChooseAsks (net : Net) (marks : List ℕ) (exits : ℕ) (words : List ℕ) (from : State) : Type 0 where
  pub ready : NetReady net marks
  pub room : Room (length marks) words
  pub exits_in : 0 < exits → length marks * aside_at ≤ length words
  pub in_range : InRange (length marks) from
  pub more : 0 < from.steps
  pub few : from.side ≤ sides_most

-- a visit to the cell with this code goes on to the end, with one step fewer
abbrev pub Goes : Rules → (ℕ → Labels) → Table → State → ℕ → ℕ → Type 0
Goes R m A from cell code =
    T (goes_on R m from.side from.weight (from.steps - 1) A from.cell from.load.0 from.delay.0 cell code)

-- where a state has come; every span of a side has the bound of the first
abbrev pub place_at : State → Place
place_at s = record { cell = s.cell; span = 0; fifos = s.side; stage = stage s.load.0 s.delay.0 }

-- The visit goes on to the state `to`, and none before it to these cells does. After a last visit, `to` is as after any register.
pub record FirstVisit (R : Rules) (n : ℕ) (m : ℕ → Labels) (A : Table) (from : State) (cells : ℕ → Type 0) (code : ℕ) (to : State) : Type 0 where
  pub among : cells to.cell
  pub goes : Goes R m A from to.cell code
  pub is_first : (cell a : ℕ) → cells cell → a ≤ fifo_code → Before cell a to.cell code → Goes R m A from cell a → ⊥
  pub small : code ≤ fifo_code
  pub load : to.load.0 ≡ after_load R from.cell to.cell from.load.0 code
  pub delay : to.delay.0 ≡ after_delay R from.cell to.cell from.load.0 from.delay.0 code
  pub weight : to.weight ≡ after_weight R from.side from.weight code
  pub steps : to.steps ≡ from.steps - 1
  pub slack : to.slack ≡ slack_after R (place_at from) from.slack (record { cell = to.cell; code = code })
  pub side : to.side ≡ side_after from.side code
  pub in_range : InRange n to

pub data ChosenAmong (R : Rules) (n : ℕ) (m : ℕ → Labels) (A : Table) (from : State) (cells : ℕ → Type 0) : Option Visit → Type 0 where
  visit : {v : Visit} → FirstVisit R n m A from cells v.code v.state → ChosenAmong R n m A from cells (Some v)
  nothing : ((cell a : ℕ) → cells cell → a ≤ fifo_code → Goes R m A from cell a → ⊥) → ChosenAmong R n m A from cells None

-- among all cells that a wire joins to the state's
abbrev pub Chosen : Rules → ℕ → (ℕ → Labels) → Table → State → Option Visit → Type 0
Chosen R n m A from choice = ChosenAmong R n m A from (λ cell. T (R.linked from.cell cell)) choice
