-- What the functions of a turn ask, and what the smaller ones leave.
use Rattle.std.specs.Prelude.{ℕ, ◌*◌, ◌≤◌, ◌<◌, ◌≡◌, Bool, true, false, List, T, length, get_or}
use Rattle.timing.specs.Formulas.{register_load, setup_delay}
use Rattle.rules.specs.Rules.{Rules, fifo_code}
use Rattle.costs.specs.Costs.{CostsOf}
use Rattle.layout.specs.Layout.{labels_at, exits_at, aside_at, active_at, trail_at}
use Rattle.lists.specs.Lists.{Listed}
use Rattle.problem.specs.declared.net.Net.{Net}
use Rattle.problem.specs.Net.{fifo_of}
use Rattle.table.specs.Problem.{NetReady, Room, net_rules, budget_of}
use Rattle.labels.specs.Labels.{known_of, order_of, SetIn, Ordered}
use Rattle.labels.specs.Additions.{LabelAsks, LabelsAdded}
use Rattle.search.specs.declared.turns.Progress.{Progress}
use Rattle.search.specs.Turn.{FrontOf}

-- a place of a set's order, with a labelled cell
pub record PlaceAsks (n set : ℕ) (words : List ℕ) (at : ℕ) : Type 0 where
  pub set_in : SetIn n set words
  pub within : at < n
  pub cell : order_of n set words at < n
  pub known : T (known_of n set words (order_of n set words at))

pub record QuietAsks (n exits : ℕ) (words : List ℕ) (f : Progress) : Type 0 where
  pub few : n ≤ 1024
  pub room : n * trail_at ≤ length words
  pub near : Ordered n (n * labels_at) words f.count
  pub at_count : f.at ≤ f.count
  pub within : f.exit ≤ exits
  pub exits_in : 0 < exits → n * aside_at ≤ length words
  pub far : 0 < exits → Ordered n (n * exits_at) words exits

-- r: this is the sink's side, and its start state is in the table
pub record AtSink (net : Net) (side : ℕ) (words : List ℕ) (r : Bool) : Type 0 where
  pub yes : r ≡ true → side ≡ 0
  pub comes : r ≡ true → (n : ℕ) → net.problem.sink < n → setup_delay net.problem.elements.register < budget_of n words net.problem.sink (register_load net.problem.elements.register)
  pub not_yet : r ≡ false → side ≡ 0 → (n : ℕ) → net.problem.sink < n → budget_of n words net.problem.sink (register_load net.problem.elements.register) ≤ setup_delay net.problem.elements.register

pub record WatchAsks (net : Net) (marks : List ℕ) (side active weight steps watched : ℕ) (words : List ℕ) : Type 0 where
  pub few : length marks ≤ 1024
  pub label : 0 < side → LabelAsks net marks fifo_code (length marks * exits_at) weight steps watched words
  pub listed : Listed (length marks) words (length marks * active_at) active

-- After `watch`: on the sink's side nothing; else labels are added to the FIFOs that lead here.
pub record WatchDone (R : Rules) (n side weight steps : ℕ) (old new : List ℕ) (watched r : ℕ) : Type 0 where
  pub same : length new ≡ length old
  pub low : (k : ℕ) → k < n * exits_at → get_or new k 0 ≡ get_or old k 0
  pub high : (k : ℕ) → n * aside_at ≤ k → get_or new k 0 ≡ get_or old k 0
  pub none : side ≡ 0 → (k : ℕ) → get_or new k 0 ≡ get_or old k 0
  pub added : 0 < side → LabelsAdded R n fifo_code (n * exits_at) weight steps old new watched r

pub record TurnAsks (net : Net) (marks costs : List ℕ) (side exits : ℕ) (words : List ℕ) (f : Progress) : Type 0 where
  pub ready : NetReady net marks
  pub room : Room (length marks) words
  pub costed : CostsOf net.problem.elements (fifo_of net) costs
  pub side_in : side ≤ net.clocks.fifos
  pub exits_in : 0 < exits → length marks * aside_at ≤ length words
  pub watch_in : 0 < side → length marks * aside_at ≤ length words
  pub front : FrontOf (net_rules net marks) (length marks) side exits words f
