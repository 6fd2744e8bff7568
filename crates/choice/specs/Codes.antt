-- The codes at one cell. The state `at` is on arrival there, before the gate, with the steps to go after the visit.
use Rattle.std.specs.Prelude.{ℕ, ◌+◌, ◌-◌, ◌*◌, ◌≤◌, ◌<◌, ◌≡◌, Bool, ◌&&◌, cond, Option, MatchOption, List, T, eqb, leb, ltb, ℤ, length}
use Rattle.timing.specs.declared.elements.Wire.{Wire}
use Rattle.timing.specs.declared.elements.Register.{Register}
use Rattle.timing.specs.declared.elements.Elements.{Elements}
use Rattle.timing.specs.Ranges.{load_max, period_max}
use Rattle.timing.specs.Formulas.{gate_delay, skewed, buffer_driver, buffer_load, register_driver, register_load, setup_delay}
use Rattle.timing.specs.Slack.{slack_of, smaller}
use Rattle.timing.specs.Elements.{WireInRange, RegisterInRange}
use Rattle.timing.specs.Valid.{Valid}
use Rattle.rules.specs.Rules.{Rules, no_gate, register_code, fifo_code, is_closing, side_after}
use Rattle.rules.specs.Legal.{may_stand}
use Rattle.rules.specs.Crossing.{gate_for, period_on}
use Rattle.budget.specs.Table.{Table, buffer_cost, load_of, close_cost}
use Rattle.budget.specs.Done.{Labels}
use Rattle.budget.specs.Emission.{exact_seed}
use Rattle.costs.specs.Costs.{row_words, buffer_at}
use Rattle.layout.specs.Layout.{aside_at}
use Rattle.rows.specs.Rows.{view_of}
use Rattle.problem.specs.declared.net.Net.{Net}
use Rattle.problem.specs.Net.{weight_on}
use Rattle.table.specs.Problem.{net_rules, NetReady, Room}
use Rattle.choice.specs.declared.State.{State}
use Rattle.choice.specs.Choice.{delay_most, sides_most, ChooseAsks}

-- the largest delay on arrival: one step of wire more, 255 · (2 · 63 + 63) half-ticks
abbrev pub arrival_most : ℕ
arrival_most = delay_most + 48195

-- checked tables, a load and a delay in range, and the cell's row in the words
pub record RowAsks (e : Elements) (words : List ℕ) (at : State) : Type 0 where
  pub valid : Valid e
  pub row : at.cell * 64 + row_words ≤ length words
  pub light : at.load.0 ≤ load_max
  pub early : at.delay.0 ≤ arrival_most

-- a cell of the plan, and the words have room for the sets of labels: of registers, and of so many FIFOs
pub record SeedAsks (n exits : ℕ) (words : List ℕ) (at : State) : Type 0 where
  pub small : n ≤ 1024
  pub room : Room n words
  pub exits_in : 0 < exits → n * aside_at ≤ length words
  pub in_plan : at.cell < n

pub record CodeAsks (net : Net) (marks : List ℕ) (exits : ℕ) (words : List ℕ) (at : State) : Type 0 where
  pub ready : NetReady net marks
  pub room : Room (length marks) words
  pub exits_in : 0 < exits → length marks * aside_at ≤ length words
  pub in_plan : at.cell < length marks
  pub light : at.load.0 ≤ load_max
  pub early : at.delay.0 ≤ arrival_most

-- the neighbour's number, which is the number of cells where there is none, and the wire to it
pub record TryAsks (net : Net) (marks : List ℕ) (exits : ℕ) (words : List ℕ) (from : State) (cell : ℕ) (wire : Wire) : Type 0 where
  pub asks : ChooseAsks net marks exits words from
  pub within : cell ≤ length marks
  pub joined : cell < length marks → T ((net_rules net marks).linked from.cell cell)
  pub same : cell < length marks → (net_rules net marks).wire from.cell cell ≡ wire
  pub wire_fits : WireInRange wire

-- these labels, of gates of one code, have one at the cell with the weight to go and no more than the steps to go
abbrev pub seed_in : Labels → State → Bool
seed_in m at = exact_seed (λ code. m) at.weight at.steps register_code at.cell

-- what `goes_on` asks of the code, once the wire is passed
unfoldable pub goes_at : Rules → (ℕ → Labels) → Table → State → ℕ → Bool
goes_at R m A at code =
    cond (eqb code no_gate) (may_stand R at.cell no_gate && ltb at.delay.0 (A at.cell at.load.0))
    (cond (is_closing code)
    (exact_seed m at.weight at.steps code at.cell && ltb (at.delay.0 + close_cost R at.cell code at.load.0) (R.bound 0 at.side))
    (may_stand R at.cell code
    && leb (load_of R code) R.limit
    && ltb (at.delay.0 + buffer_cost R code at.load.0) (A at.cell (load_of R code))))

-- no code below this one goes on
abbrev pub NoneGoes : Rules → (ℕ → Labels) → Table → State → ℕ → Type 0
NoneGoes R m A at code = (a : ℕ) → a < code → T (goes_at R m A at a) → ⊥

-- this code is the first that goes on
pub record GoesFirst (R : Rules) (m : ℕ → Labels) (A : Table) (at : State) (code : ℕ) : Type 0 where
  pub within : code ≤ fifo_code
  pub goes : T (goes_at R m A at code)
  pub is_first : NoneGoes R m A at code

-- r is the first code that goes on, if one does; the table's words have 16 bits
pub record FirstCode (R : Rules) (m : ℕ → Labels) (A : Table) (at : State) (r : Option ℕ) : Type 0 where
  pub told : MatchOption r (NoneGoes R m A at (fifo_code + 1)) (GoesFirst R m A at)
  pub bounded : (c l : ℕ) → A c l ≤ delay_most

-- buffer i, of code i + 1, leads into the table
unfoldable pub drives : List ℕ → Elements → State → ℕ → Bool
drives words e at i =
    leb (buffer_load (buffer_at e i)) e.limit.0
    && ltb (at.delay.0 + gate_delay (buffer_driver (buffer_at e i)) at.load.0) (view_of words at.cell (buffer_load (buffer_at e i)))

-- no buffer below this one does
abbrev pub NoneDrives : List ℕ → Elements → State → ℕ → Type 0
NoneDrives words e at i = (j : ℕ) → j < i → T (drives words e at j) → ⊥

-- buffer i is the first that does
pub record DrivesFirst (words : List ℕ) (e : Elements) (at : State) (i : ℕ) : Type 0 where
  pub within : i < e.count
  pub found : T (drives words e at i)
  pub is_first : NoneDrives words e at i

-- r is the first buffer that does, if one does
abbrev pub FirstBuffer : List ℕ → Elements → State → Option ℕ → Type 0
FirstBuffer words e at r = MatchOption r (NoneDrives words e at e.count) (DrivesFirst words e at)

-- what closes a span with this code, and the period of the current span

abbrev pub gate_at : Net → ℕ → Register
gate_at net code = gate_for net.problem.elements net.clocks code

abbrev pub period_at : Net → State → ℕ
period_at net at = period_on net.problem.elements net.clocks at.side

-- before a gate: checked tables, and a state on arrival in range
pub record LeaveAsks (net : Net) (at : State) (code : ℕ) : Type 0 where
  pub valid : Valid net.problem.elements
  pub gate : RegisterInRange (gate_at net code)
  pub period : period_at net at ≤ period_max
  pub light : at.load.0 ≤ load_max
  pub early : at.delay.0 ≤ arrival_most
  pub few : at.side ≤ sides_most
  pub small : code ≤ fifo_code

-- the spare figure of a span that closes here with this code
abbrev pub slack_with : Net → State → ℕ → ℤ
slack_with net at code =
    slack_of (2 * period_at net at) (at.delay.0 + gate_delay (skewed net.problem.elements.skew (register_driver (gate_at net code))) at.load.0)

-- the load and the delay after the gate with this code
unfoldable pub left_load : Net → State → ℕ → ℕ
left_load net at code =
    cond (eqb code no_gate) at.load.0
    (cond (is_closing code) (register_load (gate_at net code)) (buffer_load (buffer_at net.problem.elements (code - 1))))

unfoldable pub left_delay : Net → State → ℕ → ℕ
left_delay net at code =
    cond (eqb code no_gate) at.delay.0
    (cond (is_closing code) (setup_delay (gate_at net code))
    (at.delay.0 + gate_delay (buffer_driver (buffer_at net.problem.elements (code - 1))) at.load.0))

-- the weight to go after it: after a close the next span is the current one
unfoldable pub left_weight : Net → State → ℕ → ℕ
left_weight net at code =
    cond (is_closing code) (at.weight - weight_on net.problem.elements net.clocks (side_after at.side code)) at.weight

-- the smallest spare figure after it
unfoldable pub left_slack : Net → State → ℕ → ℤ
left_slack net at code = cond (is_closing code) (smaller at.slack (slack_with net at code)) at.slack

-- `to` is the state after the gate
pub record Left (net : Net) (at : State) (code : ℕ) (to : State) : Type 0 where
  pub cell : to.cell ≡ at.cell
  pub load : to.load.0 ≡ left_load net at code
  pub delay : to.delay.0 ≡ left_delay net at code
  pub weight : to.weight ≡ left_weight net at code
  pub steps : to.steps ≡ at.steps
  pub slack : to.slack ≡ left_slack net at code
  pub side : to.side ≡ side_after at.side code
