-- Labels for the cells whose fresh state has come into the table: what the functions of sites.rt ask and leave.
use Rattle.std.specs.Prelude.{ℕ, ◌+◌, ◌*◌, ◌≤◌, ◌<◌, ◌≡◌, Bool, ◌⊎◌, List, T, ltb, length, get_or}
use Rattle.timing.specs.declared.elements.Register.{Register}
use Rattle.timing.specs.Formulas.{register_load, setup_delay}
use Rattle.rules.specs.Rules.{Rules, register_code, fifo_code}
use Rattle.rules.specs.Legal.{may_stand}
use Rattle.layout.specs.Layout.{label_words}
use Rattle.lists.specs.Lists.{flag_of}
use Rattle.problem.specs.declared.net.Net.{Net}
use Rattle.table.specs.Problem.{NetReady, Room, budget_of}
use Rattle.labels.specs.Labels.{known_of, weight_of, steps_of, order_of, LabelBy, SetIn, Apart, Ordered}

-- r: the budget table of the words has the state after this gate at the cell
abbrev pub FreshIn : Register → List ℕ → ℕ → Bool → Type 0
FreshIn gate words cell r = (n : ℕ) → cell < n → r ≡ ltb (setup_delay gate) (budget_of n words cell (register_load gate))

-- a gate with this code may stand on routes of the net: a register, or a FIFO with two clocks
abbrev pub GateIn : Net → ℕ → Type 0
GateIn net code = (code ≡ register_code) ⊎ ((code ≡ fifo_code) × (1 ≤ net.clocks.fifos))

-- Before labels of this weight and these steps are added: no label is after them.
pub record LabelAsks (net : Net) (marks : List ℕ) (code set weight steps count : ℕ) (words : List ℕ) : Type 0 where
  pub ready : NetReady net marks
  pub gate : GateIn net code
  pub room : Room (length marks) words
  pub ordered : Ordered (length marks) set words count
  pub last : (c : ℕ) → T (known_of (length marks) set words c) → LabelBy (length marks) set words weight steps c
  pub few : weight < 4294967295
  pub set_in : SetIn (length marks) set words
  pub apart : Apart (length marks) set

-- Labels of this weight and these steps are added to the sites whose fresh state is in the table, at least to those among `tried`; they come last in the order.
-- Only the words of the labels and of the order change.
pub record LabelsAddedAmong (R : Rules) (n code set : ℕ) (tried : ℕ → Type 0) (weight steps : ℕ) (old new : List ℕ) (count next : ℕ) : Type 0 where
  pub same : length new ≡ length old
  pub low : (k : ℕ) → k < set → get_or new k 0 ≡ get_or old k 0
  pub high : (k : ℕ) → set + n * label_words ≤ k → get_or new k 0 ≡ get_or old k 0
  pub ordered : Ordered n set new next
  pub more : count ≤ next
  pub earlier : (i : ℕ) → i < count → order_of n set new i ≡ order_of n set old i
  pub fresh : (i : ℕ) → count ≤ i → i < next → (weight_of n set new (order_of n set new i) ≡ weight) × (steps_of n set new (order_of n set new i) ≡ steps)
  pub kept : (c : ℕ) → T (known_of n set old c) → T (known_of n set new c) × ((weight_of n set new c ≡ weight_of n set old c) × (steps_of n set new c ≡ steps_of n set old c))
  pub added : (c : ℕ) → T (known_of n set new c) → (T (known_of n set old c) → ⊥) → T (may_stand R c code) × (((R.fresh code).delay < budget_of n old c (R.fresh code).load) × ((weight_of n set new c ≡ weight) × (steps_of n set new c ≡ steps)))
  pub every : (c : ℕ) → c < n → tried c → T (may_stand R c code) → (R.fresh code).delay < budget_of n old c (R.fresh code).load → T (known_of n set new c)

-- After `label_active`: every listed cell was tried.
abbrev pub LabelsAdded : Rules → ℕ → ℕ → ℕ → ℕ → ℕ → List ℕ → List ℕ → ℕ → ℕ → Type 0
LabelsAdded R n code set weight steps old new count next = LabelsAddedAmong R n code set (λ c. flag_of n old c ≡ 1) weight steps old new count next
