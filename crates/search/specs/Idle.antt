-- Two rows of costs compared, and what follows for the gates of a net.
use Rattle.std.specs.Prelude.{ℕ, ◌+◌, ◌≤◌, ◌<◌, min, ◌≡◌, Bool, true, false, List, get_or}
use Rattle.timing.specs.Formulas.{wire_load}
use Rattle.costs.specs.Costs.{row_words, register_at, fifo_at}
use Rattle.problem.specs.declared.net.Net.{Net}
use Rattle.table.specs.Problem.{net_rules}
use Rattle.labels.specs.declared.both.Idle.{Idle}
use Rattle.labels.specs.Idle.{IdleRight}

-- a load from `from` on at which the row at `a` costs less than the row at `b`
pub record Less (costs : List ℕ) (a b from : ℕ) : Type 0 where
  pub load : ℕ
  pub above : from ≤ load
  pub within : load < row_words
  pub less : get_or costs (a + load) 0 < get_or costs (b + load) 0

-- r: there is none
pub record NoLess (costs : List ℕ) (a b from : ℕ) (r : Bool) : Type 0 where
  pub yes : r ≡ true → (l : ℕ) → from ≤ l → l < row_words → get_or costs (b + l) 0 ≤ get_or costs (a + l) 0
  pub no : r ≡ false → Less costs a b from

-- the registers' row and the FIFOs'
pub record IdleFrom (costs : List ℕ) (from : ℕ) (r : Idle) : Type 0 where
  pub registers : NoLess costs register_at fifo_at from r.registers
  pub fifos : NoLess costs fifo_at register_at from r.fifos

-- After `idle_gates`: right by the rules of the net on any marks; with labels of FIFOs the rows are compared from the lesser load of a wire on.
pub record IdleIn (net : Net) (costs : List ℕ) (exits : ℕ) (r : Idle) : Type 0 where
  pub right : (marks : List ℕ) → IdleRight (net_rules net marks) r
  pub told : 0 < exits → IdleFrom costs (min (wire_load net.problem.elements.horizontal) (wire_load net.problem.elements.vertical)) r
