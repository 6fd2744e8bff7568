-- A span comes to a cell: what each function asks, and what is then in the scratch words.
use Rattle.std.specs.Prelude.{ℕ, ◌+◌, ◌*◌, ◌≤◌, ◌<◌, List, T, length}
use Rattle.timing.specs.declared.elements.Elements.{Elements}
use Rattle.timing.specs.Formulas.{gate_delay, buffer_driver, buffer_load, register_load}
use Rattle.timing.specs.Valid.{Valid}
use Rattle.rules.specs.Rules.{Rules, register_code}
use Rattle.rules.specs.Legal.{may_stand}
use Rattle.rules.specs.Carrying.{Buffering}
use Rattle.costs.specs.Costs.{buffer_at}
use Rattle.rows.specs.Rows.{view_of}
use Rattle.problem.specs.declared.Problem.{Problem}
use Rattle.queue.specs.Queue.{Space, Queue}
use Rattle.delays.specs.Delays.{latest, closes_of, Falling}
use Rattle.spans.specs.Opens.{MayClose, Shuts, Comes}
use Rattle.spans.specs.Eases.{Ground}

pub record StartAsks (p : Problem) (n : ℕ) (words : List ℕ) (count cell : ℕ) : Type 0 where
  pub valid : Valid p.elements
  pub space : Space n words
  pub queue : Queue n words count
  pub falling : Falling n p.elements.limit.0 words
  pub inside : cell < n
  pub light : register_load p.elements.register ≤ p.elements.limit.0

pub record ArriveAsks (p : Problem) (marks : List ℕ) (t : ℕ) (words : List ℕ) (count cell load delay : ℕ) : Type 0 where
  pub ground : Ground p marks words count
  pub inside : cell < length marks
  pub most : 2 * t ≤ latest
  pub light : load ≤ p.elements.limit.0
  pub early : delay ≤ latest
  pub comes : Comes p marks t cell load delay

-- the first buffers have driven the span
abbrev pub BuffersIn : Elements → List ℕ → ℕ → ℕ → ℕ → ℕ → Type 0
BuffersIn e words cell load delay count =
    (i : ℕ) → i < count → buffer_load (buffer_at e i) ≤ e.limit.0 → delay + gate_delay (buffer_driver (buffer_at e i)) load ≤ latest
    → view_of words cell (buffer_load (buffer_at e i)) ≤ delay + gate_delay (buffer_driver (buffer_at e i)) load

pub record ShutAsks (p : Problem) (marks : List ℕ) (t : ℕ) (words : List ℕ) (count cell closing : ℕ) : Type 0 where
  pub ground : Ground p marks words count
  pub inside : cell < length marks
  pub most : 2 * t ≤ latest
  pub shuts : Shuts p marks t cell closing

abbrev pub ShutIn : ℕ → List ℕ → ℕ → ℕ → Type 0
ShutIn n words cell closing = closing ≤ latest → closes_of n words cell ≤ closing

-- All that a span can do that has come to the cell is in the words.
pub record Arrived (R : Rules) (n : ℕ) (words : List ℕ) (cell load delay : ℕ) : Type 0 where
  pub passes : view_of words cell load ≤ delay
  pub buffers : (code : ℕ) → Buffering code → T (may_stand R cell code) → buffer_load (R.buffer code) ≤ R.limit → delay + gate_delay (buffer_driver (R.buffer code)) load ≤ latest → view_of words cell (buffer_load (R.buffer code)) ≤ delay + gate_delay (buffer_driver (R.buffer code)) load
  pub closes : MayClose R cell → ShutIn n words cell (delay + gate_delay (R.closer cell register_code) load)
