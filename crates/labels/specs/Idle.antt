-- Gates that close a span no quicker than those of the other code.
use Rattle.std.specs.Prelude.{ℕ, ◌≤◌, false, T}
use Rattle.rules.specs.Rules.{Rules, register_code, fifo_code}
use Rattle.budget.specs.Table.{load_at, close_cost}
use Rattle.labels.specs.declared.both.Idle.{Idle}

abbrev pub no_idle : Idle
no_idle = record { registers = false; fifos = false }

-- on arrival over any wire, a gate of code a adds no less delay than one of code b
abbrev pub NoQuicker : Rules → ℕ → ℕ → Type 0
NoQuicker R a b =
    (n c l : ℕ) → T (R.linked c n) → load_at R c n l ≤ R.limit → close_cost R n b (load_at R c n l) ≤ close_cost R n a (load_at R c n l)

-- those that are called idle are
pub record IdleRight (R : Rules) (idle : Idle) : Type 0 where
  pub registers : T idle.registers → NoQuicker R register_code fifo_code
  pub fifos : T idle.fifos → NoQuicker R fifo_code register_code
