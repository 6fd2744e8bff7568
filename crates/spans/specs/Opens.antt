-- What the least delays stand for: where a span has come that early, every legal ending from there makes a legal route. Said for all periods from t on, so that it stays true when the period goes up.
use Rattle.std.specs.Prelude.{ℕ, ◌+◌, ◌*◌, ◌≤◌, ◌≡◌, ◌⊎◌, List, T}
use Rattle.timing.specs.Relaxed.{at_period}
use Rattle.timing.specs.Formulas.{gate_delay, buffer_driver, buffer_load, register_load, setup_delay}
use Rattle.rules.specs.Rules.{Rules, rules_of, register_code}
use Rattle.rules.specs.Legal.{Route, may_stand, legal_from}
use Rattle.rules.specs.Carrying.{Buffering}
use Rattle.rules.specs.Relaxed.{HasRoute}
use Rattle.budget.specs.Done.{stage}
use Rattle.problem.specs.declared.Problem.{Problem}
use Rattle.problem.specs.Problem.{plan_for, rules_for}

-- a span may close at the cell: it is the source, or a register may stand there
abbrev pub MayClose : Rules → ℕ → Type 0
MayClose R cell = (cell ≡ R.source) ⊎ T (may_stand R cell register_code)

module _ (p : Problem) (marks : List ℕ) where
  -- the problem's rules with another period
  unfoldable pub rules_at : ℕ → Rules
  rules_at u = rules_of (plan_for p marks) (at_period u p.elements) p.source p.sink

  module _ (t : ℕ) where
    -- a span has left the cell with this load and delay
    abbrev pub Opens : ℕ → ℕ → ℕ → Type 0
    Opens cell load delay = (u : ℕ) → t ≤ u → (vs : Route) → T (legal_from (rules_at u) cell 0 0 (stage load delay) vs) → HasRoute (rules_at u)

  -- after a register on the cell
  abbrev pub OpensFresh : ℕ → ℕ → Type 0
  OpensFresh t cell = Opens t cell (register_load p.elements.register) (setup_delay p.elements.register)

  module _ (t : ℕ) where
    -- a span has closed at the cell with this delay
    pub record Shuts (cell closing : ℕ) : Type 0 where
      pub at_source : cell ≡ p.source → (u : ℕ) → t ≤ u → closing ≤ 2 * u → HasRoute (rules_at u)
      pub elsewhere : (cell ≡ p.source → ⊥) → (u : ℕ) → t ≤ u → closing ≤ 2 * u → OpensFresh u cell

    -- a span has come to the cell, before its gate there
    pub record Comes (cell load delay : ℕ) : Type 0 where
      pub passes : Opens t cell load delay
      pub buffers : (code : ℕ) → Buffering code → T (may_stand (rules_for p marks) cell code) → buffer_load ((rules_for p marks).buffer code) ≤ p.elements.limit.0 → Opens t cell (buffer_load ((rules_for p marks).buffer code)) (delay + gate_delay (buffer_driver ((rules_for p marks).buffer code)) load)
      pub closes : MayClose (rules_for p marks) cell → Shuts cell (delay + gate_delay ((rules_for p marks).closer cell register_code) load)
