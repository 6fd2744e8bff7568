-- The rules without a skew, as before C-16 (document 02): those of now, their sites too, but for what drives a span that closes, which has its own delay alone. Nothing else in the rules reads the skew (`unskewed-reads-none` in proofs/Skew.antt).
use Rattle.std.specs.Prelude.{ℕ, ◌+◌}
use Rattle.plan.specs.Plan.{Plan}
use Rattle.timing.specs.declared.elements.Driver.{Driver}
use Rattle.timing.specs.declared.elements.Elements.{Elements}
use Rattle.timing.specs.declared.clocks.Clocks.{Clocks}
use Rattle.timing.specs.Formulas.{gate_delay, register_driver}
use Rattle.rules.specs.Rules.{Stage, Rules, closed_within, rules_of}
use Rattle.rules.specs.Crossing.{gate_for, rules_between}

-- document 01's closing delay of a span that comes to this gate: "delay + 2·(R·load + K)"
abbrev pub closing_alone : Driver → Stage → ℕ
closing_alone g s = s.delay + gate_delay g s.load

-- one clock
unfoldable pub unskewed_rules : Plan → Elements → ℕ → ℕ → Rules
unskewed_rules p e from to =
    let R : Rules = rules_of p e from to in
    closed_within R (λ cell code. register_driver e.register) R.bound

-- two clocks
unfoldable pub unskewed_between : Plan → Elements → Clocks → ℕ → ℕ → Rules
unskewed_between p e x from to =
    let R : Rules = rules_between p e x from to in
    closed_within R (λ cell code. register_driver (gate_for e x code)) R.bound
