-- One case a kind of gate.
use Rattle.std.proofs.Common.{◌-◌, ◌≡◌, refl, sym, ap₂, ◌∙◌, arith, eq-eqb, ne_eqb, to_z-of_z, w32}
use Rattle.timing.specs.Elements.{buffer_of, driver_of}
use Rattle.timing.specs.Formulas.{buffer_driver}
use Rattle.timing.specs.Slack.{smaller}
use Rattle.rules.specs.Rules.{no_gate, is_closing}
use Rattle.plan.proofs.Truth.{is_true, is_false}
use Rattle.rules.proofs.View.{side-kept}
use Rattle.costs.specs.Costs.{buffer_at}
use Rattle.choice.specs.Codes.{left_load, left_delay, left_weight, left_slack}
use Rattle.costs.proofs.Checked.{buffer-driver-fits}
use Rattle.choice.proofs.Codes.{below-open, high-closes}
use Rattle.choice.proofs.leave.Goals as goal

pub returns-in-0 : goal.returns-in-0
unfolding left_load left_delay left_weight left_slack
returns-in-0 c =
    rw c.in-0.is
    (let unclosed = below-open no_gate (omega arith) in
    let passes = is_false (is_closing no_gate) unclosed in
    record { cell = refl; load = refl; delay = refl; weight = simp passes; steps = refl; slack = simp passes; side = sym (side-kept _ no_gate unclosed) })

pub slack-close-requires : goal.slack-close-requires
slack-close-requires c =
    (rw c.gate-gate.ensures c.requires.gate, (rw c.period.ensures c.requires.period, (c.requires.valid.skew, (c.requires.light, omega (arith, c.requires.early)))))

pub start_delay-requires : goal.start_delay-requires
start_delay-requires c =
    rw c.gate-gate.ensures c.requires.gate

pub returns-in_default : goal.returns-in_default
unfolding left_load left_delay left_weight left_slack
returns-in_default c =
    let at = c.args.at in
    let code = c.args.code in
    let shuts = is_true (is_closing code) (high-closes code c.requires.small (omega arith)) in
    let some : code ≡ no_gate → ⊥ = λ e. omega arith in
    let gate = c.gate-gate.ensures in
    let side = c.side_after-side.ensures in
    let own = to_z-of_z {w = w32} {z = at.slack} (record { sfits = c.struct_told-in_default-1.given.1.1.1.1.1.0.1 }) in
    let close = to_z-of_z {w = w32} {z = c.slack-close.result} (record { sfits = c.slack-close.type_inv }) in
    let made = to_z-of_z {w = w32} {z = c.smaller_slack.result} (record { sfits = c.smaller_slack.type_inv }) in
    record {
      cell = refl;
      load = simp (ne_eqb code no_gate some, shuts) (rw gate at c.load-in_default.ensures);
      delay = simp (ne_eqb code no_gate some, shuts) (rw gate at c.start_delay.ensures);
      weight = simp shuts (rw (c.weight.ensures, side) at c.saturating_sub.ensures);
      steps = refl;
      slack = simp shuts (made ∙ (c.smaller_slack.ensures ∙ ap₂ smaller own (close ∙ rw (gate, c.period.ensures) at c.slack-close.ensures)));
      side = side;
    }

pub after-requires : goal.after-requires
unfolding buffer_at buffer_of driver_of
after-requires c =
    let driver : c.driver.result ≡ buffer_driver (buffer_at c.args.net.problem.elements (c.args.code - 1)) = c.driver.ensures in
    (rw driver (buffer-driver-fits c.requires.valid (c.args.code - 1) (omega arith)), (c.requires.light, omega (arith, c.requires.early)))

pub returns-in-1-to-6 : goal.returns-in-1-to-6
unfolding left_load left_delay left_weight left_slack buffer_at buffer_of driver_of
returns-in-1-to-6 c =
    let code = c.args.code in
    let b = buffer_at c.args.net.problem.elements (code - 1) in
    let some : code ≡ no_gate → ⊥ = λ e. omega arith in
    let unclosed = below-open code (omega arith) in
    let passes = is_false (is_closing code) unclosed in
    let driver : c.driver.result ≡ buffer_driver b = c.driver.ensures in
    record {
      cell = refl;
      load = simp (ne_eqb code no_gate some, passes) c.load.ensures;
      delay = simp (ne_eqb code no_gate some, passes) (rw driver at c.after.ensures);
      weight = simp passes;
      steps = refl;
      slack = simp passes (to_z-of_z {w = w32} {z = c.args.at.slack} (record { sfits = c.struct_told-1.given.1.1.1.1.1.0.1 }));
      side = sym (side-kept _ code unclosed);
    }
