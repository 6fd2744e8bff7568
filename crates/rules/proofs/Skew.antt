-- The skew (document 02, C-16), in its own words: "a closing delay plus twice the skew must be at most 2T", with one clock and with two. Where the skew is 0, the rules are those without one.
use Prim.Native.Nat.{ℕ, ◌+◌, ◌*◌, ◌-◌}
use mathlib.Core.Path.{◌≡◌, refl, sym, ap, ◌∙◌, fun_ext}
use mathlib.Core.Bool.{Bool, true, false}
use native.Mathlib.Omega.{arith}
use borrow.Author.Tests.{lt-ltb, le-ltb, leb-true, leb-false}
use lib.Dec.{leb, ltb}
use Rattle.plan.specs.Plan.{Plan}
use Rattle.timing.specs.declared.elements.Driver.{Driver}
use Rattle.timing.specs.declared.elements.Elements.{Elements}
use Rattle.timing.specs.declared.clocks.Clocks.{Clocks}
use Rattle.timing.specs.Formulas.{gate_delay, skewed, register_driver}
use Rattle.timing.specs.Relaxed.{with_skew}
use Rattle.timing.specs.Slack.{slack_of}
use Rattle.timing.proofs.Skew.{skew-paid, no-skew}
use Rattle.rules.specs.Rules.{Stage, closed_within, site_of, wire_between, rules_of}
use Rattle.rules.specs.Legal.{Visit, arrive, closing, in_time}
use Rattle.rules.specs.Beginning.{Place}
use Rattle.rules.specs.Slack.{slack_at}
use Rattle.rules.specs.Crossing.{gate_for, period_on, rules_between}
use Rattle.rules.specs.Unskewed.{closing_alone, unskewed_rules, unskewed_between}

below_next : (used allowed : ℕ) → ltb used (allowed + 1) ≡ leb used allowed
below_next used allowed = go (leb used allowed) refl
  where
    go : (b : Bool) → leb used allowed ≡ b → ltb used (allowed + 1) ≡ leb used allowed
    go true e = lt-ltb used (allowed + 1) (omega (arith, leb-true used allowed e)) ∙ sym e
    go false e = le-ltb used (allowed + 1) (omega (arith, leb-false used allowed e)) ∙ sym e

paid : (sk : ℕ) (g : Driver) (s : Stage) → s.delay + gate_delay (skewed sk g) s.load ≡ closing_alone g s + 2 * sk
paid sk g s = omega (arith, skew-paid sk g s.load)

-- One clock
module _ (p : Plan) (e : Elements) (from to : ℕ) where
  pub in-time : (span fifos : ℕ) (s : Stage) (v : Visit) → in_time (rules_of p e from to) span fifos s v ≡ leb (closing_alone (register_driver e.register) s + 2 * e.skew) (2 * e.period)
  unfolding in_time closing rules_of
  in-time span fifos s v = rw (paid e.skew (register_driver e.register) s) (below_next _ (2 * e.period))

  -- "The spare figure is after skew."
  pub slack-after-skew : (a : Place) (v : Visit) → slack_at (rules_of p e from to) a v ≡ slack_of (2 * e.period) (closing_alone (register_driver e.register) (arrive (rules_of p e from to) a.cell a.stage v.cell) + 2 * e.skew)
  unfolding slack_at closing rules_of
  slack-after-skew a v =
      let allowed : 2 * e.period + 1 - 1 ≡ 2 * e.period = omega arith in
      rw (allowed, paid e.skew (register_driver e.register) (arrive (rules_of p e from to) a.cell a.stage v.cell))

  -- The rules without a skew read none, and a span closes by document 01's delay.

  pub unskewed-reads-none : (s : ℕ) → unskewed_rules p (with_skew s e) from to ≡ unskewed_rules p e from to
  unfolding unskewed_rules rules_of site_of wire_between with_skew
  unskewed-reads-none s = refl

  pub unskewed-closing : (s : Stage) (cell code : ℕ) → closing (unskewed_rules p e from to) s cell code ≡ closing_alone (register_driver e.register) s
  unfolding unskewed_rules closing
  unskewed-closing s cell code = refl

  -- "A skew of 0 gives the answers of before": these are the rules without one.
  pub rules-unskewed : e.skew ≡ 0 → rules_of p e from to ≡ unskewed_rules p e from to
  unfolding unskewed_rules rules_of
  rules-unskewed none =
      ap (λ (g : Driver). closed_within (rules_of p e from to) (λ cell code. g) (rules_of p e from to).bound) (ap (λ (s : ℕ). skewed s (register_driver e.register)) none ∙ no-skew (register_driver e.register))

-- Two clocks: each side against its own period
module _ (p : Plan) (e : Elements) (x : Clocks) (from to : ℕ) where
  pub in-time-between : (span fifos : ℕ) (s : Stage) (v : Visit) → in_time (rules_between p e x from to) span fifos s v ≡ leb (closing_alone (register_driver (gate_for e x v.code)) s + 2 * e.skew) (2 * period_on e x fifos)
  unfolding in_time closing rules_between
  in-time-between span fifos s v = rw (paid e.skew (register_driver (gate_for e x v.code)) s) (below_next _ (2 * period_on e x fifos))

  pub slack-after-skew-between : (a : Place) (v : Visit) → slack_at (rules_between p e x from to) a v ≡ slack_of (2 * period_on e x a.fifos) (closing_alone (register_driver (gate_for e x v.code)) (arrive (rules_between p e x from to) a.cell a.stage v.cell) + 2 * e.skew)
  unfolding slack_at closing rules_between
  slack-after-skew-between a v =
      let allowed : 2 * period_on e x a.fifos + 1 - 1 ≡ 2 * period_on e x a.fifos = omega arith in
      rw (allowed, paid e.skew (register_driver (gate_for e x v.code)) (arrive (rules_between p e x from to) a.cell a.stage v.cell))

  pub unskewed-between-reads-none : (s : ℕ) → unskewed_between p (with_skew s e) x from to ≡ unskewed_between p e x from to
  unfolding unskewed_between rules_between rules_of site_of wire_between gate_for period_on with_skew
  unskewed-between-reads-none s = refl

  pub unskewed-between-closing : (s : Stage) (cell code : ℕ) → closing (unskewed_between p e x from to) s cell code ≡ closing_alone (register_driver (gate_for e x code)) s
  unfolding unskewed_between closing
  unskewed-between-closing s cell code = refl

  pub between-unskewed : e.skew ≡ 0 → rules_between p e x from to ≡ unskewed_between p e x from to
  unfolding unskewed_between rules_between
  between-unskewed none =
      ap (λ (g : ℕ → Driver). closed_within (rules_between p e x from to) (λ cell. g) (rules_between p e x from to).bound)
      (fun_ext (λ (code : ℕ). ap (λ (s : ℕ). skewed s (register_driver (gate_for e x code))) none ∙ no-skew (register_driver (gate_for e x code))))
