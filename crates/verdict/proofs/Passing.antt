-- A visit's gate under document 01's rules: what its two tests give, what it leaves and the smallest figure after it, one case a kind of gate, from the load and the capped delay that the code has.
use Prim.Native.Nat.{ℕ, ◌+◌, ◌*◌, ◌-◌, ◌≤◌, min}
use mathlib.Core.Bool.{Bool, true, false, not, ◌||◌}
use mathlib.Core.Path.{◌≡◌, refl, sym, ap, ◌∙◌}
use native.Mathlib.Omega.{arith}
use borrow.Author.Tests.{leb-true, le-leb, le-ltb}
use lib.Dec.{T, leb}
use lib.IntN.{ℤ, pos, negsuc}
use lib.ListN.{get_or}
use lib.Signed.{lt_z, le_z}
use Rattle.plan.specs.Plan.{Plan}
use Rattle.plan.proofs.Truth.{is_true, is_false, or_right}
use Rattle.timing.specs.declared.elements.Elements.{Elements}
use Rattle.timing.specs.declared.elements.Buffer.{Buffer}
use Rattle.timing.specs.Elements.{buffer_of}
use Rattle.timing.specs.Formulas.{gate_delay, buffer_driver, buffer_load, skewed, register_driver, register_load, setup_delay}
use Rattle.timing.specs.Slack.{slack_of, smaller}
use Rattle.timing.specs.Valid.{Valid}
use Rattle.timing.proofs.SlackLaws.{slack-capped}
use Rattle.answers.specs.declared.verdicts.VisitFault.TheVariants.{Load, Period}
use Rattle.rules.specs.Rules.{Stage, Rules, rules_of, no_gate, register_code, is_closing}
use Rattle.rules.specs.Legal.{Visit, arrive, leave, buffered, closing, in_time, load_right, period_right}
use Rattle.rules.specs.Beginning.{Place, next_place}
use Rattle.rules.specs.Slack.{slack_at, slack_after}
use Rattle.rules.proofs.View.{leave_none, leave-buffer, open_code, side_same, side-kept}
use Rattle.rules.proofs.Slack.{slack-in-time}
use Rattle.verdict.specs.Verdict.{right, wrong}
use Rattle.verdict.specs.Gates.{delay_cap, Carries, StepOn, gate_check}
use Rattle.verdict.specs.declared.gates.point.Point.{Point}

-- the buffer with a code
abbrev pub buffer_of_code : Elements → ℕ → Buffer
buffer_of_code e code = get_or e.buffers (code - 1) (buffer_of 0 0 0)

-- the figure that the code has for the close of a span at a point
abbrev pub close_of : Elements → Point → ℤ
close_of e at = slack_of (2 * e.period) (at.delay.0 + gate_delay (skewed e.skew (register_driver e.register)) at.load.0)

-- between the ends the register's own load is within the limit
light-own : (last : Bool) (e : Elements) (own : ℕ) → (last || leb (register_load e.register) e.limit.0) ≡ true → last ≡ false → own ≡ register_load e.register → own ≤ e.limit.0
light-own last e own h f g = rw g (leb-true (register_load e.register) e.limit.0 (rw f at h))

not_negative : (z : ℤ) → le_z (pos 0) z ≡ not (lt_z z (pos 0))
not_negative (pos n) = le-leb 0 n (omega arith) ∙ sym (ap not (le-ltb n 0 (omega arith)))
not_negative (negsuc n) = refl

module _ (P : Plan) (e : Elements) (from to : ℕ) (last : Bool) (a : Place) (cell : ℕ) where
  abbrev R : Rules
  R = rules_of P e from to

  abbrev s : Stage
  s = arrive R a.cell a.stage cell

  abbrev visit : ℕ → Visit
  visit code = record { cell = cell; code = code }

  pub gate-heavy : (code : ℕ) → leb s.load e.limit.0 ≡ false → gate_check R a last (visit code) ≡ wrong Load
  unfolding gate_check load_right rules_of
  gate-heavy code h = rw h

  module _ (light : leb s.load e.limit.0 ≡ true) where
    -- no gate
    gate-plain : gate_check R a last (visit no_gate) ≡ right
    unfolding gate_check load_right period_right leave is_closing rules_of
    gate-plain = rw (light, is_true (last || true) (or_right last true tt))

    pub plain_step : a.fifos ≡ 0 → (at : Point) → Carries at s → at.cell ≡ cell → StepOn e.limit.0 last (gate_check R a last (visit no_gate)) (next_place R a (visit no_gate)) (slack_after R a at.slack (visit no_gate)) at
    unfolding next_place slack_after is_closing
    plain_step none at k c =
        record {
          is_right = gate-plain;
          here = record { cell = c; fifos = side-kept a.fifos no_gate tt ∙ none; carries = rw (leave_none R s no_gate refl) k };
          slack = refl;
          light = λ h. leb-true at.load.0 e.limit.0 (rw (← k.load) at light);
        }

    -- a register or the source
    pub gate-own-heavy : (last || leb (register_load e.register) e.limit.0) ≡ false → gate_check R a last (visit register_code) ≡ wrong Load
    unfolding gate_check load_right leave is_closing rules_of
    gate-own-heavy h = rw (light, h)

    module _ (own : (last || leb (register_load e.register) e.limit.0) ≡ true) (at : Point) (v : Valid e) (k : Carries at s) where
      -- the cap changes no figure
      close-is : slack_at R a (visit register_code) ≡ close_of e at
      unfolding slack_at closing rules_of
      close-is =
          let allowed : 2 * e.period + 1 - 1 ≡ 2 * e.period = omega arith in
          rw (allowed, k.load, k.delay) (sym (slack-capped (2 * e.period) s.delay (gate_delay (skewed e.skew (register_driver e.register)) s.load) delay_cap (omega (arith, v.most))))

      by_sign : (b : Bool) → lt_z (close_of e at) (pos 0) ≡ b → in_time R a.span a.fifos s (visit register_code) ≡ not b
      unfolding rules_of
      by_sign b h =
          let sign : lt_z (slack_at R a (visit register_code)) (pos 0) ≡ b = rw close-is h in
          sym (slack-in-time R a (visit register_code) (omega arith)) ∙ not_negative (slack_at R a (visit register_code)) ∙ ap not sign

      pub gate-late : lt_z (close_of e at) (pos 0) ≡ true → gate_check R a last (visit register_code) ≡ wrong (Period (close_of e at))
      unfolding gate_check load_right period_right leave is_closing rules_of
      gate-late h = rw (light, own, by_sign true h, close-is)

      gate-closed : lt_z (close_of e at) (pos 0) ≡ false → gate_check R a last (visit register_code) ≡ right
      unfolding gate_check load_right period_right leave is_closing rules_of
      gate-closed h = rw (light, own, by_sign false h)

      pub closed-step : lt_z (close_of e at) (pos 0) ≡ false → a.fifos ≡ 0 → (b : Point) → b.cell ≡ cell → b.load.0 ≡ register_load e.register → b.delay.0 ≡ setup_delay e.register → b.slack ≡ smaller at.slack (close_of e at) → StepOn e.limit.0 last (gate_check R a last (visit register_code)) (next_place R a (visit register_code)) (slack_after R a at.slack (visit register_code)) b
      unfolding next_place leave is_closing rules_of setup_delay slack_after
      closed-step h none b c l d z =
          record {
            is_right = gate-closed h;
            here = record { cell = c; fifos = side_same a.fifos register_code (λ z. omega arith) ∙ none; carries = record { load = l; delay = omega (arith, v.register.setup) } };
            slack = z ∙ ap (smaller at.slack) (sym close-is);
            light = λ f. light-own last e b.load.0 own f l;
          }

-- a buffer
module _ (P : Plan) (e : Elements) (from to : ℕ) (a : Place) (cell code : ℕ) (some : code ≡ no_gate → ⊥) (valid : Valid e) (listed : code ≤ e.count) where
  abbrev Q : Rules
  Q = rules_of P e from to

  abbrev t : Stage
  t = arrive Q a.cell a.stage cell

  abbrev here : Visit
  here = record { cell = cell; code = code }

  no_close : T (not (is_closing code))
  no_close = open_code code (λ z. omega (arith, valid.count)) (λ z. omega (arith, valid.count))

  leaves : leave Q t code ≡ record { load = buffer_load (buffer_of_code e code); delay = t.delay + gate_delay (buffer_driver (buffer_of_code e code)) t.load }
  unfolding buffered rules_of
  leaves = leave-buffer Q t code some no_close

  module _ (light : leb t.load e.limit.0 ≡ true) where
    pub buffer-heavy : leb (buffer_load (buffer_of_code e code)) e.limit.0 ≡ false → gate_check Q a false here ≡ wrong Load
    unfolding gate_check load_right rules_of
    buffer-heavy h = rw (light, leaves, h)

    buffer-right : leb (buffer_load (buffer_of_code e code)) e.limit.0 ≡ true → gate_check Q a false here ≡ right
    unfolding gate_check load_right period_right rules_of
    buffer-right h = rw (light, leaves, h, is_false (is_closing code) no_close)

    pub buffer-step : leb (buffer_load (buffer_of_code e code)) e.limit.0 ≡ true → a.fifos ≡ 0 → (at b : Point) → Carries at t → b.cell ≡ cell → b.load.0 ≡ buffer_load (buffer_of_code e code) → b.delay.0 ≡ min (at.delay.0 + gate_delay (buffer_driver (buffer_of_code e code)) at.load.0) delay_cap → b.slack ≡ at.slack → StepOn e.limit.0 false (gate_check Q a false here) (next_place Q a here) (slack_after Q a at.slack here) b
    unfolding next_place slack_after
    buffer-step h none at b k c l d z =
        record {
          is_right = buffer-right h;
          here = record { cell = c; fifos = side-kept a.fifos code no_close ∙ none; carries = rw leaves (record { load = l; delay = d ∙ rw k.load (omega (arith, k.delay)) }) };
          slack = rw (is_false (is_closing code) no_close) z;
          light = λ f. rw l (leb-true (buffer_load (buffer_of_code e code)) e.limit.0 h);
        }
