-- Under the rules of before C-17 (rules/specs/KeepOut.antt) `best` is the best route too, or none.
use Prim.Native.Nat.{ℕ, ◌≤◌}
use mathlib.Core.Bool.{not}
use mathlib.Core.Path.{◌≡◌, refl, sym, subst}
use mathlib.Core.Logic.{◌↔◌, ◌⊎◌, inl, inr}
use native.Mathlib.Omega.{arith}
use lib.Dec.{T}
use Rattle.plan.specs.Plan.{Plan}
use Rattle.plan.proofs.Truth.{both, decided, is_false}
use Rattle.timing.specs.declared.elements.Elements.{Elements}
use Rattle.timing.specs.declared.clocks.Clocks.{Clocks}
use Rattle.timing.specs.Valid.{Valid}
use Rattle.timing.specs.Clocks.{one_clock, ValidClocks}
use Rattle.timing.proofs.OneClock.{one-valid}
use Rattle.rules.specs.Rules.{Rules, register_code, fifo_code, is_closing, rules_of}
use Rattle.rules.specs.Legal.{Route, may_stand, legal}
use Rattle.rules.specs.Ranking.{registers, IsBest}
use Rattle.rules.specs.Crossing.{is_fifo, gate_for, period_on, rules_between, crossing_latency}
use Rattle.rules.specs.KeepOut.{tap_last, tap_last_between, on_both}
use Rattle.rules.proofs.View.{closing-codes}
use Rattle.rules.proofs.Figures.{registers-weigh}
use Rattle.rules.proofs.Document01.{rules-fifos, rules-weight}
use Rattle.rules.proofs.KeepOut.{stands-barred, none_free, between-barred}
use Rattle.budget.specs.Done.{Lawful}
use Rattle.budget.proofs.Best.{Costs}
use Rattle.budget.proofs.Document01.{rules-from}
use Rattle.budget.proofs.Clocks.{between-lawful, between-from, latency-cost}
use Rattle.best.specs.Rows.{Bounded}
use Rattle.best.specs.Best.{found, none, best}
use Rattle.best.proofs.Best.{best-is, best_none}

-- a gate that closes no span is never barred
open_free : (p : Plan) (cell code : ℕ) → T (not (is_closing code)) → T (not (on_both p cell code))
unfolding on_both
open_free p cell code h = rw (is_false (is_closing code) h) tt

-- two clocks
module _ (p : Plan) (e : Elements) (x : Clocks) (from to : ℕ) where
  abbrev B : Rules
  B = tap_last_between p e x from to

  codes : Lawful (rules_between p e x from to) → (cell code : ℕ) → T (may_stand B cell code) → code ≤ fifo_code
  codes law cell code h = go (decided (is_closing code))
    where
      closes : (code ≡ register_code) ⊎ (code ≡ fifo_code) → code ≤ fifo_code
      closes (inl q) = omega arith
      closes (inr q) = omega arith

      go : T (is_closing code) ⊎ T (not (is_closing code)) → code ≤ fifo_code
      go (inl k) = closes (closing-codes code k)
      go (inr k) =
          law.codes cell code (subst (λ (R : Rules). T (may_stand R cell code)) (sym (between-barred p e x from to)) (rw (stands-barred B (on_both p) (none_free p) cell code) (both (may_stand B cell code) _ h (open_free p cell code k))))

  pub between-before-lawful : Lawful (rules_between p e x from to) → Lawful B
  unfolding tap_last_between
  between-before-lawful law = record { in_plan = law.in_plan; codes = codes law; steady = law.steady; heavy = law.heavy }

  between-bounded : Bounded B
  unfolding tap_last_between
  between-bounded = record { from_plan = between-from p e x from to }

  module _ (valid : Valid e) (clocks : ValidClocks x) (two : x.fifos ≡ 1) where
    before-lawful : Lawful B
    before-lawful = between-before-lawful (between-lawful p e x from to valid clocks)

    latency : Costs B (crossing_latency x.period e.period) 0
    unfolding tap_last_between
    latency = latency-cost p e x from to B refl (λ f. refl) two

    pub between-before-best : (r : Route) → (best B ≡ found r) ↔ IsBest (crossing_latency x.period e.period) B r
    between-before-best = best-is B before-lawful between-bounded (crossing_latency x.period e.period) 0 latency

    pub between-before-none : (best B ≡ none) ↔ ((r : Route) → T (legal B r) → ⊥)
    between-before-none = best_none B before-lawful between-bounded (crossing_latency x.period e.period) 0 latency

-- one clock
module _ (p : Plan) (e : Elements) (from to : ℕ) (valid : Valid e) where
  abbrev O : Rules
  O = tap_last p e from to

  abbrev x : Clocks
  x = one_clock e.period

  one-before : tap_last_between p e x from to ≡ O
  unfolding tap_last_between tap_last rules_between rules_of is_fifo gate_for period_on one_clock
  one-before = refl

  lawful : Lawful O
  lawful = subst Lawful one-before (between-before-lawful p e x from to (between-lawful p e x from to valid (one-valid e valid)))

  bounded : Bounded O
  unfolding tap_last
  bounded = record { from_plan = rules-from p e from to }

  cost : Costs O registers 1
  unfolding tap_last
  cost = registers-weigh O (rules-weight p e from to) (rules-fifos p e from to)

  pub before-best : (r : Route) → (best O ≡ found r) ↔ IsBest registers O r
  before-best = best-is O lawful bounded registers 1 cost

  pub before-none : (best O ≡ none) ↔ ((r : Route) → T (legal O r) → ⊥)
  before-none = best_none O lawful bounded registers 1 cost
