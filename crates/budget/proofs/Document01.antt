-- Document 01's rules are lawful, whatever the plan and the ends: the theory of the search applies to them. They are the rules with one clock.
use Prim.Native.Nat.{ℕ, ◌≤◌, ◌<◌}
use mathlib.Core.Path.{subst}
use native.Mathlib.Nat.{mul-le-mul}
use native.Mathlib.Omega.{arith}
use lib.Dec.{T}
use Rattle.plan.specs.Plan.{Plan}
use Rattle.timing.specs.declared.elements.Elements.{Elements}
use Rattle.timing.specs.declared.clocks.Clocks.{Clocks}
use Rattle.timing.specs.Valid.{Valid}
use Rattle.timing.specs.Clocks.{one_clock}
use Rattle.timing.proofs.OneClock.{one-valid}
use Rattle.rules.specs.Rules.{Rules, rules_of}
use Rattle.rules.specs.Ranking.{registers}
use Rattle.rules.proofs.Document01.{rules-fifos, rules-weight}
use Rattle.rules.proofs.Clocks.{one-clock}
use Rattle.rules.proofs.Figures.{registers-weigh}
use Rattle.budget.specs.Done.{Lawful}
use Rattle.budget.proofs.Best.{Costs}
use Rattle.budget.proofs.Short.{most_steps, most_weight}
use Rattle.budget.proofs.Clocks.{between-lawful, between-from, between-steps}

module _ (p : Plan) (e : Elements) (from to : ℕ) where
  abbrev R : Rules
  R = rules_of p e from to

  abbrev x : Clocks
  x = one_clock e.period

  pub rules-lawful : Valid e → Lawful R
  rules-lawful valid = subst Lawful (one-clock p e e.period from to) (between-lawful p e x from to valid (one-valid e valid))

  pub rules-from : (c n : ℕ) → T (R.linked c n) → c < R.cell_count
  rules-from c n h = subst (λ (R : Rules). T (R.linked c n) → c < R.cell_count) (one-clock p e e.period from to) (between-from p e x from to c n) h

  module _ (valid : Valid e) (few : R.cell_count ≤ 1024) where
    pub steps-most : most_steps R R.fifos ≤ 134348800
    steps-most =
        subst (λ (R : Rules). R.cell_count ≤ 1024 → R.fifos ≤ 1 → most_steps R R.fifos ≤ 134348800) (one-clock p e e.period from to) (λ few one. between-steps p e x from to valid (one-valid e valid) few _ one) few (omega (arith, rules-fifos p e from to))

    -- 1,025 spans, each of weight 1
    pub weight-most : most_weight R 0 R.fifos ≤ 1025
    unfolding most_weight
    weight-most =
        rw (rules-fifos p e from to) (mul-le-mul {n₂ = 1} {m₂ = 1025} (omega (arith, rules-weight p e from to 0)) (omega arith))

  -- what is ranked first is the registers: one less than the spans
  pub rules-cost : Costs R registers 1
  rules-cost = registers-weigh R (rules-weight p e from to) (rules-fifos p e from to)
