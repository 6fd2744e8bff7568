-- Document 01's rules: `best` is their best route, by registers, or none; its figures fit 32 bits.
use Prim.Native.Nat.{ℕ, ◌+◌, ◌*◌, ◌≤◌, ◌<◌}
use mathlib.Core.Path.{◌≡◌}
use mathlib.Core.Logic.{◌↔◌}
use native.Mathlib.Nat.{mul-le-mul}
use native.Mathlib.Omega.{arith}
use lib.Dec.{T}
use Rattle.plan.specs.Plan.{Plan, cells, Sized}
use Rattle.timing.specs.declared.elements.Elements.{Elements}
use Rattle.timing.specs.Valid.{Valid}
use Rattle.rules.specs.Rules.{rules_of}
use Rattle.rules.specs.Legal.{Route, legal}
use Rattle.rules.specs.Ranking.{registers, steps, latency, IsBest}
use Rattle.rules.proofs.Document01.{rules-cell_count}
use Rattle.budget.proofs.Short.{most_steps, most_weight}
use Rattle.budget.proofs.Document01.{rules-lawful, rules-from, steps-most, weight-most, rules-cost}
use Rattle.best.specs.Rows.{Bounded}
use Rattle.best.specs.Best.{found, none, best}
use Rattle.best.proofs.Best.{best-is, best_none, best-most}

module _ (p : Plan) (e : Elements) (from to : ℕ) where
  pub rules-bounded : Bounded (rules_of p e from to)
  rules-bounded = record { from_plan = rules-from p e from to }

  module _ (valid : Valid e) where
    pub rules-best : (r : Route) → (best (rules_of p e from to) ≡ found r) ↔ IsBest registers (rules_of p e from to) r
    rules-best = best-is (rules_of p e from to) (rules-lawful p e from to valid) rules-bounded registers 1 (rules-cost p e from to)

    pub rules-none : (best (rules_of p e from to) ≡ none) ↔ ((r : Route) → T (legal (rules_of p e from to) r) → ⊥)
    rules-none = best_none (rules_of p e from to) (rules-lawful p e from to valid) rules-bounded registers 1 (rules-cost p e from to)

    -- 32 · 32 cells at most
    module _ (sized : Sized p) (r : Route) (h : IsBest registers (rules_of p e from to) r) where
      cells-most : (rules_of p e from to).cell_count ≤ 1024
      unfolding cells
      cells-most = rw (rules-cell_count p e from to) (mul-le-mul {n₂ = 32} {m₂ = 32} sized.narrow sized.low)

      most : (steps r ≤ most_steps (rules_of p e from to) (rules_of p e from to).fifos) × (registers r + 1 ≤ most_weight (rules_of p e from to) 0 (rules_of p e from to).fifos)
      most = best-most (rules_of p e from to) (rules-lawful p e from to valid) rules-bounded registers 1 (rules-cost p e from to) r h

      pub registers-fit : registers r ≤ 1024
      registers-fit = omega (arith, most.1, weight-most p e from to valid cells-most)

      pub steps-fit : steps r < 4294967296
      steps-fit = omega (arith, most.0, steps-most p e from to valid cells-most)

      pub latency-fits : latency e.period r < 4294967296
      unfolding latency
      latency-fits =
          let most : e.period * (registers r + 1) ≤ 30750000 = mul-le-mul {n₂ = 30000} {m₂ = 1025} valid.most (omega (arith, registers-fit)) in
          omega arith
