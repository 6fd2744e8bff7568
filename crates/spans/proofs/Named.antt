-- The problem's rules by its own names.
use Prim.Native.Nat.{ℕ, suc, ◌-◌}
use mathlib.Core.Path.{◌≡◌, refl}
use mathlib.Core.List.{List}
use native.Mathlib.Omega.{arith}
use Rattle.rules.specs.Rules.{rules_of}
use Rattle.costs.specs.Costs.{buffer_at}
use Rattle.problem.specs.declared.Problem.{Problem}
use Rattle.problem.specs.Problem.{rules_for}

module _ (p : Problem) (marks : List ℕ) where
  pub buffer-named : (i : ℕ) → (rules_for p marks).buffer (suc i) ≡ buffer_at p.elements i
  unfolding rules_for rules_of buffer_at
  buffer-named i =
      let z : suc i - 1 ≡ i = omega arith in
      rw z

  pub limit-named : (rules_for p marks).limit ≡ p.elements.limit.0
  unfolding rules_for rules_of
  limit-named = refl
