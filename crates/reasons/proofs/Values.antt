-- The answer in its five cases, as the definition computes it.
use Prim.Native.Nat.{ℕ, ◌≤◌, ◌<◌}
use mathlib.Core.Bool.{Bool, true, false}
use mathlib.Core.Path.{◌≡◌, ap, ◌∙◌}
use borrow.Author.Tests.{le-leb, lt-leb}
use Rattle.plan.specs.Plan.{Plan}
use Rattle.timing.specs.declared.elements.Elements.{Elements}
use Rattle.timing.specs.Ranges.{period_max}
use Rattle.timing.specs.Relaxed.{relaxed}
use Rattle.rules.specs.Rules.{rules_of}
use Rattle.answers.specs.declared.refusal.Refusal.{Refusal}
use Rattle.answers.specs.declared.explained.Reason.{Reason}
use Rattle.answers.specs.Numbers.{Explained}
use Rattle.reasons.specs.Reasons.{routed, routed_at, smallest_period, period_reason, reason_for, explained_for}
use Rattle.std.specs.Prelude.{Ok, Err}

module _ (p : Plan) (e : Elements) (a b : ℕ) where
  -- the definition's three tests
  abbrev from_loads : Bool → Reason
  from_loads x = elim x [ false ↦ Reason.Load | true ↦ period_reason (smallest_period p e a b) ]

  abbrev from_chain : Bool → Reason
  from_chain x = elim x [ false ↦ Reason.WalledOff | true ↦ from_loads (routed (rules_of p (relaxed true e) a b)) ]

  abbrev from_route : Bool → Explained
  from_route x = elim x [ true ↦ Err Refusal.RouteExists | false ↦ Ok (reason_for p e a b) ]

  pub explained-exists : routed (rules_of p e a b) ≡ true → explained_for p e a b ≡ Err Refusal.RouteExists
  unfolding explained_for reason_for
  explained-exists is = ap from_route is

  pub explained-because : routed (rules_of p e a b) ≡ false → {r : Reason} → reason_for p e a b ≡ r → explained_for p e a b ≡ Ok r
  unfolding explained_for reason_for
  explained-because is because = ap from_route is ∙ ap Ok because

  pub reason-walled : routed (rules_of p (relaxed false e) a b) ≡ false → reason_for p e a b ≡ Reason.WalledOff
  unfolding reason_for smallest_period routed_at
  reason-walled wall = ap from_chain wall

  module _ (chain : routed (rules_of p (relaxed false e) a b) ≡ true) where
    pub reason-load : routed (rules_of p (relaxed true e) a b) ≡ false → reason_for p e a b ≡ Reason.Load
    unfolding reason_for smallest_period routed_at
    reason-load heavy = ap from_chain chain ∙ ap from_loads heavy

    module _ (light : routed (rules_of p (relaxed true e) a b) ≡ true) where
      by-period : reason_for p e a b ≡ period_reason (smallest_period p e a b)
      unfolding reason_for smallest_period routed_at
      by-period = ap from_chain chain ∙ ap from_loads light

      pub reason-short : period_max < smallest_period p e a b → reason_for p e a b ≡ Reason.TooShort
      unfolding period_reason
      reason-short h = by-period ∙ rw (lt-leb _ _ h)

      pub reason-period : (t : ℕ) → t ≡ smallest_period p e a b → t ≤ period_max → reason_for p e a b ≡ Reason.Period t
      unfolding period_reason
      reason-period t is h = by-period ∙ rw (← is, le-leb _ _ h)
