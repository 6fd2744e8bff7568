-- What a route under stricter tables says about looser ones: a longer period, no delays, no loads. The code asks from the strict side, the definition from the loose one.
use Prim.Native.Nat.{ℕ, ◌≤◌}
use mathlib.Core.Bool.{true, false}
use mathlib.Core.Path.{◌≡◌}
use native.Mathlib.Omega.{arith}
use Rattle.plan.specs.Plan.{Plan}
use Rattle.timing.specs.declared.elements.Elements.{Elements}
use Rattle.timing.specs.Ranges.{period_min, period_max}
use Rattle.timing.specs.Relaxed.{at_period, relaxed}
use Rattle.timing.specs.Valid.{Valid}
use Rattle.timing.proofs.Relaxed.{period-valid, relaxed-valid}
use Rattle.rules.specs.Rules.{rules_of}
use Rattle.rules.proofs.LeftOut.{legal-later, legal-untimed, legal-bare}
use Rattle.reasons.specs.Reasons.{routed, routed_at}
use Rattle.reasons.proofs.Routed.{routed-route, route-routed}

module _ (p : Plan) (e : Elements) (a b : ℕ) (valid : Valid e) where
  -- a longer period keeps a route
  pub later-routed : (t u : ℕ) → period_min ≤ t → t ≤ u → u ≤ period_max → routed_at p e a b t ≡ true → routed_at p e a b u ≡ true
  unfolding routed_at
  later-routed t u least h most is =
      let r = routed-route p (at_period t e) a b (period-valid e t valid least (omega arith)) is in
      route-routed p (at_period u e) a b (period-valid e u valid (omega arith) most) r.route (legal-later p e a b t u h r.route r.is_legal)

  -- a route at any period is one without delays
  pub timed-routed : (t : ℕ) → period_min ≤ t → t ≤ period_max → routed_at p e a b t ≡ true → routed (rules_of p (relaxed true e) a b) ≡ true
  unfolding routed_at
  timed-routed t least most is =
      let r = routed-route p (at_period t e) a b (period-valid e t valid least most) is in
      route-routed p (relaxed true e) a b (relaxed-valid true e valid) r.route (legal-untimed p e a b t r.route r.is_legal)

  -- and that is one without loads
  pub light-routed : routed (rules_of p (relaxed true e) a b) ≡ true → routed (rules_of p (relaxed false e) a b) ≡ true
  light-routed is =
      let r = routed-route p (relaxed true e) a b (relaxed-valid true e valid) is in
      route-routed p (relaxed false e) a b (relaxed-valid false e valid) r.route (legal-bare p e a b r.route r.is_legal)
