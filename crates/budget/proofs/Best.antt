-- The best route: the sink, then the first ending with the least figures from there. Without an ending from the sink no route is legal.
-- What a route costs is its weight, less a constant: registers count one less than the spans, the latency between two clocks is the weight itself.
use Prim.Native.Nat.{ℕ, ◌+◌, ◌≤◌, ◌<◌}
use mathlib.Core.Path.{◌≡◌, refl, ◌∙◌}
use mathlib.Core.List.{◌∷◌}
use mathlib.Core.Logic.{◌⊎◌, inl, inr}
use native.Mathlib.Omega.{arith}
use lib.Dec.{T}
use lib.ListN.{length}
use Rattle.rules.specs.Rules.{Rules, register_code}
use Rattle.rules.specs.Legal.{Visit, Route, legal}
use Rattle.rules.specs.Ranking.{weigh, steps, ranks_before, IsBest}
use Rattle.plan.proofs.Truth.{split}
use Rattle.rules.proofs.Order.{Earlier, earlier-view, ranks-irreflexive, ranks-transitive, less-cost, fewer-steps, ranks-written}
use Rattle.rules.proofs.Figures.{route-steps}
use Rattle.rules.proofs.View.{Ending, FirstVisit, LegalRoute, ending-view, ending-test, route-view, route-test}
use Rattle.budget.specs.Done.{NotAfter, Least}
use Rattle.budget.specs.Search.{FromSink}
use Rattle.budget.specs.Emission.{visit, FirstEnding}
use Rattle.budget.proofs.Done.{done-light, not-after-refl}
use Rattle.budget.proofs.Emission.{least-exact}

abbrev pub Costs : Rules → (Route → ℕ) → ℕ → Type 0
Costs R cost less = (v : Visit) (vs : Route) → FirstVisit R v → Ending R R.sink 0 0 R.start vs → cost (v ∷ vs) + less ≡ weigh R 0 vs

-- the rest of a legal route is an ending from the sink, with its own figures
from-sink : {R : Rules} {vs : Route} (e : Ending R R.sink 0 0 R.start vs) → FromSink R (weigh R 0 vs) (length vs)
from-sink {vs = vs} e = record { route = vs; ending = ending-test e; within = not-after-refl _ _ }

pub best_none : (R : Rules) → ((w s : ℕ) → FromSink R w s → ⊥) → (r : Route) → T (legal R r) → ⊥
best_none R nothing r h = go (route-view R r h)
  where
    go : {r : Route} → LegalRoute R r → ⊥
    go (LegalRoute.starts f e) = nothing _ _ (from-sink e)

-- the sink, then an ending of its least figures
module _ (R : Rules) (w s : ℕ) (least : Least R 0 w s R.sink R.start.load R.start.delay) (in_plan : R.sink < R.cell_count) where
  sinks : FirstVisit R (visit R.sink register_code)
  sinks = record { at_sink = refl; code = refl; in_plan = in_plan; light = done-light least.enough }

  least-ending : Ending R R.sink 0 0 R.start least.enough.route
  least-ending = ending-view R R.sink 0 0 R.start least.enough.route least.enough.ending

  pub least-legal : T (legal R (visit R.sink register_code ∷ least.enough.route))
  least-legal = route-test (LegalRoute.starts sinks least-ending)

  -- a best route has the least figures
  pub best-figures : (cost : Route → ℕ) (less : ℕ) → Costs R cost less → (r : Route) → IsBest cost R r → (cost r + less ≡ w) × (steps r ≡ s)
  best-figures cost less costs r b = go (route-view R r b.is_legal) b
    where
      vs : Route
      vs = least.enough.route

      other : Route
      other = visit R.sink register_code ∷ vs

      exact : (weigh R 0 vs ≡ w) × (length vs ≡ s)
      exact = least-exact least vs least.enough.ending least.enough.within

      dear : cost other + less ≡ w
      dear = costs (visit R.sink register_code) vs sinks least-ending ∙ exact.0

      long : steps other ≡ s
      long = route-steps (visit R.sink register_code) vs ∙ exact.1

      go : {r : Route} → LegalRoute R r → IsBest cost R r → (cost r + less ≡ w) × (steps r ≡ s)
      go (LegalRoute.starts {v = x} {vs = ws} f e) b = by (least.least _ _ (from-sink e)) (split (length ws) s)
        where
          by : NotAfter w s (weigh R 0 ws) (length ws) → (length ws ≤ s) ⊎ (s < length ws) → (cost (x ∷ ws) + less ≡ w) × (steps (x ∷ ws) ≡ s)
          by (inl a) q = absurd (b.is_first other least-legal (less-cost cost other (x ∷ ws) (omega (arith, dear, costs x ws f e))))
          by (inr a) (inl q) = (omega (arith, costs x ws f e), omega (arith, route-steps x ws))
          by (inr a) (inr q) = absurd (b.is_first other least-legal (fewer-steps cost other (x ∷ ws) (omega (arith, dear, costs x ws f e)) (omega (arith, long, route-steps x ws))))

module _ (R : Rules) (cost : Route → ℕ) (less : ℕ) (costs : Costs R cost less) (w s : ℕ) (least : Least R 0 w s R.sink R.start.load R.start.delay) (vs : Route) (first : FirstEnding R 0 w s R.sink R.start.load R.start.delay vs) (in_plan : R.sink < R.cell_count) where
  abbrev best : Route
  best = visit R.sink register_code ∷ vs

  ending : Ending R R.sink 0 0 R.start vs
  ending = ending-view R R.sink 0 0 R.start vs first.is_legal

  pub best-cost : cost (visit R.sink register_code ∷ vs) + less ≡ w
  best-cost = costs (visit R.sink register_code) vs (sinks R w s least in_plan) ending ∙ first.weighs

  pub best-steps : steps (visit R.sink register_code ∷ vs) ≡ s
  best-steps = route-steps (visit R.sink register_code) vs ∙ first.steps

  -- a route that ranks before has no lesser figures, so the same, and its ending comes before the first
  none_before : {q : Route} → LegalRoute R q → T (ranks_before cost q best) → ⊥
  none_before (LegalRoute.starts {v = x} {vs = ws} f e) h = go (least.least _ _ (from-sink e)) (split (length ws) s)
    where
      never : T (ranks_before cost best (x ∷ ws)) → ⊥
      never b = ranks-irreflexive cost best (ranks-transitive cost best (x ∷ ws) best b h)

      same : weigh R 0 ws ≡ w → length ws ≡ s → ⊥
      same p q =
          let as-dear : cost (x ∷ ws) ≡ cost best = omega (arith, best-cost, costs x ws f e) in
          let as_long : steps (x ∷ ws) ≡ steps best = omega (arith, best-steps, route-steps x ws) in
          by (earlier-view x (visit R.sink register_code) ws vs (rw (ranks-written cost (x ∷ ws) best as-dear as_long) at h))
        where
          by : Earlier x ws (visit R.sink register_code) vs → ⊥
          by (Earlier.by-cell b) = omega (arith, f.at_sink)
          by (Earlier.by_code a b) = omega (arith, f.code)
          by (Earlier.by-rest a b) = first.is_first ws (ending-test e) p q b

      go : NotAfter w s (weigh R 0 ws) (length ws) → (length ws ≤ s) ⊎ (s < length ws) → ⊥
      go (inl a) b = never (less-cost cost best (x ∷ ws) (omega (arith, best-cost, costs x ws f e)))
      go (inr a) (inl b) = same (omega arith) (omega arith)
      go (inr a) (inr b) = never (fewer-steps cost best (x ∷ ws) (omega (arith, best-cost, costs x ws f e)) (omega (arith, best-steps, route-steps x ws)))

  pub best-found : IsBest cost R (visit R.sink register_code ∷ vs)
  best-found = record { is_legal = route-test (LegalRoute.starts (sinks R w s least in_plan) ending); is_first = λ q l. none_before (route-view R q l) }
