-- What the search found is the best route's figures; what it did not find is no route.
use Prim.Native.Nat.{ℕ, ◌+◌, ◌*◌, ◌≤◌, ◌<◌}
use mathlib.Core.Path.{◌≡◌, refl}
use mathlib.Core.List.{List, [], ◌∷◌}
use native.Mathlib.Omega.{arith}
use lib.Dec.{T}
use lib.ListN.{length}
use Rattle.rules.specs.Rules.{Rules, rules_of}
use Rattle.rules.specs.Legal.{Route, legal}
use Rattle.rules.proofs.Document01.{rules-weight}
use Rattle.rules.proofs.Figures.{route-steps}
use Rattle.rules.specs.Ranking.{registers, steps, latency, IsBest}
use Rattle.budget.proofs.Best as figures
use Rattle.budget.specs.Search.{FromSink}
use Rattle.budget.proofs.Best.{Costs}
use Rattle.budget.proofs.Document01.{rules-cost}
use Rattle.best.specs.Best.{Outcome, found, none, best}
use Rattle.best.proofs.Document01.{rules-best, rules-none, registers-fit, steps-fit, latency-fits}
use Rattle.problem.specs.declared.Problem.{Problem}
use Rattle.problem.specs.Problem.{plan_for, rules_for, Ready}
use Rattle.search.specs.Turn.{Reaching}
use Rattle.problem.proofs.Sizes.{cells_are}

pub record BestIs (R : Rules) (period k s : ℕ) : Type 0 where
  pub route : Route
  pub is_best : IsBest registers R route
  pub is_found : best R ≡ found route
  pub registers_are : registers route ≡ k
  pub steps_are : steps route ≡ s
  pub visits_are : length route ≡ s + 1
  pub registers_fit : k ≤ 1024
  pub steps_fit : s < 4294967296
  pub latency_fits : period * (k + 1) < 4294967296

-- the sink is counted as a visit, not as a step
some-visit : (R : Rules) (r : Route) → T (legal R r) → length r ≡ steps r + 1
unfolding legal
some-visit R [] h = absurd h
some-visit R (v ∷ vs) h = omega (arith, route-steps v vs)

module _ (p : Problem) (marks : List ℕ) (ready : Ready p marks) where
  abbrev R : Rules
  R = rules_for p marks

  pub sink-in : R.sink < R.cell_count
  unfolding rules_for rules_of
  sink-in = omega (arith, ready.sink, cells_are p marks ready)

  found-best : (r : Route) → best R ≡ found r → IsBest registers R r
  unfolding rules_for
  found-best r e = (rules-best (plan_for p marks) p.elements p.source p.sink ready.valid r).0 e

  none-legal : best R ≡ none → (r : Route) → T (legal R r) → ⊥
  unfolding rules_for
  none-legal e = (rules-none (plan_for p marks) p.elements p.source p.sink ready.valid).0 e

  pub cost : Costs R registers 1
  unfolding rules_for
  cost = rules-cost (plan_for p marks) p.elements p.source p.sink

  one : R.weight 0 ≡ 1
  unfolding rules_for
  one = rules-weight (plan_for p marks) p.elements p.source p.sink 0

  pub best-is-none : ((a b : ℕ) → FromSink R a b → ⊥) → best R ≡ none
  unfolding rules_for
  best-is-none h = (rules-none (plan_for p marks) p.elements p.source p.sink ready.valid).1 (figures.best_none R h)

  fits : (r : Route) → IsBest registers R r → (registers r ≤ 1024) × ((steps r < 4294967296) × (latency p.elements.period r < 4294967296))
  unfolding rules_for
  fits r h = (
    registers-fit (plan_for p marks) p.elements p.source p.sink ready.valid ready.sized r h,
    (
      steps-fit (plan_for p marks) p.elements p.source p.sink ready.valid ready.sized r h,
      latency-fits (plan_for p marks) p.elements p.source p.sink ready.valid ready.sized r h,
    ),
  )

  pub best-is : (n exits : ℕ) (words : List ℕ) (k s count : ℕ) → Reaching R n exits words k s count → BestIs R p.elements.period k s
  unfolding latency
  best-is n exits words k s count x = go (best R) refl
    where
      go : (o : Outcome) → best R ≡ o → BestIs R p.elements.period k s
      go none e = absurd (none-legal e _ (figures.least-legal R (R.weight 0 + k) s x.least sink-in))
      go (found r) e =
          let b = found-best r e in
          let f = figures.best-figures R (R.weight 0 + k) s x.least sink-in registers 1 cost r b in
          let few : registers r ≡ k = omega (arith, f.0, one) in
          let q = fits r b in
          record {
            route = r;
            is_best = b;
            is_found = e;
            registers_are = few;
            steps_are = f.1;
            visits_are = omega (arith, f.1, some-visit R r b.is_legal);
            registers_fit = rw few at q.0;
            steps_fit = rw f.1 at q.1.0;
            latency_fits = rw few at q.1.1;
          }
