-- Each test of the definition is one of document 02's sentences, for a question that the checks pass.
-- Idea: without delays the period test always passes; without loads too, every chain of uncut wires is a route.
use Prim.Native.Nat.{ℕ, ◌≤◌}
use mathlib.Core.Bool.{Bool, true, false}
use mathlib.Core.Path.{◌≡◌, sym, subst}
use lib.Dec.{T}
use Rattle.plan.specs.Plan.{Plan, plan_of, cells}
use Rattle.timing.specs.declared.elements.Elements.{Elements}
use Rattle.timing.specs.Ranges.{period_min, period_max}
use Rattle.timing.specs.Relaxed.{at_period, relaxed}
use Rattle.timing.specs.Valid.{Valid}
use Rattle.timing.proofs.Relaxed.{own-period, period-valid, relaxed-valid}
use Rattle.rules.specs.Legal.{Route, legal}
use Rattle.rules.specs.Relaxed.{fits, Chain, HasRoute}
use Rattle.rules.proofs.LeftOut.{fits-untimed, legal-later, chain-bare, route-chain}
use Rattle.answers.specs.Tables.{elements_of}
use Rattle.answers.proofs.GoodEnds.{GoodEnds, ends-good}
use Rattle.question.specs.Question.{Question, rules_asked, cells_asked, passes}
use Rattle.question.proofs.Checks.{passed}
use Rattle.router.specs.Route.{checks}
use Rattle.router.proofs.Passed.{passed-valid}
use Rattle.reasons.specs.Explains.{NoRoute, rules_at}
use Rattle.reasons.specs.Reasons.{routed, routed_at, rules_with}
use Rattle.reasons.proofs.Routed.{routed-route, routed-none, route-routed, none-routed}

abbrev pub plan_in : Question → Plan
plan_in q = plan_of q.width q.height q.marks

abbrev pub tables_in : Question → Elements
tables_in q = elements_of q.tables q.buffers

-- whether a route exists at a period
abbrev pub routes_at : Question → ℕ → Bool
routes_at q t = routed_at (plan_in q) (tables_in q) q.source q.sink t

module _ (q : Question) (scratch : ℕ) (pass : checks q scratch ≡ passes) where
  abbrev p : Plan
  p = plan_in q

  abbrev e : Elements
  e = tables_in q

  abbrev a : ℕ
  a = q.source

  abbrev b : ℕ
  b = q.sink

  pub valid : Valid (tables_in q)
  valid = passed-valid q scratch pass

  ends : GoodEnds (cells_asked q) a b
  unfolding checks
  ends = ends-good _ _ _ (passed q _ pass).apart

  -- the question's own period
  pub period-least : period_min ≤ q.tables.period
  unfolding elements_of
  period-least = valid.least

  pub period-most : q.tables.period ≤ period_max
  unfolding elements_of
  period-most = valid.most

  own : at_period q.tables.period e ≡ e
  unfolding elements_of
  own = own-period e

  pub at_own : routes_at q q.tables.period ≡ routed (rules_with q (tables_in q))
  unfolding routed_at
  at_own = rw own

  -- a route exists
  pub route : routed (rules_with q (tables_in q)) ≡ true → HasRoute (rules_asked q)
  unfolding rules_asked
  route = routed-route p e a b valid

  pub is-routed : (r : Route) → T (legal (rules_asked q) r) → routed (rules_with q (tables_in q)) ≡ true
  unfolding rules_asked
  is-routed = route-routed p e a b valid

  pub no-route : routed (rules_with q (tables_in q)) ≡ false → NoRoute (rules_asked q)
  unfolding rules_asked
  no-route = routed-none p e a b valid

  pub not-routed : NoRoute (rules_asked q) → routed (rules_with q (tables_in q)) ≡ false
  unfolding rules_asked
  not-routed = none-routed p e a b valid

  -- a route exists at a period
  module _ (t : ℕ) (least : period_min ≤ t) (most : t ≤ period_max) where
    pub route-at : routes_at q t ≡ true → HasRoute (rules_at q t)
    unfolding rules_at routed_at
    route-at = routed-route p (at_period t e) a b (period-valid e t valid least most)

    -- and then at a longer one
    pub routed-later : (u : ℕ) → u ≤ t → (r : Route) → T (legal (rules_at q u) r) → routes_at q t ≡ true
    unfolding rules_at routed_at
    routed-later u h r is = route-routed p (at_period t e) a b (period-valid e t valid least most) r (legal-later p e a b u t h r is)

  pub rules-own : rules_at q q.tables.period ≡ rules_asked q
  unfolding rules_at rules_asked
  rules-own = rw own

  -- a chain of uncut wires joins the ends
  pub chain : routed (rules_with q (relaxed false (tables_in q))) ≡ true → Chain (rules_asked q)
  unfolding rules_asked
  chain is = route-chain p e a b (relaxed false e) (routed-route p (relaxed false e) a b (relaxed-valid false e valid) is)

  pub chained : Chain (rules_asked q) → routed (rules_with q (relaxed false (tables_in q))) ≡ true
  unfolding rules_asked cells cells_asked
  chained c =
      let r = chain-bare p e a b ends.apart ends.sink-in c in
      route-routed p (relaxed false e) a b (relaxed-valid false e valid) r.route r.is_legal

  -- a route exists with the period test left out
  pub fits-legal : (r : Route) → fits (rules_asked q) r ≡ legal (rules_with q (relaxed true (tables_in q))) r
  unfolding rules_asked
  fits-legal = fits-untimed p e a b

  pub fitting : (r : Route) → T (fits (rules_asked q) r) → routed (rules_with q (relaxed true (tables_in q))) ≡ true
  fitting r h = route-routed p (relaxed true e) a b (relaxed-valid true e valid) r (subst T (fits-legal r) h)

  pub none-fits : ((r : Route) → T (fits (rules_asked q) r) → ⊥) → routed (rules_with q (relaxed true (tables_in q))) ≡ false
  none-fits f = none-routed p (relaxed true e) a b (relaxed-valid true e valid) (λ r h. f r (subst T (sym (fits-legal r)) h))

  pub fits-some : routed (rules_with q (relaxed true (tables_in q))) ≡ true → HasRoute (rules_with q (relaxed true (tables_in q)))
  fits-some = routed-route p (relaxed true e) a b (relaxed-valid true e valid)
