-- The theorem about `explain` (document 02, C-13), stated of the call (its contract is specs/Reasons.antt), for every question that the checks pass: what it answers is true in document 02's words (`explained-true`), and nothing else is (`explained-only`).
use Prim.Native.Nat.{ℕ, ◌-◌, ◌≤◌, ◌<◌}
use mathlib.Core.Bool.{Bool, true, false}
use mathlib.Core.Path.{◌≡◌, refl, sym, ◌∙◌, subst}
use mathlib.Core.Logic.{◌⊎◌, inl, inr}
use native.Mathlib.Omega.{arith}
use lib.Dec.{T}
use Rattle.plan.proofs.Truth.{of-true, split, three-way}
use Rattle.timing.specs.Ranges.{period_min, period_max}
use Rattle.timing.specs.Relaxed.{relaxed}
use Rattle.rules.specs.Legal.{Route, legal}
use Rattle.rules.specs.Relaxed.{fits, HasRoute}
use Rattle.rules.proofs.LeftOut.{legal-untimed}
use Rattle.answers.specs.declared.refusal.Refusal.{Refusal}
use Rattle.answers.specs.declared.explained.Reason.{Reason}
use Rattle.answers.specs.Numbers.{Explained}
use Rattle.question.specs.Question.{Question, rules_asked, passes}
use Rattle.router.specs.Route.{checks}
use Rattle.reasons.specs.Explains.{NoRoute, rules_at, Explains}
use Rattle.reasons.specs.Reasons.{routed, smallest_period, reason_for, explained_for, explained_after, explained_of, rules_with}
use Rattle.reasons.proofs.Order.{later-routed, light-routed}
use Rattle.reasons.proofs.Periods.{smallest-least, smallest-routed, none_before, no-smallest}
use Rattle.reasons.proofs.Values.{explained-exists, explained-because, reason-walled, reason-load, reason-short, reason-period}
use Rattle.reasons.proofs.Meaning as meaning
use Rattle.std.specs.Prelude.{Ok, Err}

module _ (q : Question) (scratch : ℕ) (pass : checks q scratch ≡ passes) where
  abbrev bare : Bool
  bare = routed (rules_with q (relaxed false (meaning.tables_in q)))

  abbrev untimed : Bool
  untimed = routed (rules_with q (relaxed true (meaning.tables_in q)))

  abbrev own : Bool
  own = routed (rules_with q (meaning.tables_in q))

  abbrev at : ℕ → Bool
  at t = meaning.routes_at q t

  abbrev least : ℕ
  least = smallest_period (meaning.plan_in q) (meaning.tables_in q) q.source q.sink

  abbrev reason : Reason
  reason = reason_for (meaning.plan_in q) (meaning.tables_in q) q.source q.sink

  -- none at t, so none at any shorter period
  none_below : (t : ℕ) → period_min ≤ t → t ≤ period_max → (at t ≡ true → ⊥) → (u : ℕ) → u ≤ t → NoRoute (rules_at q u)
  none_below t low high fails u h r is = fails (meaning.routed-later q scratch pass t low high u h r is)

  before-least : (t : ℕ) → period_min ≤ t → t < least → at t ≡ true → ⊥
  before-least = none_before _ _ _ _ (meaning.valid q scratch pass)

  fits-at : (t : ℕ) (r : Route) → T (legal (rules_at q t) r) → T (fits (rules_asked q) r)
  unfolding rules_at
  fits-at t r is = subst T (sym (meaning.fits-legal q scratch pass r)) (legal-untimed _ _ _ _ t r is)

  module _ (none : own ≡ false) where
    above : least ≤ period_max → q.tables.period < least
    above h = go (split least q.tables.period)
      where
        go : (least ≤ q.tables.period) ⊎ (q.tables.period < least) → q.tables.period < least
        go (inr k) = k
        go (inl k) =
            let here : at least ≡ true = smallest-routed _ _ _ _ (meaning.valid q scratch pass) h in
            let there : at q.tables.period ≡ true = later-routed _ _ _ _ (meaning.valid q scratch pass) least q.tables.period (smallest-least _ _ _ _ (meaning.valid q scratch pass)) k (meaning.period-most q scratch pass) here in
            absurd (of-true false (sym none ∙ (sym (meaning.at_own q scratch pass) ∙ there)))

    period-true : (f : HasRoute (rules_with q (relaxed true (meaning.tables_in q)))) → least ≤ period_max → Explains q (Ok (Reason.Period least))
    period-true f h =
        let low = smallest-least _ _ _ _ (meaning.valid q scratch pass) in
        let r = meaning.route-at q scratch pass least low h (smallest-routed _ _ _ _ (meaning.valid q scratch pass) h) in
        let over = above h in
        let from = meaning.period-least q scratch pass in
        Explains.period least (meaning.no-route q scratch pass none) r.route (fits-at least r.route r.is_legal) over h r.is_legal
        (λ u k. none_below (least - 1) (omega arith) (omega arith) (before-least (least - 1) (omega arith) (omega arith)) u (omega arith))

    short-true : (f : HasRoute (rules_with q (relaxed true (meaning.tables_in q)))) → period_max < least → Explains q (Ok Reason.TooShort)
    short-true f h =
        Explains.too_short f.route (subst T (sym (meaning.fits-legal q scratch pass f.route)) f.is_legal)
        (none_below period_max (omega arith) (omega arith) (before-least period_max (omega arith) h))

    because : (b u : Bool) → bare ≡ b → untimed ≡ u → (least ≤ period_max) ⊎ (period_max < least) → Explains q (Ok reason)
    because false u wall light s =
        rw (reason-walled _ _ _ _ wall)
        (Explains.walled_off (meaning.no-route q scratch pass none) (λ c. of-true false (sym wall ∙ meaning.chained q scratch pass c)))
    because true false chain heavy s =
        rw (reason-load _ _ _ _ chain heavy)
        (Explains.load (meaning.no-route q scratch pass none) (meaning.chain q scratch pass chain) (λ r h. of-true false (sym heavy ∙ meaning.fitting q scratch pass r h)))
    because true true chain light (inl h) = rw (reason-period _ _ _ _ chain light least refl h) (period-true (meaning.fits-some q scratch pass light) h)
    because true true chain light (inr h) = rw (reason-short _ _ _ _ chain light h) (short-true (meaning.fits-some q scratch pass light) h)

  -- What the call answers is true.
  pub explained-true : Explains q (explained_of q scratch)
  unfolding explained_of explained_after reason_for
  explained-true = rw pass (go own refl)
    where
      go : (x : Bool) → own ≡ x → Explains q (elim x [ true ↦ Err Refusal.RouteExists | false ↦ Ok reason ])
      go true is = let r = meaning.route q scratch pass is in Explains.has_route r.route r.is_legal
      go false is = because is bare untimed refl refl (split least period_max)

  -- Nothing else is true.
  pub explained-only : {x : Explained} → Explains q x → x ≡ explained_of q scratch
  unfolding explained_of explained_after explained_for
  explained-only (Explains.has_route r h) = rw pass (sym (explained-exists _ _ _ _ (meaning.is-routed q scratch pass r h)))
  explained-only (Explains.walled_off n c) =
      rw pass (sym (explained-because _ _ _ _ (meaning.not-routed q scratch pass n) (reason-walled _ _ _ _ wall)))
    where
      wall : bare ≡ false
      wall = go bare refl
        where
          go : (x : Bool) → bare ≡ x → x ≡ false
          go false is = refl
          go true is = absurd (c (meaning.chain q scratch pass is))
  explained-only (Explains.load n c f) =
      rw pass (sym (explained-because _ _ _ _ (meaning.not-routed q scratch pass n) (reason-load _ _ _ _ (meaning.chained q scratch pass c) (meaning.none-fits q scratch pass f))))
  explained-only (Explains.period t n r f over most is before) =
      let light = meaning.fitting q scratch pass r f in
      let chain = light-routed _ _ _ _ (meaning.valid q scratch pass) light in
      rw pass (sym (explained-because _ _ _ _ (meaning.not-routed q scratch pass n) (reason-period _ _ _ _ chain light t same most)))
    where
      low : period_min ≤ t
      low = omega (arith, meaning.period-least q scratch pass)

      here : at t ≡ true
      here = meaning.routed-later q scratch pass t low most t (omega arith) r is

      same : t ≡ least
      same = go (three-way t least)
        where
          go : (t ≡ least) ⊎ ((t < least) ⊎ (least < t)) → t ≡ least
          go (inl h) = h
          go (inr (inl h)) = absurd (before-least t low h here)
          go (inr (inr h)) =
              let first = smallest-least _ _ _ _ (meaning.valid q scratch pass) in
              let found = meaning.route-at q scratch pass least first (omega arith) (smallest-routed _ _ _ _ (meaning.valid q scratch pass) (omega arith)) in
              absurd (before least h found.route found.is_legal)
  explained-only (Explains.too_short r f none) =
      let light = meaning.fitting q scratch pass r f in
      let chain = light-routed _ _ _ _ (meaning.valid q scratch pass) light in
      rw pass (sym (explained-because _ _ _ _ (meaning.not-routed q scratch pass own-none) (reason-short _ _ _ _ chain light (no-smallest _ _ _ _ (meaning.valid q scratch pass) longest))))
    where
      own-none : NoRoute (rules_asked q)
      own-none = subst NoRoute (meaning.rules-own q scratch pass) (none q.tables.period (meaning.period-most q scratch pass))

      longest : at period_max ≡ false
      longest = go (at period_max) refl
        where
          go : (x : Bool) → at period_max ≡ x → x ≡ false
          go false is = refl
          go true is =
              let found = meaning.route-at q scratch pass period_max (omega arith) (omega arith) is in
              absurd (none period_max (omega arith) found.route found.is_legal)
