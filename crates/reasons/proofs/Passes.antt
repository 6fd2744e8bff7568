-- What one pass tells: whether a route exists, and the smallest period.
use Prim.Native.Nat.{ℕ, ◌-◌, ◌≤◌, ◌<◌}
use mathlib.Core.Bool.{true, false}
use mathlib.Core.List.{List}
use mathlib.Core.Path.{◌≡◌, sym}
use native.Mathlib.Omega.{arith}
use Rattle.timing.specs.Ranges.{period_max}
use Rattle.timing.specs.Relaxed.{at_period}
use Rattle.timing.specs.Valid.{Valid}
use Rattle.timing.proofs.Relaxed.{own-period, period-valid}
use Rattle.rules.specs.Rules.{rules_of}
use Rattle.rules.specs.Relaxed.{HasRoute}
use Rattle.answers.specs.declared.explained.Reason.{Reason}
use Rattle.answers.specs.declared.refusal.Refusal.{Refusal}
use Rattle.answers.specs.Numbers.{Explained}
use Rattle.problem.specs.declared.Problem.{Problem}
use Rattle.problem.specs.Problem.{plan_for}
use Rattle.spans.specs.Opens.{rules_at}
use Rattle.earliest.specs.declared.First.{First}
use Rattle.earliest.specs.Earliest.{FirstAt, NoPeriod, Tells, found_at, none_at, unknown}
use Rattle.reasons.specs.Reasons.{routed, routed_at}
use Rattle.reasons.specs.Probe.{routed_for, smallest_for, reason_of, explained_by}
use Rattle.reasons.proofs.Routed.{route-routed, none-routed}
use Rattle.reasons.proofs.Order.{timed-routed, light-routed}
use Rattle.reasons.proofs.Periods.{smallest-is, no-smallest}
use Rattle.reasons.proofs.Values.{reason-period, explained-exists, explained-because}
use Rattle.std.specs.Prelude.{Ok, Err}

-- what is told, by the answer

pub tells_at : {p : Problem} {marks : List ℕ} {f : First} → Tells p marks f → (r : ℕ) → f ≡ First.At r → FirstAt p marks r
tells_at (found_at {r = q} h) r e = let is : q ≡ r = cc in rw is at h
tells_at (none_at h) r e = absurd (let z : ◌≡◌ {A = ℕ} 0 1 = cc in omega arith)
tells_at unknown r e = absurd (let z : ◌≡◌ {A = ℕ} 0 1 = cc in omega arith)

pub tells-never : {p : Problem} {marks : List ℕ} {f : First} → Tells p marks f → f ≡ First.Never → NoPeriod p marks
tells-never (found_at h) e = absurd (let z : ◌≡◌ {A = ℕ} 0 1 = cc in omega arith)
tells-never (none_at h) e = h
tells-never unknown e = absurd (let z : ◌≡◌ {A = ℕ} 0 1 = cc in omega arith)

module _ (p : Problem) (marks : List ℕ) (valid : Valid p.elements) where
  valid-at : (t : ℕ) → p.elements.period ≤ t → t ≤ period_max → Valid (at_period t p.elements)
  valid-at t h k = period-valid p.elements t valid (omega (arith, valid.least)) k

  none-at : (t : ℕ) → p.elements.period ≤ t → t ≤ period_max → (HasRoute (rules_at p marks t) → ⊥) → routed_for p marks t ≡ false
  unfolding routed_for routed_at rules_at
  none-at t h k none =
      none-routed (plan_for p marks) _ p.source p.sink (valid-at t h k) (λ q l. none (record { route = q; is_legal = l }))

  -- there is none at the problem's own period
  fails-own : (HasRoute (rules_at p marks p.elements.period) → ⊥) → routed (rules_of (plan_for p marks) p.elements p.source p.sink) ≡ false
  unfolding routed_for routed_at
  fails-own none =
      let at = none-at p.elements.period (omega arith) valid.most none in
      rw (own-period p.elements) at at

  pub none-smallest : NoPeriod p marks → period_max < smallest_for p marks
  unfolding smallest_for routed_for
  none-smallest none =
      no-smallest (plan_for p marks) p.elements p.source p.sink valid (none-at period_max valid.most (omega arith) (none period_max valid.most (omega arith)))

  pub none-because : NoPeriod p marks → {r : Reason} → r ≡ reason_of p marks → Ok r ≡ explained_by p marks
  unfolding explained_by reason_of
  none-because none e =
      sym (explained-because (plan_for p marks) p.elements p.source p.sink (fails-own (none p.elements.period (omega arith) valid.most)) (sym e))

  module _ {r : ℕ} (first : FirstAt p marks r) where
    found-at : routed_for p marks r ≡ true
    unfolding routed_for routed_at rules_at
    found-at =
        route-routed (plan_for p marks) _ p.source p.sink (valid-at r first.least first.most) first.found.route first.found.is_legal

    pub first-exists : r ≡ p.elements.period → Err Refusal.RouteExists ≡ explained_by p marks
    unfolding explained_by routed_for routed_at
    first-exists e =
        let at : routed_for p marks p.elements.period ≡ true = rw e at found-at in
        sym (explained-exists (plan_for p marks) p.elements p.source p.sink (rw (own-period p.elements) at at))

    pub first-because : (r ≡ p.elements.period → ⊥) → Ok (Reason.Period r) ≡ explained_by p marks
    unfolding explained_by smallest_for routed_for
    first-because f =
        let later : p.elements.period < r = omega (arith, first.least) in
        let timed = timed-routed (plan_for p marks) p.elements p.source p.sink valid r (omega (arith, valid.least)) first.most found-at in
        let is = smallest-is (plan_for p marks) p.elements p.source p.sink valid (r - 1) r (omega (arith, valid.least)) (omega arith) first.most (none-at (r - 1) (omega arith) (omega (arith, first.most)) (first.none (r - 1) (omega arith) (omega arith))) found-at in
        sym (explained-because (plan_for p marks) p.elements p.source p.sink (fails-own (first.none p.elements.period (omega arith) later)) (reason-period (plan_for p marks) p.elements p.source p.sink (light-routed _ _ _ _ valid timed) timed r is first.most))
