-- The verdict accepts exactly the legal routes, with their smallest spare figure. Visit by visit, the chain of tests is right where the test of document 01 passes, and it stops where that one fails.
use Prim.Native.Nat.{ℕ, suc, ◌≤◌}
use mathlib.Core.Bool.{Bool, true, false, ◌&&◌}
use mathlib.Core.List.{[], ◌∷◌}
use mathlib.Core.Path.{◌≡◌, refl, sym, ap, ◌∙◌}
use mathlib.Core.Logic.{◌↔◌}
use native.Mathlib.Omega.{arith}
use lib.Dec.{T, eqb, leb, ltb}
use lib.IntN.{ℤ}
use lib.ListN.{length}
use Rattle.plan.proofs.Truth.{of-true}
use Rattle.timing.specs.Slack.{slack_most}
use Rattle.answers.specs.declared.verdicts.VisitFault.{VisitFault}
use Rattle.answers.specs.declared.verdicts.VisitFault.TheVariants.{Cell, Wire, Site, Load, Period}
use Rattle.answers.specs.declared.verdicts.Finding.{Finding}
use Rattle.answers.specs.declared.verdicts.Finding.TheVariants.{Accepted, AtFault}
use Rattle.rules.specs.Rules.{Rules, register_code}
use Rattle.rules.specs.Legal.{Visit, Route, arrive, is_last, cell_right, wire_right, code_right, load_right, period_right, visit_right, legal_from, first_right, legal}
use Rattle.rules.specs.Beginning.{Place, next_place, start_place}
use Rattle.rules.specs.Slack.{slack_at, slacks_from, slacks, least_from, slack_after, least_slack}
use Rattle.rules.proofs.View.{LegalRoute, starts, route-view}
use Rattle.rules.proofs.Figures.{ending-visits}
use Rattle.rules.proofs.Slack.{least-next, least-none}
use Rattle.verdict.specs.Verdict.{VisitCheck, right, wrong, or_wrong, visit_check, first_check, judge_from, judge_route}

-- what a verdict says of a route that is legal or not and has this smallest figure
abbrev Says : Finding → Bool → ℤ → Type 0
Says (Accepted z) ok least = (ok ≡ true) × (z ≡ least)
Says (AtFault i f) ok least = ok ≡ false

-- A chain of tests is right if all pass, and otherwise wrong.

check-is : (a b c d e : Bool) (f g h j k : VisitFault) (P : VisitCheck → Bool → Type 0) → P right true → ((x : VisitFault) → P (wrong x) false) → P (or_wrong a f (or_wrong b g (or_wrong c h (or_wrong d j (or_wrong e k right))))) (a && b && c && d && e)
check-is true true true true true f g h j k P p q = p
check-is true true true true false f g h j k P p q = q k
check-is true true true false e f g h j k P p q = q j
check-is true true false d e f g h j k P p q = q h
check-is true false c d e f g h j k P p q = q g
check-is false b c d e f g h j k P p q = q f

first-is : (a b c : Bool) (f g h : VisitFault) (P : VisitCheck → Bool → Type 0) → P right true → ((x : VisitFault) → P (wrong x) false) → P (or_wrong a f (or_wrong b g (or_wrong c h right))) (a && b && c)
first-is true true true f g h P p q = p
first-is true true false f g h P p q = q h
first-is true false c f g h P p q = q g
first-is false b c f g h P p q = q f

module _ (R : Rules) where
  judge-from : (i : ℕ) (a : Place) (least : ℤ) (v : Visit) (vs : Route) → Says (judge_from R i a least (v ∷ vs)) (legal_from R a.cell a.span a.fifos a.stage (v ∷ vs)) (least_from least (slacks_from R a (v ∷ vs)))
  unfolding judge_from legal_from visit_check visit_right is_last next_place
  judge-from i a least v [] =
      let s = arrive R a.cell a.stage v.cell in
      let z = slack_after R a least v in
      check-is (cell_right R true v) (wire_right R a.cell v) (code_right R a.fifos true v) (load_right R true s v) (period_right R a.span a.fifos s v) Cell Wire Site Load (Period (slack_at R a v))
      (λ x ok. Says (elim x [ wrong f ↦ AtFault i f | right ↦ Accepted z ]) (ok && true) (least_from least (slacks_from R a (v ∷ []))))
      (refl, sym (least-next R a least v [] ∙ least-none R (next_place R a v) z)) (λ x. refl)
  judge-from i a least v (w ∷ vs) =
      let s = arrive R a.cell a.stage v.cell in
      let b = next_place R a v in
      let z = slack_after R a least v in
      check-is (cell_right R false v) (wire_right R a.cell v) (code_right R a.fifos false v) (load_right R false s v) (period_right R a.span a.fifos s v) Cell Wire Site Load (Period (slack_at R a v))
      (λ x ok. Says (elim x [ wrong f ↦ AtFault i f | right ↦ judge_from R (suc i) b z (w ∷ vs) ]) (ok && legal_from R b.cell b.span b.fifos b.stage (w ∷ vs)) (least_from least (slacks_from R a (v ∷ w ∷ vs))))
      (rw (least-next R a least v (w ∷ vs)) (judge-from (suc i) b z w vs)) (λ x. refl)

  judge-says : (v w : Visit) (vs : Route) → Says (judge_route R (v ∷ w ∷ vs)) (legal R (v ∷ w ∷ vs)) (least_slack R (v ∷ w ∷ vs))
  unfolding judge_route legal first_check first_right start_place least_slack slacks
  judge-says v w vs =
      first-is (eqb v.cell R.sink && ltb v.cell R.cell_count) (eqb v.code register_code) (leb R.start.load R.limit) Cell Site Load
      (λ x ok. Says (elim x [ wrong f ↦ AtFault 0 f | right ↦ judge_from R 1 (start_place R v) slack_most (w ∷ vs) ]) (ok && legal_from R v.cell 0 0 R.start (w ∷ vs)) (least_from slack_most (slacks_from R (start_place R v) (w ∷ vs))))
      (judge-from 1 (start_place R v) slack_most w vs) (λ x. refl)

  said : (r : Route) → 2 ≤ length r → Says (judge_route R r) (legal R r) (least_slack R r)
  said [] h = absurd (omega arith)
  said (v ∷ []) h = absurd (omega arith)
  said (v ∷ (w ∷ vs)) h = judge-says v w vs

-- The verdict accepts exactly the legal routes, with their smallest spare figure. (A list of fewer visits is refused.)
pub accepted-legal : (R : Rules) (r : Route) → 2 ≤ length r → (z : ℤ) → (judge_route R r ≡ Accepted z) ↔ (T (legal R r) × (z ≡ least_slack R r))
accepted-legal R r h z = (λ e. there (judge_route R r) e (said R r h), λ k. back (judge_route R r) (said R r h) k.0 k.1)
  where
    there : (j : Finding) → j ≡ Accepted z → Says j (legal R r) (least_slack R r) → T (legal R r) × (z ≡ least_slack R r)
    there (Accepted y) e q = let same : y ≡ z = cc in (of-true (legal R r) q.0, sym same ∙ q.1)
    there (AtFault i f) e q = absurd (let n : ◌≡◌ {A = ℕ} 0 1 = cc in omega arith)

    back : (j : Finding) → Says j (legal R r) (least_slack R r) → T (legal R r) → z ≡ least_slack R r → j ≡ Accepted z
    back (Accepted y) q k e = ap Accepted (q.1 ∙ sym e)
    back (AtFault i f) q k e = absurd (rw q at k)

-- a legal route has both ends
pub legal-visits : (R : Rules) (r : Route) → T (legal R r) → 2 ≤ length r
legal-visits R r h = go (route-view R r h)
  where
    go : {q : Route} → LegalRoute R q → 2 ≤ length q
    go (starts first e) = omega (arith, ending-visits e)

pub legal-accepted : (R : Rules) (r : Route) → T (legal R r) → judge_route R r ≡ Accepted (least_slack R r)
legal-accepted R r h = (accepted-legal R r (legal-visits R r h) (least_slack R r)).1 (h, refl)
