-- A verdict with a fault tells the first visit at fault and the first fault there, and it tells one wherever there is one.
-- The visits are tried one by one: each that is right moves the tests on by one visit, and the first that is wrong ends them. Two first faults are the same, since each would have passed before the other.
use Prim.Native.Nat.{ℕ, zero, suc, ◌+◌, ◌<◌}
use mathlib.Core.Bool.{Bool, false}
use mathlib.Core.List.{[], ◌∷◌}
use mathlib.Core.Path.{◌≡◌, refl, sym, ap, ◌∙◌}
use mathlib.Core.Logic.{◌↔◌, ◌⊎◌, inl, inr}
use native.Mathlib.Omega.{arith}
use lib.Dec.{T}
use lib.IntN.{ℤ}
use lib.ListN.{length, take, drop}
use Rattle.plan.proofs.Truth.{three-way}
use Rattle.timing.specs.Slack.{slack_most}
use Rattle.answers.specs.declared.refusal.Refusal.{Refusal}
use Rattle.answers.specs.declared.verdicts.VisitFault.{VisitFault}
use Rattle.answers.specs.declared.verdicts.VisitFault.TheVariants.{Cell, Wire, Site, Load, Period}
use Rattle.answers.specs.declared.verdicts.Finding.{Finding}
use Rattle.answers.specs.declared.verdicts.Finding.TheVariants.{Accepted, AtFault}
use Rattle.rules.specs.Rules.{Rules}
use Rattle.rules.specs.Legal.{Route, is_last}
use Rattle.rules.specs.Beginning.{Place, next_place, place_from, start_place, place_after}
use Rattle.rules.specs.Slack.{slack_at, slack_after}
use Rattle.verdict.specs.Verdict.{VisitCheck, right, wrong, visit_check, first_check, judge_from, judge_route}
use Rattle.verdict.specs.Fault.{test_order, sink_test, later_test, next_test, fault_test, next_figure, close_figure, FigureIs, FirstFault}
use Rattle.verdict.proofs.Checks.{FirstWrong, Tells, visit-tells, first-tells}

-- n visits with tests `t` and figures `z`, numbered from k: visit i is the first at fault
record FaultAmong (t : ℕ → VisitFault → Bool) (z : ℕ → ℤ) (n k i : ℕ) (f : VisitFault) : Type 0 where
  pub place : ℕ
  pub numbered : i ≡ k + place
  pub in_list : place < n
  pub before : (j : ℕ) → j < place → (g : VisitFault) → T (t j g)
  pub first : FirstWrong (t place) (z place) f

-- what a verdict says of them
abbrev Judged : Finding → (ℕ → VisitFault → Bool) → (ℕ → ℤ) → ℕ → ℕ → Type 0
Judged (Accepted y) t z n k = (j : ℕ) → j < n → (g : VisitFault) → T (t j g)
Judged (AtFault i f) t z n k = FaultAmong t z n k i f

-- one visit more, which is right
judged-more : (x : Finding) (t : ℕ → VisitFault → Bool) (z : ℕ → ℤ) (n k : ℕ) → ((g : VisitFault) → T (t 0 g)) → Judged x (λ j. t (suc j)) (λ j. z (suc j)) n (suc k) → Judged x t z (suc n) k
judged-more (Accepted y) t z n k h q = λ j b g. go j b g
  where
    go : (j : ℕ) → j < suc n → (g : VisitFault) → T (t j g)
    go zero b g = h g
    go (suc j) b g = q j (omega arith) g
judged-more (AtFault i f) t z n k h q =
    record {
      place = suc q.place;
      numbered = omega arith;
      in_list = omega arith;
      before = λ j b g. go j b g;
      first = q.first;
    }
  where
    go : (j : ℕ) → j < suc q.place → (g : VisitFault) → T (t j g)
    go zero b g = h g
    go (suc j) b g = q.before j (omega arith) g

module _ (R : Rules) where
  abbrev tests_from : Place → Route → ℕ → VisitFault → Bool
  tests_from a vs j g = next_test R (place_from R a (take j vs)) (drop j vs) g

  abbrev figures_from : Place → Route → ℕ → ℤ
  figures_from a vs j = next_figure R (place_from R a (take j vs)) (drop j vs)

  judged-from : (k : ℕ) (a : Place) (least : ℤ) (vs : Route) → Judged (judge_from R k a least vs) (tests_from a vs) (figures_from a vs) (length vs) k
  unfolding judge_from next_test next_figure place_from
  judged-from k a least [] = λ j h g. absurd (omega arith)
  judged-from k a least (v ∷ vs) = go (visit_check R a (is_last vs) v) (visit-tells R a (is_last vs) v) (judged-from (suc k) (next_place R a v) (slack_after R a least v) vs)
    where
      rest : Finding
      rest = judge_from R (suc k) (next_place R a v) (slack_after R a least v) vs

      go : (x : VisitCheck) → Tells x (later_test R a (is_last vs) v) (slack_at R a v) → Judged rest (tests_from (next_place R a v) vs) (figures_from (next_place R a v) vs) (length vs) (suc k) → Judged (elim x [ wrong f ↦ AtFault k f | right ↦ rest ]) (tests_from a (v ∷ vs)) (figures_from a (v ∷ vs)) (length (v ∷ vs)) k
      go right t q = judged-more rest (tests_from a (v ∷ vs)) (figures_from a (v ∷ vs)) (length vs) k t q
      go (wrong f) t q = record { place = 0; numbered = omega arith; in_list = omega arith; before = λ j h g. absurd (omega arith); first = t }

  judged : (r : Route) → Judged (judge_route R r) (fault_test R r) (close_figure R r) (length r) 0
  unfolding judge_route fault_test close_figure place_after
  judged [] = λ j h g. absurd (omega arith)
  judged (v ∷ vs) = go (first_check R v) (first-tells R v slack_most)
    where
      rest : Finding
      rest = judge_from R 1 (start_place R v) slack_most vs

      go : (x : VisitCheck) → Tells x (sink_test R v) slack_most → Judged (elim x [ wrong f ↦ AtFault 0 f | right ↦ rest ]) (fault_test R (v ∷ vs)) (close_figure R (v ∷ vs)) (length (v ∷ vs)) 0
      go right t = judged-more rest (fault_test R (v ∷ vs)) (close_figure R (v ∷ vs)) (length vs) 0 t (judged-from 1 (start_place R v) slack_most vs)
      go (wrong f) t = record { place = 0; numbered = omega arith; in_list = omega arith; before = λ j h g. absurd (omega arith); first = t }

-- A fault is known by its place in the order, and its figure.

unfoldable fault_of : ℤ → ℕ → VisitFault
fault_of z zero = Cell
fault_of z (suc zero) = Wire
fault_of z (suc (suc zero)) = Site
fault_of z (suc (suc (suc zero))) = Load
fault_of z (suc (suc (suc (suc n)))) = Period z

fault-of : (z : ℤ) (f : VisitFault) → FigureIs z f → fault_of z (test_order f) ≡ f
unfolding fault_of test_order
fault-of z Cell e = refl
fault-of z Wire e = refl
fault-of z Site e = refl
fault-of z Load e = refl
fault-of z (Period y) e = ap Period (sym e)

same-fault : (z : ℤ) (f g : VisitFault) → FigureIs z f → FigureIs z g → test_order f ≡ test_order g → f ≡ g
same-fault z f g a b e = sym (fault-of z f a) ∙ ap (fault_of z) e ∙ fault-of z g b

-- a test does not pass and fail
clash : (b : Bool) → T b → b ≡ false → ⊥
clash b h e = rw e at h

module _ (R : Rules) (r : Route) where
  order_least : {i : ℕ} {f g : VisitFault} → FirstFault R r i f → FirstFault R r i g → test_order f < test_order g → ⊥
  order_least {i} {f} {g} a b h = clash (fault_test R r i f) (b.earlier f h) a.fails

  place-least : {i j : ℕ} {f g : VisitFault} → FirstFault R r i f → FirstFault R r j g → i < j → ⊥
  place-least {i} {j} {f} {g} a b h = clash (fault_test R r i f) (b.before i h f) a.fails

  pub place-unique : {i j : ℕ} {f g : VisitFault} → FirstFault R r i f → FirstFault R r j g → i ≡ j
  place-unique {i} {j} a b = go (three-way i j)
    where
      go : (i ≡ j) ⊎ ((i < j) ⊎ (j < i)) → i ≡ j
      go (inl e) = e
      go (inr (inl h)) = absurd (place-least a b h)
      go (inr (inr h)) = absurd (place-least b a h)

  pub fault-unique : {i : ℕ} {f g : VisitFault} → FirstFault R r i f → FirstFault R r i g → f ≡ g
  fault-unique {i} {f} {g} a b = go (three-way (test_order f) (test_order g))
    where
      go : (test_order f ≡ test_order g) ⊎ ((test_order f < test_order g) ⊎ (test_order g < test_order f)) → f ≡ g
      go (inl e) = same-fault (close_figure R r i) f g a.figure b.figure e
      go (inr (inl h)) = absurd (order_least a b h)
      go (inr (inr h)) = absurd (order_least b a h)

  among_first : {i : ℕ} {f : VisitFault} → FaultAmong (fault_test R r) (close_figure R r) (length r) 0 i f → FirstFault R r i f
  among_first {i} {f} q =
      let e : q.place ≡ i = omega arith in
      let h : FirstFault R r q.place f = record { in_list = q.in_list; before = q.before; earlier = q.first.earlier; fails = q.first.fails; figure = q.first.figure } in
      rw e at h

  told : (x : Finding) (i : ℕ) (f : VisitFault) → Judged x (fault_test R r) (close_figure R r) (length r) 0 → x ≡ AtFault i f → FirstFault R r i f
  told (Accepted y) i f q e = absurd (let z : ◌≡◌ {A = ℕ} 0 1 = cc in omega arith)
  told (AtFault j g) i f q e =
      let a : j ≡ i = cc in
      let b : g ≡ f = cc in
      rw (a, b) at (among_first q)

  tells : (x : Finding) (i : ℕ) (f : VisitFault) → Judged x (fault_test R r) (close_figure R r) (length r) 0 → FirstFault R r i f → x ≡ AtFault i f
  tells (Accepted y) i f q h = absurd (clash (fault_test R r i f) (q i h.in_list f) h.fails)
  tells (AtFault j g) i f q h =
      let a : j ≡ i = place-unique (among_first q) h in
      let b : g ≡ f = fault-unique (rw a at (among_first q)) h in
      cc

  -- The verdict tells a fault exactly if it is the first one.
  pub fault-first : (i : ℕ) (f : VisitFault) → (judge_route R r ≡ AtFault i f) ↔ FirstFault R r i f
  fault-first i f = (told (judge_route R r) i f (judged R r), tells (judge_route R r) i f (judged R r))
