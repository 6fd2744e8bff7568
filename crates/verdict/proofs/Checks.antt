-- The check of one visit tells its first failing test, and the figure of its close: the chain of tests is read off the tests, one by one.
use Prim.Native.Nat.{ℕ, ◌<◌}
use mathlib.Core.Bool.{Bool, true, false}
use mathlib.Core.Path.{◌≡◌, refl}
use native.Mathlib.Omega.{arith}
use lib.Dec.{T}
use lib.IntN.{ℤ}
use Rattle.plan.proofs.Truth.{of-true}
use Rattle.answers.specs.declared.verdicts.VisitFault.{VisitFault}
use Rattle.answers.specs.declared.verdicts.VisitFault.TheVariants.{Cell, Wire, Site, Load, Period}
use Rattle.rules.specs.Rules.{Rules}
use Rattle.rules.specs.Legal.{Visit}
use Rattle.rules.specs.Beginning.{Place}
use Rattle.rules.specs.Slack.{slack_at}
use Rattle.verdict.specs.Verdict.{VisitCheck, right, wrong, or_wrong, visit_check, first_check}
use Rattle.verdict.specs.Fault.{test_order, sink_test, later_test, FigureIs}

-- the first failing test of a visit whose close has figure z
pub record FirstWrong (t : VisitFault → Bool) (z : ℤ) (f : VisitFault) : Type 0 where
  pub earlier : (g : VisitFault) → test_order g < test_order f → T (t g)
  pub fails : t f ≡ false
  pub figure : FigureIs z f

-- what a check says of the tests of its visit
abbrev pub Tells : VisitCheck → (VisitFault → Bool) → ℤ → Type 0
Tells right t z = (g : VisitFault) → T (t g)
Tells (wrong f) t z = FirstWrong t z f

module _ (t : VisitFault → Bool) (z : ℤ) where
  -- the tests before number n pass
  passed : (n : ℕ) → (0 < n → t Cell ≡ true) → (1 < n → t Wire ≡ true) → (2 < n → t Site ≡ true) → (3 < n → t Load ≡ true) → (4 < n → (y : ℤ) → t (Period y) ≡ true) → (g : VisitFault) → test_order g < n → T (t g)
  unfolding test_order
  passed n p q r s u Cell h = of-true (t Cell) (p h)
  passed n p q r s u Wire h = of-true (t Wire) (q h)
  passed n p q r s u Site h = of-true (t Site) (r h)
  passed n p q r s u Load h = of-true (t Load) (s h)
  passed n p q r s u (Period y) h = of-true (t (Period y)) (u h y)

  all-passed : t Cell ≡ true → t Wire ≡ true → t Site ≡ true → t Load ≡ true → ((y : ℤ) → t (Period y) ≡ true) → (g : VisitFault) → T (t g)
  all-passed p q r s u Cell = of-true (t Cell) p
  all-passed p q r s u Wire = of-true (t Wire) q
  all-passed p q r s u Site = of-true (t Site) r
  all-passed p q r s u Load = of-true (t Load) s
  all-passed p q r s u (Period y) = of-true (t (Period y)) (u y)

  chain : (a b c d e : Bool) → t Cell ≡ a → t Wire ≡ b → t Site ≡ c → t Load ≡ d → ((y : ℤ) → t (Period y) ≡ e) → Tells (or_wrong a Cell (or_wrong b Wire (or_wrong c Site (or_wrong d Load (or_wrong e (Period z) right))))) t z
  unfolding test_order
  chain false b c d e p q r s u = record { earlier = λ g h. absurd (omega arith); fails = p; figure = tt }
  chain true false c d e p q r s u =
      record { earlier = passed 1 (λ h. p) (λ h. absurd (omega arith)) (λ h. absurd (omega arith)) (λ h. absurd (omega arith)) (λ h. absurd (omega arith)); fails = q; figure = tt }
  chain true true false d e p q r s u =
      record { earlier = passed 2 (λ h. p) (λ h. q) (λ h. absurd (omega arith)) (λ h. absurd (omega arith)) (λ h. absurd (omega arith)); fails = r; figure = tt }
  chain true true true false e p q r s u =
      record { earlier = passed 3 (λ h. p) (λ h. q) (λ h. r) (λ h. absurd (omega arith)) (λ h. absurd (omega arith)); fails = s; figure = tt }
  chain true true true true false p q r s u =
      record { earlier = passed 4 (λ h. p) (λ h. q) (λ h. r) (λ h. s) (λ h. absurd (omega arith)); fails = u z; figure = refl }
  chain true true true true true p q r s u = all-passed p q r s u

pub visit-tells : (R : Rules) (a : Place) (last : Bool) (v : Visit) → Tells (visit_check R a last v) (later_test R a last v) (slack_at R a v)
unfolding visit_check later_test
visit-tells R a last v = chain (later_test R a last v) (slack_at R a v) _ _ _ _ _ refl refl refl refl (λ y. refl)

-- whatever figure: no span closes at the sink
pub first-tells : (R : Rules) (v : Visit) (z : ℤ) → Tells (first_check R v) (sink_test R v) z
unfolding first_check sink_test
first-tells R v z = chain (sink_test R v) z _ _ _ _ _ refl refl refl refl (λ y. refl)
