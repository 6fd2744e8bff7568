-- How far the verdict has come in a list, one visit further.
use Prim.Native.Nat.{ℕ, suc, ◌+◌, ◌*◌, ◌/◌, ◌≤◌, ◌<◌}
use mathlib.Core.Bool.{Bool, true, false, ◌&&◌}
use mathlib.Core.List.{List}
use mathlib.Core.Path.{◌≡◌, refl, ◌∙◌}
use native.Mathlib.Omega.{arith}
use native.Mathlib.Numerals.{add-one}
use borrow.Author.Tests.{ne_eqb}
use lib.Dec.{eqb, ltb, ltb→lt}
use lib.ListN.{length}
use Rattle.answers.specs.declared.verdicts.VisitFault.{VisitFault}
use Rattle.answers.specs.declared.verdicts.Finding.TheVariants.{Accepted, AtFault}
use Rattle.plan.specs.Plan.{cells}
use Rattle.plan.proofs.Truth.{of-true, snd}
use Rattle.rules.specs.Rules.{Rules, rules_of}
use Rattle.rules.specs.Legal.{Visit, cell_right}
use Rattle.rules.specs.Beginning.{Place, next_place, start_place}
use Rattle.problem.specs.declared.Problem.{Problem}
use Rattle.problem.specs.Problem.{plan_for, rules_for, Ready}
use Rattle.problem.proofs.Sizes.{cells_are}
use Rattle.verdict.specs.Verdict.{route_in, bad_list, VisitCheck, right, or_wrong, visit_check, first_check, judge_route}
use Rattle.verdict.specs.Visits.{VisitIs, FirstIs, Judging}
use Rattle.verdict.specs.declared.gates.point.Point.{Point}
use Rattle.std.specs.Prelude.{Ok, Err}
use Rattle.verdict.proofs.Routes.{visits-even, good-even, good_length}
use Rattle.verdict.proofs.Steps.{visit_in, last_in, judge-right, judge-wrong, judge-end, judge-first-right, judge-first-wrong}
use Rattle.verdict.proofs.Places.{right-cell}

passed-test : (ok : Bool) (f : VisitFault) (rest : VisitCheck) → or_wrong ok f rest ≡ right → ok ≡ true
passed-test true f rest e = refl
passed-test false f rest e = absurd (let z : ◌≡◌ {A = ℕ} 0 1 = cc in omega arith)

passed-cell : (R : Rules) (a : Place) (last : Bool) (v : Visit) → visit_check R a last v ≡ right → cell_right R last v ≡ true
unfolding visit_check
passed-cell R a last v e = passed-test (cell_right R last v) _ _ e

-- the test of the code for the last visit
pub last-is : (ws : List ℕ) (i : ℕ) → bad_list ws ≡ false → eqb (i + 1) (length ws / 2) ≡ last_in ws i
last-is ws i good =
    let e : length ws / 2 ≡ length (route_in ws) = omega (arith, visits-even ws (good-even ws good), good-even ws good) in
    rw (e, add-one i)

-- the first visit's cell is in the plan
passed-sink : (p : Problem) (marks : List ℕ) → Ready p marks → (v : Visit) → first_check (rules_for p marks) v ≡ right → v.cell < length marks
unfolding first_check rules_for rules_of
passed-sink p marks ready v e =
    let sink = eqb v.cell p.sink in
    let inside = ltb v.cell (cells (plan_for p marks)) in
    let h = ltb→lt v.cell (cells (plan_for p marks)) (snd sink inside (of-true (sink && inside) (passed-test (sink && inside) _ _ e))) in
    omega (arith, h, cells_are p marks ready)

module _ (p : Problem) (marks ws : List ℕ) (ready : Ready p marks) (good : bad_list ws ≡ false) where
  abbrev R : Rules
  R = rules_for p marks

  -- the first visit
  pub judged-first : (b : Point) → FirstIs p marks (visit_in ws 0) (Ok b) → Judging p marks ws 1 b
  unfolding start_place
  judged-first b s =
      record {
        place = start_place R (visit_in ws 0);
        here = s.here;
        standing = λ h. record { in_plan = rw s.here.cell (passed-sink p marks ready (visit_in ws 0) s.is_right); light = s.light refl };
        judged = rw s.slack (judge-first-right R ws (omega (arith, good_length ws good)) s.is_right);
      }

  pub judged-first-fault : (f : VisitFault) → FirstIs p marks (visit_in ws 0) (Err f) → judge_route R (route_in ws) ≡ AtFault 0 f
  judged-first-fault f e = judge-first-wrong R ws f (omega (arith, good_length ws good)) e

  module _ (i : ℕ) (b : Point) (j : Judging p marks ws i b) where
    not_last : 2 * suc i < length ws → last_in ws i ≡ false
    not_last k = ne_eqb (suc i) (length (route_in ws)) (λ z. omega (arith, visits-even ws (good-even ws good)))

    -- a right visit
    pub judged-on : (last : Bool) (to : Point) → last ≡ last_in ws i → 2 * i + 1 < length ws → VisitIs p marks b last (visit_in ws i) (Ok to) → Judging p marks ws (suc i) to
    unfolding next_place
    judged-on last to e h step =
        let s = step j.place j.here in
        record {
          place = next_place R j.place (visit_in ws i);
          here = s.here;
          standing = λ k. record { in_plan = rw s.here.cell (right-cell p marks ready _ last _ (passed-cell R j.place last (visit_in ws i) s.is_right)); light = s.light (e ∙ not_last k) };
          judged = rw s.slack (j.judged ∙ judge-right R ws i j.place b.slack h (rw e at s.is_right));
        }

    -- a visit at fault
    pub judged-fault : (last : Bool) (f : VisitFault) → last ≡ last_in ws i → 2 * i + 1 < length ws → VisitIs p marks b last (visit_in ws i) (Err f) → judge_route R (route_in ws) ≡ AtFault i f
    judged-fault last f e h step = j.judged ∙ judge-wrong R ws i j.place b.slack f h (rw e at (step j.place j.here))

    -- all visits are right
    pub judged-all : length ws ≤ 2 * i → judge_route R (route_in ws) ≡ Accepted b.slack
    judged-all h = j.judged ∙ judge-end R ws i j.place b.slack h
