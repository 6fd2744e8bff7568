-- The verdict one visit further: what a loop over the words of a list uses.
use Prim.Native.Nat.{ℕ, suc, ◌+◌, ◌*◌, ◌≤◌, ◌<◌}
use mathlib.Core.Bool.{Bool}
use mathlib.Core.List.{List}
use mathlib.Core.Path.{◌≡◌}
use native.Mathlib.Omega.{arith}
use lib.Dec.{eqb}
use lib.IntN.{ℤ}
use lib.ListN.{length, drop, get_or, drop_of_length-le}
use Rattle.timing.specs.Slack.{slack_most}
use Rattle.answers.specs.declared.verdicts.VisitFault.{VisitFault}
use Rattle.answers.specs.declared.verdicts.Finding.TheVariants.{Accepted, AtFault}
use Rattle.rules.specs.Rules.{Rules}
use Rattle.rules.specs.Legal.{Visit, is_last}
use Rattle.rules.specs.Beginning.{Place, next_place, start_place}
use Rattle.rules.specs.Slack.{slack_after}
use Rattle.verdict.specs.Verdict.{route_in, right, wrong, visit_check, first_check, judge_from, judge_route}
use Rattle.verdict.proofs.Routes.{visits-least, visits-most, route-cons, is-last}

-- visit i of a list of words
abbrev pub visit_in : List ℕ → ℕ → Visit
visit_in ws i = record { cell = get_or ws (2 * i) 0; code = get_or ws (2 * i + 1) 0 }

-- it is the last one
abbrev pub last_in : List ℕ → ℕ → Bool
last_in ws i = eqb (suc i) (length (route_in ws))

module _ (R : Rules) (ws : List ℕ) where
  rest-last : (i : ℕ) → 2 * i + 1 < length ws → is_last (drop (suc i) (route_in ws)) ≡ last_in ws i
  rest-last i h = is-last (route_in ws) i (omega (arith, visits-least ws))

  -- a visit that is right
  pub judge-right : (i : ℕ) (a : Place) (least : ℤ) → 2 * i + 1 < length ws → visit_check R a (last_in ws i) (visit_in ws i) ≡ right → judge_from R i a least (drop i (route_in ws)) ≡ judge_from R (suc i) (next_place R a (visit_in ws i)) (slack_after R a least (visit_in ws i)) (drop (suc i) (route_in ws))
  unfolding judge_from
  judge-right i a least h e = rw (route-cons ws i h, judge_from, rest-last i h, e)

  -- a visit that is wrong
  pub judge-wrong : (i : ℕ) (a : Place) (least : ℤ) (f : VisitFault) → 2 * i + 1 < length ws → visit_check R a (last_in ws i) (visit_in ws i) ≡ wrong f → judge_from R i a least (drop i (route_in ws)) ≡ AtFault i f
  unfolding judge_from
  judge-wrong i a least f h e = rw (route-cons ws i h, judge_from, rest-last i h, e)

  -- no visit is left
  pub judge-end : (i : ℕ) (a : Place) (least : ℤ) → length ws ≤ 2 * i → judge_from R i a least (drop i (route_in ws)) ≡ Accepted least
  unfolding judge_from
  judge-end i a least h = rw (drop_of_length-le (route_in ws) {i = i} (omega (arith, visits-most ws)))

  -- the first visit

  pub judge-first-right : 1 < length ws → first_check R (visit_in ws 0) ≡ right → judge_route R (route_in ws) ≡ judge_from R 1 (start_place R (visit_in ws 0)) slack_most (drop 1 (route_in ws))
  unfolding judge_route
  judge-first-right h e = rw (route-cons ws 0 h, judge_route, e)

  pub judge-first-wrong : (f : VisitFault) → 1 < length ws → first_check R (visit_in ws 0) ≡ wrong f → judge_route R (route_in ws) ≡ AtFault 0 f
  unfolding judge_route
  judge-first-wrong f h e = rw (route-cons ws 0 h, judge_route, e)
