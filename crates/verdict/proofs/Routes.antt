-- The route in a list of words: the visits and the words are each read off the other, part by part.
use Prim.Native.Nat.{ℕ, zero, suc, ◌+◌, ◌*◌, ◌%◌, ◌≤◌, ◌<◌}
use mathlib.Core.Bool.{false}
use mathlib.Core.List.{List, [], ◌∷◌}
use mathlib.Core.Path.{◌≡◌, refl, sym, ap, ◌∙◌}
use native.Mathlib.Omega.{arith}
use borrow.Author.Tests.{ne_eqb}
use lib.Dec.{eqb, ltb, nltb→le, eqb-suc-suc}
use lib.ListN.{length, drop, get_or}
use lib.Seq.{drop-nil}
use Rattle.plan.proofs.Truth.{neqb→ne, of-false, or-false}
use Rattle.rules.specs.Legal.{Route, is_last}
use Rattle.rules.specs.Ranking.{written}
use Rattle.verdict.specs.Verdict.{route_in, bad_list}

pub route-written : (r : Route) → route_in (written r) ≡ r
unfolding route_in written
route-written [] = refl
route-written (v ∷ r) = ap (λ (vs : Route). v ∷ vs) (route-written r)

pub written-route : (ws : List ℕ) → length ws % 2 ≡ 0 → written (route_in ws) ≡ ws
unfolding route_in written
written-route [] e = refl
written-route (x ∷ []) e = absurd (omega arith)
written-route (x ∷ (y ∷ ws)) e = ap (λ (xs : List ℕ). x ∷ y ∷ xs) (written-route ws (omega arith))

-- How many visits

pub visits-even : (ws : List ℕ) → length ws % 2 ≡ 0 → 2 * length (route_in ws) ≡ length ws
unfolding route_in
visits-even [] e = refl
visits-even (x ∷ []) e = absurd (omega arith)
visits-even (x ∷ (y ∷ ws)) e = omega (arith, visits-even ws (omega arith))

pub visits-least : (ws : List ℕ) → length ws < 2 * length (route_in ws) + 2
unfolding route_in
visits-least [] = omega arith
visits-least (x ∷ []) = omega arith
visits-least (x ∷ (y ∷ ws)) = omega (arith, visits-least ws)

pub visits-most : (ws : List ℕ) → 2 * length (route_in ws) ≤ length ws
unfolding route_in
visits-most [] = omega arith
visits-most (x ∷ []) = omega arith
visits-most (x ∷ (y ∷ ws)) = omega (arith, visits-most ws)

-- A list that is not refused

pub good-even : (ws : List ℕ) → bad_list ws ≡ false → length ws % 2 ≡ 0
unfolding bad_list
good-even ws e = omega (arith, neqb→ne (length ws % 2) 1 (of-false (eqb (length ws % 2) 1) (or-false (eqb (length ws % 2) 1) (ltb (length ws) 4) e).0))

pub good_length : (ws : List ℕ) → bad_list ws ≡ false → 4 ≤ length ws
unfolding bad_list
good_length ws e = nltb→le (length ws) 4 (of-false (ltb (length ws) 4) (or-false (eqb (length ws % 2) 1) (ltb (length ws) 4) e).1)

pub good-visits : (ws : List ℕ) → bad_list ws ≡ false → 2 ≤ length (route_in ws)
good-visits ws e = omega (arith, visits-even ws (good-even ws e), good_length ws e)

-- The rest of a list after some visits

pub route-drop : (i : ℕ) (ws : List ℕ) → route_in (drop (2 * i) ws) ≡ drop i (route_in ws)
unfolding route_in
route-drop zero ws = refl
route-drop (suc i) [] = rw (drop-nil {A = ℕ} (2 * suc i))
route-drop (suc i) (x ∷ []) = let e : 2 * suc i ≡ suc (suc (2 * i)) = omega arith in rw e
route-drop (suc i) (x ∷ (y ∷ ws)) = let e : 2 * suc i ≡ suc (suc (2 * i)) = omega arith in rw e (route-drop i ws)

pub route-cons : (ws : List ℕ) (i : ℕ) → 2 * i + 1 < length ws → drop i (route_in ws) ≡ record { cell = get_or ws (2 * i) 0; code = get_or ws (2 * i + 1) 0 } ∷ drop (suc i) (route_in ws)
unfolding route_in
route-cons [] i h = absurd (omega arith)
route-cons (x ∷ []) i h = absurd (omega arith)
route-cons (x ∷ (y ∷ ws)) zero h = refl
route-cons (x ∷ (y ∷ ws)) (suc i) h =
    let e : 2 * suc i ≡ suc (suc (2 * i)) = omega arith in
    let f : 2 * suc i + 1 ≡ suc (suc (2 * i + 1)) = omega arith in
    rw (f, e) (route-cons ws i (omega arith))

-- A visit is the last one exactly if its number and one is the number of visits.
pub is-last : (r : Route) (i : ℕ) → i < length r → is_last (drop (suc i) r) ≡ eqb (suc i) (length r)
unfolding is_last
is-last [] i h = absurd (omega arith)
is-last (v ∷ []) zero h = refl
is-last (v ∷ (w ∷ r)) zero h = sym (ne_eqb 1 (length (v ∷ w ∷ r)) (λ e. omega arith))
is-last (v ∷ []) (suc i) h = absurd (omega arith)
is-last (v ∷ (w ∷ r)) (suc i) h = is-last (w ∷ r) i (omega arith) ∙ sym (eqb-suc-suc (suc i) (length (w ∷ r)))
