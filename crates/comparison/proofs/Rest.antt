-- The words of a list of visits as slices see them: its visits with a register's code, and its lexicographic order with another list.
use Rattle.std.proofs.Common.{◌≡◌, ℕ, suc, ◌+◌, ◌/◌, Bool, true, false, cond, ◌&&◌, ◌||◌, List, [], ◌∷◌, length, get_or, refl, ap, ◌∙◌, arith, eqb, ltb, ◌==◌, Option, Some, Ordering, Less, Equal, Greater}
use Rattle.std.proofs.lemmas.Bool.Decides.{nat_tests}
use Rattle.std.specs.List.{count_by}
use Rattle.std.specs.Simd.{first_chunks}
use Rattle.std.specs.Ordering.{is_lt, is_some_and, partial_ordering_then, nat_cmp}
use Rattle.std.specs.Cmp.Lexicographic.{slice_partial_cmp}
use Rattle.std.proofs.lemmas.Cmp.{same_from_slice_cmp_tested}
use Rattle.std.proofs.lemmas.List.Sums.{sum_by-cons}
use Rattle.rules.specs.Rules.{register_code}
use Rattle.rules.specs.Ranking.{code_sevens, precedes}
use Rattle.verdict.specs.Verdict.{route_in}

-- the visits of a list of words with a register's code
pub sevens-pairs : (ws : List ℕ) → count_by (λ v. get_or v 1 0 == register_code) (first_chunks 2 (length ws / 2) ws) ≡ code_sevens (route_in ws)
unfolding code_sevens route_in
sevens-pairs [] = refl
sevens-pairs (x ∷ []) = refl
sevens-pairs (x ∷ (y ∷ ws)) =
    let half : length (x ∷ y ∷ ws) / 2 ≡ suc (length ws / 2) = omega arith in
    let one = λ (v : List ℕ). cond (get_or v 1 0 == register_code) 1 0 in
    rw half (sum_by-cons one (x ∷ y ∷ []) (first_chunks 2 (length ws / 2) ws) ∙ ap (λ (n : ℕ). cond (eqb y register_code) 1 0 + n) (sevens-pairs ws))

-- lists are ordered as slices are
precedes-is : (b a : List ℕ) → is_some_and is_lt (slice_partial_cmp (λ x y. Some (nat_cmp x y)) b a) ≡ precedes b a
unfolding precedes
precedes-is b a =
    same_from_slice_cmp_tested nat_cmp is_lt precedes refl (λ _ _. refl) (λ _ _. refl) (λ x y xs ys o h. grind (arith, nat_tests)) b a _ refl

-- the order of three parts, the first that differs decides
three-parts : (k l m n : ℕ) (o : Option Ordering) → is_some_and is_lt (partial_ordering_then (partial_ordering_then (Some (nat_cmp k l)) (Some (nat_cmp m n))) o) ≡ (ltb k l || (eqb k l && (ltb m n || (eqb m n && is_some_and is_lt o))))
three-parts k l m n o = go (ltb k l) (eqb k l) (ltb m n) (eqb m n)
  where
    go : (p q r s : Bool) → is_some_and is_lt (partial_ordering_then (partial_ordering_then (Some (cond p Less (cond q Equal Greater))) (Some (cond r Less (cond s Equal Greater)))) o) ≡ (p || (q && (r || (s && is_some_and is_lt o))))
    go true q r s = refl
    go false true true s = refl
    go false true false true = refl
    go false true false false = refl
    go false false r s = refl

-- two numbers and a list, ordered as tuples are
pub tuple-is : (k l m n : ℕ) (b a : List ℕ) → is_some_and is_lt (partial_ordering_then (partial_ordering_then (Some (nat_cmp k l)) (Some (nat_cmp m n))) (slice_partial_cmp (λ x y. Some (nat_cmp x y)) b a)) ≡ (ltb k l || (eqb k l && (ltb m n || (eqb m n && precedes b a))))
tuple-is k l m n b a = rw (← precedes-is b a) (three-parts k l m n _)
