-- The ranking of two lists by their words: registers, then lengths, then lexicographic order.
use Prim.Native.Nat.{ℕ, ◌*◌, ◌-◌, ◌%◌, ◌≤◌, ◌<◌}
use mathlib.Core.Bool.{false, ◌&&◌, ◌||◌}
use mathlib.Core.List.{List}
use mathlib.Core.Path.{◌≡◌, sym, ◌∙◌}
use mathlib.Core.Logic.{◌⊎◌, inl, inr}
use native.Mathlib.Omega.{arith}
use borrow.Author.Tests.{lt-ltb, le-ltb, eq-eqb, ne_eqb}
use lib.Dec.{eqb, ltb}
use lib.ListN.{length}
use Rattle.plan.proofs.Truth.{split, equal}
use Rattle.rules.specs.Ranking.{registers, steps, precedes, key, ranks_before}
use Rattle.verdict.specs.Verdict.{route_in, bad_list}
use Rattle.verdict.proofs.Routes.{written-route, visits-even, good-even, good_length}

-- two tests agree where the facts do

same-less : (a b c d : ℕ) → (a < b → c < d) → (c < d → a < b) → ltb a b ≡ ltb c d
same-less a b c d f g = go (split b a) (split d c)
  where
    go : (b ≤ a) ⊎ (a < b) → (d ≤ c) ⊎ (c < d) → ltb a b ≡ ltb c d
    go (inl h) (inl k) = le-ltb a b h ∙ sym (le-ltb c d k)
    go (inl h) (inr k) = absurd (let z : a < b = g k in omega arith)
    go (inr h) (inl k) = absurd (let z : c < d = f h in omega arith)
    go (inr h) (inr k) = lt-ltb a b h ∙ sym (lt-ltb c d k)

same-equal : (a b c d : ℕ) → (a ≡ b → c ≡ d) → (c ≡ d → a ≡ b) → eqb a b ≡ eqb c d
same-equal a b c d f g = go (equal a b)
  where
    go : (a ≡ b) ⊎ (a ≡ b → ⊥) → eqb a b ≡ eqb c d
    go (inl e) = eq-eqb a b e ∙ sym (eq-eqb c d (f e))
    go (inr n) = ne_eqb a b n ∙ sym (ne_eqb c d (λ e. n (g e)))

not-less : {m n : ℕ} → m ≡ n → ltb m n ≡ false
not-less {m} {n} e = le-ltb m n (omega arith)

module _ (a b : List ℕ) (evenA : length a % 2 ≡ 0) (evenB : length b % 2 ≡ 0) (longA : 4 ≤ length a) (longB : 4 ≤ length b) where
  fewer-steps-words : ltb (steps (route_in b)) (steps (route_in a)) ≡ ltb (length b) (length a)
  unfolding steps
  fewer-steps-words =
      let x : 2 * length (route_in a) ≡ length a = visits-even a evenA in
      let y : 2 * length (route_in b) ≡ length b = visits-even b evenB in
      same-less (length (route_in b) - 1) (length (route_in a) - 1) (length b) (length a) (λ h. omega arith) (λ h. omega arith)

  same-steps-words : eqb (steps (route_in b)) (steps (route_in a)) ≡ eqb (length b) (length a)
  unfolding steps
  same-steps-words =
      let x : 2 * length (route_in a) ≡ length a = visits-even a evenA in
      let y : 2 * length (route_in b) ≡ length b = visits-even b evenB in
      same-equal (length (route_in b) - 1) (length (route_in a) - 1) (length b) (length a) (λ h. omega arith) (λ h. omega arith)

  pub ranks-words : ranks_before registers (route_in b) (route_in a) ≡ (ltb (registers (route_in b)) (registers (route_in a)) || (eqb (registers (route_in b)) (registers (route_in a)) && (ltb (length b) (length a) || (eqb (length b) (length a) && precedes b a))))
  unfolding ranks_before key precedes
  ranks-words = rw (fewer-steps-words, same-steps-words, written-route a evenA, written-route b evenB)

-- The ranking of two lists that are not refused
pub ranks-good : (b a : List ℕ) → bad_list b ≡ false → bad_list a ≡ false → ranks_before registers (route_in b) (route_in a) ≡ (ltb (registers (route_in b)) (registers (route_in a)) || (eqb (registers (route_in b)) (registers (route_in a)) && (ltb (length b) (length a) || (eqb (length b) (length a) && precedes b a))))
ranks-good b a goodB goodA =
    ranks-words a b (good-even a goodA) (good-even b goodB) (good_length a goodA) (good_length b goodB)
