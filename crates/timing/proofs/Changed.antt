-- A list whose first places are changed by a function: what a loop over an array keeps.
use Rattle.std.proofs.Common.{◌≡◌, ℕ, zero, suc, ◌≤◌, ◌<◌, List, [], ◌∷◌, map, length, get_or, set, refl, ap, arith}

module _ {A : Type 0} (f : A → A) where
  unfoldable pub changed : ℕ → List A → List A
  changed zero xs = xs
  changed (suc i) [] = []
  changed (suc i) (x ∷ xs) = f x ∷ changed i xs

  pub changed-more : (d : A) (i : ℕ) (xs : List A) → i < length xs → set (changed i xs) i (f (get_or xs i d)) ≡ changed (suc i) xs
  unfolding changed
  changed-more d i [] h = absurd (omega arith)
  changed-more d zero (x ∷ xs) h = refl
  changed-more d (suc i) (x ∷ xs) h = ap (λ (ys : List A). f x ∷ ys) (changed-more d i xs (omega arith))

  -- the place to be looked at next is as it was
  pub changed-rest : (d : A) (i : ℕ) (xs : List A) → get_or (changed i xs) i d ≡ get_or xs i d
  unfolding changed
  changed-rest d zero xs = refl
  changed-rest d (suc i) [] = refl
  changed-rest d (suc i) (x ∷ xs) = changed-rest d i xs

  pub changed-all : (i : ℕ) (xs : List A) → length xs ≤ i → changed i xs ≡ map f xs
  unfolding changed
  changed-all zero [] h = refl
  changed-all zero (x ∷ xs) h = absurd (omega arith)
  changed-all (suc i) [] h = refl
  changed-all (suc i) (x ∷ xs) h = ap (λ (ys : List A). f x ∷ ys) (changed-all i xs (omega arith))

  pub map-length : (xs : List A) → length (map f xs) ≡ length xs
  map-length [] = refl
  map-length (x ∷ xs) = ap suc (map-length xs)
