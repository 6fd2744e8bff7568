-- A list whose first words are written anew.
use Prim.Native.Nat.{ℕ, ◌+◌, ◌-◌, ◌≤◌, ◌<◌}
use mathlib.Core.Path.{◌≡◌, sym, ap, ◌∙◌}
use mathlib.Core.Logic.{◌⊎◌, inl, inr}
use mathlib.Core.List.{List, ◌++◌}
use native.Mathlib.Omega.{arith}
use lib.ListN.{length, get_or, drop, replicate, length-append, length-drop, length-replicate, get_or-replicate, get_or-append}
use lib.Seq.{get_or-append-add, get_or-drop}
use Rattle.plan.proofs.Truth.{split}
use Rattle.rows.specs.Words.{Filled, KeptFrom}
use Rattle.rows.proofs.Words.{same-words}
use Rattle.router.specs.Route.{zeroed}

pub splice-is : (xs old new : List ℕ) → length new ≡ length old → length xs ≤ length old → ((k : ℕ) → k < length xs → get_or new k 0 ≡ get_or xs k 0) → ((k : ℕ) → length xs ≤ k → get_or new k 0 ≡ get_or old k 0) → new ≡ xs ++ drop (length xs) old
splice-is xs old new same fits low high =
    same-words new (xs ++ drop (length xs) old)
    (omega (arith, length-append xs (drop (length xs) old), length-drop (length xs) old))
    (λ k. go k (split (length xs) k))
  where
    go : (k : ℕ) → (length xs ≤ k) ⊎ (k < length xs) → get_or new k 0 ≡ get_or (xs ++ drop (length xs) old) k 0
    go k (inr h) = low k h ∙ sym (get_or-append xs (drop (length xs) old) 0 k h)
    go k (inl h) =
        let e : length xs + (k - length xs) ≡ k = omega arith in
        high k h ∙ sym (rw e at (get_or-append-add xs (drop (length xs) old) (k - length xs) 0 ∙ get_or-drop (length xs) old (k - length xs) 0))

-- the first n words cleared, after changes to those alone
pub zeroed-is : (n m : ℕ) (old mid new : List ℕ) → m ≤ n → n ≤ length old → length mid ≡ length old → KeptFrom m old mid → Filled (λ k. 0) 0 (n - 0) mid new → new ≡ zeroed n old
unfolding zeroed
zeroed-is n m old mid new less fits same kept f =
    rw length-replicate
    at (splice-is (replicate n 0) old new (f.same ∙ same) (omega (arith, length-replicate {A = ℕ} n 0))
    (λ k h. low k (omega (arith, length-replicate {A = ℕ} n 0)))
    (λ k h. f.high k (omega (arith, length-replicate {A = ℕ} n 0)) ∙ kept k (omega (arith, length-replicate {A = ℕ} n 0))))
  where
    low : (k : ℕ) → k < n → get_or new k 0 ≡ get_or (replicate n 0) k 0
    low k h =
        let e : 0 + k ≡ k = omega arith in
        rw e at (f.done k (omega arith)) ∙ sym (get_or-replicate n k 0 0 h)

-- zeroing forgets what the first words held
pub zeroed-kept : (n m : ℕ) (old mid : List ℕ) → m ≤ n → length mid ≡ length old → KeptFrom m old mid → zeroed n mid ≡ zeroed n old
unfolding zeroed
zeroed-kept n m old mid less same kept = ap (λ (xs : List ℕ). replicate n 0 ++ xs) rest
  where
    rest : drop n mid ≡ drop n old
    rest =
        same-words (drop n mid) (drop n old) (omega (arith, length-drop n mid, length-drop n old))
        (λ k. get_or-drop n mid k 0 ∙ (kept (n + k) (omega arith) ∙ sym (get_or-drop n old k 0)))
