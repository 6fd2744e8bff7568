-- Words lent to a route: all of its own, or none; and the whole visits afterwards.
use Prim.Native.Nat.{ℕ, ◌+◌, ◌≤◌, ◌<◌}
use mathlib.Core.Bool.{Bool, true, false, cond}
use mathlib.Core.List.{List, [], ◌∷◌, ◌++◌}
use mathlib.Core.Logic.{◌⊎◌, inl, inr}
use mathlib.Core.Path.{◌≡◌, refl, sym, ◌∙◌}
use native.Mathlib.Omega.{arith}
use borrow.Author.Tests.{leb-true, leb-false, le-leb, lt-leb, lt-ltb, le-ltb}
use lib.Dec.{leb, ltb}
use lib.ListN.{length, get_or, drop, length-append, length-drop}
use lib.Seq.{ext_get_or}
use Rattle.rows.specs.Words.{Filled}
use Rattle.emission.specs.Emission.{RoomOrNone}

abbrev pub Lends : ℕ → ℕ → ℕ → Type 0
Lends need lent r = ((need ≤ lent) × (r ≡ need)) ⊎ ((lent < need) × (r ≡ 0))

pub lends : (need lent r : ℕ) → r ≡ cond (leb need lent) need 0 → Lends need lent r
lends need lent r e = go (leb need lent) refl e
  where
    go : (b : Bool) → leb need lent ≡ b → r ≡ cond b need 0 → Lends need lent r
    go true h e = inl (leb-true _ _ h, e)
    go false h e = inr (leb-false _ _ h, e)

pub room_most : {need lent r : ℕ} → Lends need lent r → r ≤ lent
room_most (inl h) = omega arith
room_most (inr h) = omega arith

pub room_fits : {need lent r n : ℕ} → n ≡ r → Lends need lent r → RoomOrNone need n
room_fits e (inl h) = inl (omega arith)
room_fits e (inr h) = inr (e ∙ h.1)

-- it is none exactly if there is no room
pub room-some : {need lent r : ℕ} → Lends need lent r → 0 < need → ltb 0 r ≡ leb need lent
room-some {need} {lent} {r} (inl h) some = lt-ltb 0 r (omega arith) ∙ sym (le-leb need lent h.0)
room-some {need} {lent} {r} (inr h) some = le-ltb 0 r (omega arith) ∙ sym (lt-leb need lent h.0)

-- the visits afterwards, of those lent and the part that was written
module _ (visits part : List ℕ) (r : ℕ) (full : length part ≡ r) where
  pub kept-length : r ≤ length visits → length (part ++ drop r visits) ≡ length visits
  kept-length h = omega (arith, length-append part (drop r visits), length-drop r visits)

  none_before : (ys : List ℕ) → length ys ≡ r → r ≡ 0 → ys ++ drop r visits ≡ visits
  none_before [] e z = rw z
  none_before (y ∷ ys) e z = absurd (omega arith)

  pub visits-left : (xs blank : List ℕ) {need : ℕ} → Lends need (length visits) r → length xs ≡ need → (need ≤ r → Filled (λ i. get_or xs i 0) 0 need blank part) → part ++ drop r visits ≡ cond (leb need (length visits)) (xs ++ drop (length xs) visits) visits
  visits-left xs blank {need} (inl h) long f =
      let whole : part ≡ xs = ext_get_or 0 part xs (omega arith) (λ i q. let e : 0 + i ≡ i = omega arith in rw e at ((f (omega arith)).done i (omega arith))) in
      let same : r ≡ length xs = omega arith in
      rw (le-leb need (length visits) h.0, whole, same) refl
  visits-left xs blank {need} (inr h) long f = rw (lt-leb need (length visits) h.0) (none_before part full h.1)
