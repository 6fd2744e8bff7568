-- Slots of the ring, and entries that two trails share.
use Rattle.std.proofs.Common.{ℕ, ◌+◌, ◌-◌, ◌*◌, ◌/◌, ◌≤◌, ◌<◌, ◌≡◌, ◌∙◌, cond, ◌⊎◌, inl, inr, List, arith, lt-ltb, le-ltb, le-leb, ltb, get_or}
use borrow.Author.Tests.{lt-leb}
use Rattle.plan.proofs.Truth.{split}
use Rattle.costs.specs.Costs.{row_words}
use Rattle.layout.specs.Layout.{arrival_at, labels_at, trail_at, cell_words, near_words, far_words, slot_words, slot_cell}
use Rattle.trail.specs.declared.Trail.{Trail}
use Rattle.trail.specs.Trail.{slots_of, slot_of, place_in, place_of, cell_at, stamp_at, Sound, Unstored, Stored, Entry}

-- before the end of the ring, or past it
pub slot_cases : (t : Trail) (i : ℕ) → ((t.start + i < t.room) × (slot_of t i ≡ t.start + i)) ⊎ ((t.room ≤ t.start + i) × (slot_of t i ≡ t.start + i - t.room))
unfolding slot_of
slot_cases t i = go (split t.room (t.start + i))
  where
    go : (t.room ≤ t.start + i) ⊎ (t.start + i < t.room) → ((t.start + i < t.room) × (cond (ltb (t.start + i) t.room) (t.start + i) (t.start + i - t.room) ≡ t.start + i)) ⊎ ((t.room ≤ t.start + i) × (cond (ltb (t.start + i) t.room) (t.start + i) (t.start + i - t.room) ≡ t.start + i - t.room))
    go (inl h) = inr (h, simp (le-ltb _ _ h))
    go (inr h) = inl (h, simp (lt-ltb _ _ h))

module _ (t : Trail) (start : t.start ≤ t.room) where
  pub slot-below : (i : ℕ) → i < t.room → slot_of t i < t.room
  slot-below i h = go (slot_cases t i)
    where
      go : ((t.start + i < t.room) × (slot_of t i ≡ t.start + i)) ⊎ ((t.room ≤ t.start + i) × (slot_of t i ≡ t.start + i - t.room)) → slot_of t i < t.room
      go (inl e) = omega arith
      go (inr e) = omega arith

  -- different entries, different slots
  pub slot_apart : (i j : ℕ) → i < j → j < t.room → slot_of t i ≡ slot_of t j → ⊥
  slot_apart i j h k e = go (slot_cases t i) (slot_cases t j)
    where
      go : ((t.start + i < t.room) × (slot_of t i ≡ t.start + i)) ⊎ ((t.room ≤ t.start + i) × (slot_of t i ≡ t.start + i - t.room)) → ((t.start + j < t.room) × (slot_of t j ≡ t.start + j)) ⊎ ((t.room ≤ t.start + j) × (slot_of t j ≡ t.start + j - t.room)) → ⊥
      go (inl a) (inl b) = omega arith
      go (inl a) (inr b) = omega arith
      go (inr a) (inl b) = omega arith
      go (inr a) (inr b) = omega arith

-- without the oldest entry each of the others has one number less
pub slot_next : (t r : Trail) → r.room ≡ t.room → r.start ≡ slot_of t 1 → t.start ≤ t.room → 0 < t.room → (i : ℕ) → i + 1 < t.room → slot_of r i ≡ slot_of t (i + 1)
slot_next t r e f h p i k = go (slot_cases t 1) (slot_cases r i) (slot_cases t (i + 1))
  where
    go : ((t.start + 1 < t.room) × (slot_of t 1 ≡ t.start + 1)) ⊎ ((t.room ≤ t.start + 1) × (slot_of t 1 ≡ t.start + 1 - t.room)) → ((r.start + i < r.room) × (slot_of r i ≡ r.start + i)) ⊎ ((r.room ≤ r.start + i) × (slot_of r i ≡ r.start + i - r.room)) → ((t.start + (i + 1) < t.room) × (slot_of t (i + 1) ≡ t.start + (i + 1))) ⊎ ((t.room ≤ t.start + (i + 1)) × (slot_of t (i + 1) ≡ t.start + (i + 1) - t.room)) → slot_of r i ≡ slot_of t (i + 1)
    go (inl a) (inl b) (inl c) = omega arith
    go (inl a) (inl b) (inr c) = omega arith
    go (inl a) (inr b) (inl c) = omega arith
    go (inl a) (inr b) (inr c) = omega arith
    go (inr a) (inl b) (inl c) = omega arith
    go (inr a) (inl b) (inr c) = omega arith
    go (inr a) (inr b) (inl c) = omega arith
    go (inr a) (inr b) (inr c) = omega arith

-- the same ring
pub slot_same : (t r : Trail) → r.room ≡ t.room → r.start ≡ t.start → (i : ℕ) → slot_of r i ≡ slot_of t i
unfolding slot_of
slot_same t r a b i = rw (a, b)

-- there are few slots
pub slots-few : (n : ℕ) → slots_of n ≤ n * 3
unfolding slots_of
slots-few n = omega arith

-- a slot is in the first stretch, or in the second
pub data PlaceIn (n room slot : ℕ) : Type 0 where
  first : slot * slot_words + slot_words ≤ n * far_words → place_in n room slot ≡ n * trail_at + slot * slot_words → PlaceIn n room slot
  second : slot < room → n * far_words < slot * slot_words + slot_words → (room - slot) * slot_words + row_words ≤ n * near_words → place_in n room slot ≡ n * labels_at - (room - slot) * slot_words → PlaceIn n room slot

module _ (n room : ℕ) (few : room ≤ slots_of n) where
  pub place_view : (slot : ℕ) → slot < room → PlaceIn n room slot
  unfolding place_in slots_of
  place_view slot h = go (split (slot * slot_words + slot_words) (n * far_words))
    where
      go : (slot * slot_words + slot_words ≤ n * far_words) ⊎ (n * far_words < slot * slot_words + slot_words) → PlaceIn n room slot
      go (inl k) = first k (simp (le-leb _ _ k))
      go (inr k) =
          let a : n * far_words / slot_words ≤ slot = omega arith in
          let b : room - slot ≤ (n * near_words - row_words) / slot_words = omega arith in
          let some : 1 ≤ (n * near_words - row_words) / slot_words = omega arith in
          second h k (omega arith) (simp (lt-leb _ _ k))

  -- different slots, different words
  pub place-apart : (a b : ℕ) → a < b → b < room → (place_in n room a + slot_words ≤ place_in n room b) ⊎ (place_in n room b + slot_words ≤ place_in n room a)
  place-apart a b h k = go (place_view a (omega arith)) (place_view b k)
    where
      go : PlaceIn n room a → PlaceIn n room b → (place_in n room a + slot_words ≤ place_in n room b) ⊎ (place_in n room b + slot_words ≤ place_in n room a)
      go (first p e) (first q f) = inl (omega arith)
      go (first p e) (second y q r f) = inr (omega arith)
      go (second x p s e) (first q f) = absurd (omega arith)
      go (second x p s e) (second y q r f) = inl (omega arith)

-- the entry's words lie in the trail's
module _ {n : ℕ} {words : List ℕ} {t : Trail} (s : Sound n words t) (i : ℕ) (h : i < t.room) where
  pub entry-view : PlaceIn n t.room (slot_of t i)
  entry-view = place_view n t.room s.slots (slot_of t i) (slot-below t s.start i h)

  pub place-in : place_of n t i + slot_words ≤ n * cell_words
  place-in = go entry-view
    where
      go : PlaceIn n t.room (slot_of t i) → place_of n t i + slot_words ≤ n * cell_words
      go (first p e) = omega arith
      go (second x p r e) = omega arith

  -- and after the arrival row
  pub place-above : n * arrival_at + row_words ≤ place_of n t i
  place-above = go entry-view
    where
      go : PlaceIn n t.room (slot_of t i) → n * arrival_at + row_words ≤ place_of n t i
      go (first p e) =
          let some : 1 ≤ n = omega arith in
          omega arith
      go (second x p r e) = omega arith

-- the first `upto` entries of t in `old` are those of r in `new`
module _ (n : ℕ) (old : List ℕ) (t : Trail) (new : List ℕ) (r : Trail) (upto : ℕ) (alike : (i k : ℕ) → i < upto → k < slot_words → get_or new (place_of n r i + k) 0 ≡ get_or old (place_of n t i + k) 0) where
  pub cell-alike : (i : ℕ) → i < upto → cell_at n new r i ≡ cell_at n old t i
  cell-alike i h = alike i slot_cell h (omega arith)

  pub stamp-alike : (i : ℕ) → i < upto → stamp_at n new r i ≡ stamp_at n old t i
  stamp-alike i h = omega (arith, alike i 65 h (omega arith), alike i 66 h (omega arith))

  pub unstored-alike : (s c m : ℕ) → m ≤ upto → Unstored n old t s c m → Unstored n new r s c m
  unstored-alike s c m h none i k a e = none i k (omega (arith, stamp-alike i (omega arith))) (omega (arith, cell-alike i (omega arith)))

  pub stored-alike : (s c : ℕ) (row : ℕ → ℕ) (x : Stored n old t s c row) → x.at < upto → x.at < r.count → Stored n new r s c row
  stored-alike s c row x h k =
      record {
        at = x.at;
        below = k;
        above = omega (arith, stamp-alike x.at h, x.above);
        holds = omega (arith, cell-alike x.at h, x.holds);
        first = unstored-alike s c x.at (omega arith) x.first;
        row = λ l q. alike x.at l h (omega arith) ∙ x.row l q;
      }

  pub entry-alike : (c : ℕ) (x : Entry n old t c) → x.at < upto → x.at < r.count → r.stamp ≡ t.stamp → Entry n new r c
  entry-alike c x h k e =
      record {
        at = x.at;
        below = k;
        now = omega (arith, stamp-alike x.at h, x.now);
        holds = omega (arith, cell-alike x.at h, x.holds);
      }
