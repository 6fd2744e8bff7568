-- What forgetting the oldest entry, recording a row and putting one back leave of the history.
use Rattle.std.proofs.Common.{ℕ, ◌+◌, ◌-◌, ◌*◌, ◌≤◌, ◌<◌, min, ◌≡◌, sym, ap, ◌∙◌, ◌⊎◌, inl, inr, List, arith, length, get_or}
use Rattle.plan.proofs.Truth.{split, equal}
use Rattle.budget.specs.Table.{Table}
use Rattle.layout.specs.Layout.{arrival_at, labels_at, trail_at, far_words, slot_words, slot_cell}
use Rattle.rows.specs.Words.{KeptFrom}
use Rattle.rows.specs.Rows.{view_of}
use Rattle.costs.specs.Costs.{row_words}
use Rattle.trail.specs.declared.Trail.{Trail}
use Rattle.trail.specs.Trail.{slot_of, stamp_of, place_of, row_at, cell_at, stamp_at, Sound, Unstored, Stored, RowOf, History, Noted, RoomMade, Saved, Restored}
use Rattle.trail.proofs.Slots.{PlaceIn, slot_cases, slot-below, slot_apart, slot_next, slot_same, place-apart, entry-view, place-above, cell-alike, stamp-alike, unstored-alike, stored-alike, entry-alike}

-- a full trail without its oldest entry
module _ (n : ℕ) (words : List ℕ) (t r : Trail) (sound : Sound n words t) (some : 0 < t.room) (full : t.room ≤ t.count) (room : r.room ≡ t.room) (start : r.start ≡ slot_of t 1) (count : r.count ≡ t.count - 1) (low : r.low ≡ stamp_at n words t 0) (stamp : r.stamp ≡ t.stamp) where
  place-next : (i : ℕ) → i < r.count → place_of n r i ≡ place_of n t (i + 1)
  place-next i h = rw (slot_next t r room start sound.start some i (omega (arith, sound.fits)), room)

  cell-next : (i : ℕ) → i < r.count → cell_at n words r i ≡ cell_at n words t (i + 1)
  cell-next i h = ap (λ (x : ℕ). get_or words (x + slot_cell) 0) (place-next i h)

  stamp-next : (i : ℕ) → i < r.count → stamp_at n words r i ≡ stamp_at n words t (i + 1)
  stamp-next i h = ap (stamp_of words) (place-next i h)

  start-in : r.start ≤ r.room
  start-in = go (slot_cases t 1)
    where
      go : ((t.start + 1 < t.room) × (slot_of t 1 ≡ t.start + 1)) ⊎ ((t.room ≤ t.start + 1) × (slot_of t 1 ≡ t.start + 1 - t.room)) → r.start ≤ r.room
      go (inl e) = omega arith
      go (inr e) = omega (arith, sound.start)

  lower : t.low ≤ r.low
  lower = omega (arith, sound.early 0 (omega arith))

  forget-history : (u : ℕ) (Z : ℕ → Table) → History n words t u Z → History n words r u Z
  forget-history u Z past s c lo hi h = go (past s c (omega (arith, lower)) hi h)
    where
      shift : (x : Stored n words t s c (Z s c)) (j : ℕ) → j + 1 ≡ x.at → Stored n words r s c (Z s c)
      shift x j e =
          let k : j < r.count = omega (arith, x.below) in
          let f : place_of n r j ≡ place_of n t x.at = place-next j k ∙ ap (place_of n t) e in
          record {
            at = j;
            below = k;
            above = omega (arith, ap (stamp_of words) f, x.above);
            holds = ap (λ (p : ℕ). get_or words (p + slot_cell) 0) f ∙ x.holds;
            first = λ i m a q. x.first (i + 1) (omega arith) (omega (arith, stamp-next i (omega arith))) (sym (cell-next i (omega arith)) ∙ q);
            row = λ l q. ap (λ (p : ℕ). get_or words (p + l) 0) f ∙ x.row l q;
          }

      from : (x : Stored n words t s c (Z s c)) → (1 ≤ x.at) ⊎ (x.at < 1) → RowOf n words r s c (Z s c)
      from x (inl q) = RowOf.stored (shift x (x.at - 1) (omega arith))
      from x (inr q) =
          let e : x.at ≡ 0 = omega arith in
          absurd (omega (arith, x.above, ap (stamp_at n words t) e))

      go : RowOf n words t s c (Z s c) → RowOf n words r s c (Z s c)
      go (RowOf.stays none row) =
          RowOf.stays (λ i k a e. none (i + 1) (omega arith) (omega (arith, stamp-next i k)) (sym (cell-next i k) ∙ e)) row
      go (RowOf.stored x) = from x (split 1 x.at)

  forget-noted : (c : ℕ) → Noted n words t c → Noted n words r c
  forget-noted c (inl h) = inl (omega (arith, lower))
  forget-noted c (inr x) = go (split 1 x.at)
    where
      go : (1 ≤ x.at) ⊎ (x.at < 1) → Noted n words r c
      go (inr q) =
          let e : x.at ≡ 0 = omega arith in
          inl (omega (arith, x.now, ap (stamp_at n words t) e))
      go (inl q) =
          let k : x.at - 1 < r.count = omega (arith, x.below) in
          let e : x.at - 1 + 1 ≡ x.at = omega arith in
          let f : place_of n r (x.at - 1) ≡ place_of n t x.at = place-next (x.at - 1) k ∙ ap (place_of n t) e in
          inr (record { at = x.at - 1; below = k; now = omega (arith, ap (stamp_of words) f, x.now); holds = ap (λ (p : ℕ). get_or words (p + slot_cell) 0) f ∙ x.holds })

  pub forget : RoomMade n words t r
  forget =
      record {
        sound =
            record {
              start = start-in;
              fits = omega (arith, sound.fits);
              slots = omega (arith, sound.slots);
              low = omega (arith, sound.late 0 (omega arith));
              cells = λ i h. omega (arith, cell-next i h, sound.cells (i + 1) (omega arith));
              early = λ i h. omega (arith, stamp-next i h, sound.sorted 0 (i + 1) (omega arith) (omega arith));
              late = λ i h. omega (arith, stamp-next i h, sound.late (i + 1) (omega arith));
              sorted = λ i j h k. omega (arith, stamp-next i (omega arith), stamp-next j k, sound.sorted (i + 1) (j + 1) (omega arith) (omega arith));
            };
        free = omega (arith, sound.fits);
        room = room;
        stamp = stamp;
        history = forget-history;
        noted = forget-noted;
      }

-- one entry more
module _ (n cell : ℕ) (old : List ℕ) (t : Trail) (new : List ℕ) (r : Trail) (sound : Sound n old t) (free : t.count < t.room) (room : r.room ≡ t.room) (start : r.start ≡ t.start) (count : r.count ≡ t.count + 1) (low : r.low ≡ t.low) (stamp : r.stamp ≡ t.stamp) (cell_in : cell < n) (same : length new ≡ length old) (kept : (k : ℕ) → (k < place_of n t t.count) ⊎ (place_of n t t.count + slot_words ≤ k) → get_or new k 0 ≡ get_or old k 0) (row : (l : ℕ) → l < row_words → get_or new (place_of n t t.count + l) 0 ≡ get_or old (cell * row_words + l) 0) (cellWord : get_or new (place_of n t t.count + slot_cell) 0 ≡ cell) (stampWords : stamp_of new (place_of n t t.count) ≡ t.stamp) where
  place_is : (i : ℕ) → place_of n r i ≡ place_of n t i
  place_is i = rw (slot_same t r room start i, room)

  alike : (i k : ℕ) → i < t.count → k < slot_words → get_or new (place_of n r i + k) 0 ≡ get_or old (place_of n t i + k) 0
  alike i k h q = rw (place_is i) (kept (place_of n t i + k) (side (apart (split (slot_of t t.count) (slot_of t i)))))
    where
      Apart : Type 0
      Apart = (place_of n t i + slot_words ≤ place_of n t t.count) ⊎ (place_of n t t.count + slot_words ≤ place_of n t i)

      apart : (slot_of t t.count ≤ slot_of t i) ⊎ (slot_of t i < slot_of t t.count) → Apart
      apart (inr a) = place-apart n t.room sound.slots (slot_of t i) (slot_of t t.count) a (slot-below t sound.start t.count free)
      apart (inl a) = go (equal (slot_of t i) (slot_of t t.count))
        where
          go : (slot_of t i ≡ slot_of t t.count) ⊎ (slot_of t i ≡ slot_of t t.count → ⊥) → Apart
          go (inl e) = absurd (slot_apart t sound.start i t.count h free e)
          go (inr f) = swap (place-apart n t.room sound.slots (slot_of t t.count) (slot_of t i) (omega arith) (slot-below t sound.start i (omega arith)))
            where
              swap : (place_of n t t.count + slot_words ≤ place_of n t i) ⊎ (place_of n t i + slot_words ≤ place_of n t t.count) → Apart
              swap (inl x) = inr x
              swap (inr x) = inl x

      side : Apart → (place_of n t i + k < place_of n t t.count) ⊎ (place_of n t t.count + slot_words ≤ place_of n t i + k)
      side (inl x) = inl (omega arith)
      side (inr x) = inr (omega arith)

  new-cell : cell_at n new r t.count ≡ cell
  new-cell = rw (place_is t.count) cellWord

  new-stamp : stamp_at n new r t.count ≡ t.stamp
  new-stamp = rw (place_is t.count) stampWords

  view-same : (c l : ℕ) → c < n → l < row_words → view_of new c l ≡ view_of old c l
  view-same c l h k = kept (c * row_words + l) (inl (omega (arith, place-above sound t.count free)))

  save-history : (u : ℕ) (Z : ℕ → Table) → u < t.stamp → History n old t u Z → History n new r u Z
  save-history u Z below past s c lo hi h = go (past s c (omega arith) hi h) (equal c cell)
    where
      before : Unstored n old t s c t.count → Unstored n new r s c t.count
      before none = unstored-alike n old t new r t.count alike s c t.count (omega arith) none

      go : RowOf n old t s c (Z s c) → (c ≡ cell) ⊎ (c ≡ cell → ⊥) → RowOf n new r s c (Z s c)
      go (RowOf.stored x) e = RowOf.stored (stored-alike n old t new r t.count alike s c (Z s c) x x.below (omega (arith, x.below)))
      go (RowOf.stays none here) (inl e) =
          RowOf.stored
          (record {
            at = t.count;
            below = omega arith;
            above = omega (arith, new-stamp);
            holds = new-cell ∙ sym e;
            first = before none;
            row = λ l k. rw (place_is t.count) (row l k ∙ (rw (← e) (here l k)));
          })
      go (RowOf.stays none here) (inr f) = RowOf.stays (λ i k a e. last i k a e (split t.count i)) (λ l k. view-same c l h k ∙ here l k)
        where
          last : (i : ℕ) → i < r.count → s < stamp_at n new r i → cell_at n new r i ≡ c → (t.count ≤ i) ⊎ (i < t.count) → ⊥
          last i k a e (inr q) = before none i q a e
          last i k a e (inl q) =
              let z : i ≡ t.count = omega arith in
              f (sym e ∙ (ap (cell_at n new r) z ∙ new-cell))

  save-others : (c : ℕ) → Noted n old t c → Noted n new r c
  save-others c (inl h) = inl (omega arith)
  save-others c (inr x) = inr (entry-alike n old t new r t.count alike c x x.below (omega (arith, x.below)) stamp)

  entry-cases : (P : ℕ → Type 0) → ((i : ℕ) → i < t.count → P i) → P t.count → (i : ℕ) → i < r.count → P i
  entry-cases P f g i h = go (split t.count i)
    where
      go : (t.count ≤ i) ⊎ (i < t.count) → P i
      go (inr q) = f i q
      go (inl q) =
          let z : t.count ≡ i = omega arith in
          rw z at g

  pub saved : Saved n cell old t new r
  saved =
      record {
        same = same;
        low = λ k lo hi. kept k (inl (omega (arith, place-above sound t.count free)));
        near = λ few k lo hi. near few k hi (entry-view sound t.count free);
        labels = λ k lo hi. labels k lo hi (entry-view sound t.count free);
        high = λ k h. high k h (entry-view sound t.count free);
        sound =
            record {
              start = omega (arith, sound.start);
              fits = omega arith;
              slots = omega (arith, sound.slots);
              low = omega (arith, sound.low);
              cells = entry-cases (λ i. cell_at n new r i < n) (λ i h. omega (arith, cell-alike n old t new r t.count alike i h, sound.cells i h)) (omega (arith, new-cell));
              early = entry-cases (λ i. r.low ≤ stamp_at n new r i) (λ i h. omega (arith, stamp-alike n old t new r t.count alike i h, sound.early i h)) (omega (arith, new-stamp, sound.low));
              late = late;
              sorted = λ i j h k. entry-cases (λ j. i ≤ j → stamp_at n new r i ≤ stamp_at n new r j) (λ j k h. omega (arith, stamp-alike n old t new r t.count alike i (omega arith), stamp-alike n old t new r t.count alike j k, sound.sorted i j h k)) (λ h. omega (arith, new-stamp, late i (omega arith))) j k h;
            };
        room = room;
        stamp = stamp;
        history = save-history;
        noted = inr (record { at = t.count; below = omega arith; now = omega (arith, new-stamp); holds = new-cell });
        others = save-others;
      }
    where
      last-slot : slot_of t t.count < t.room
      last-slot = slot-below t sound.start t.count free

      near : t.room * slot_words ≤ n * far_words → (k : ℕ) → k < n * labels_at → PlaceIn n t.room (slot_of t t.count) → get_or new k 0 ≡ get_or old k 0
      near few k hi (PlaceIn.first p e) = kept k (inl (omega arith))
      near few k hi (PlaceIn.second x p q e) = absurd (omega (arith, last-slot))

      labels : (k : ℕ) → n * labels_at ≤ k → k < n * trail_at → PlaceIn n t.room (slot_of t t.count) → get_or new k 0 ≡ get_or old k 0
      labels k lo hi (PlaceIn.first p e) = kept k (inl (omega arith))
      labels k lo hi (PlaceIn.second x p q e) = kept k (inr (omega (arith, last-slot)))

      high : (k : ℕ) → n * trail_at + min (t.room * slot_words) (n * far_words) ≤ k → PlaceIn n t.room (slot_of t t.count) → get_or new k 0 ≡ get_or old k 0
      high k h (PlaceIn.first p e) = kept k (inr (omega (arith, last-slot)))
      high k h (PlaceIn.second x p q e) = kept k (inr (omega (arith, last-slot)))

      late : (i : ℕ) → i < r.count → stamp_at n new r i ≤ r.stamp
      late = entry-cases (λ i. stamp_at n new r i ≤ r.stamp) (λ i h. omega (arith, stamp-alike n old t new r t.count alike i h, sound.late i h)) (omega (arith, new-stamp))

-- the newest entry's row is put back
module _ (n : ℕ) (old : List ℕ) (t : Trail) (new : List ℕ) (r : Trail) (sound : Sound n old t) (room : r.room ≡ t.room) (start : r.start ≡ t.start) (count : t.count ≡ r.count + 1) (low : r.low ≡ t.low) (stamp : r.stamp ≡ t.stamp) (same : length new ≡ length old) (kept : KeptFrom (n * arrival_at) old new) (back : (l : ℕ) → l < row_words → view_of new (cell_at n old t r.count) l ≡ row_at n old t r.count l) (others : (c l : ℕ) → c < n → l < row_words → (c ≡ cell_at n old t r.count → ⊥) → view_of new c l ≡ view_of old c l) where
  still : (i k : ℕ) → i < r.count → k < slot_words → get_or new (place_of n r i + k) 0 ≡ get_or old (place_of n t i + k) 0
  still i k h q = rw (slot_same t r room start i, room) (kept (place_of n t i + k) (omega (arith, place-above sound i (omega (arith, sound.fits)))))

  restore-history : (u : ℕ) (Z : ℕ → Table) → u < stamp_at n old t r.count → History n old t u Z → History n new r u Z
  restore-history u Z below past s c lo hi h = go (past s c (omega arith) hi h) (equal c (cell_at n old t r.count))
    where
      before : Unstored n old t s c r.count → Unstored n new r s c r.count
      before none = unstored-alike n old t new r r.count still s c r.count (omega arith) none

      older : (x : Stored n old t s c (Z s c)) → x.at < r.count → RowOf n new r s c (Z s c)
      older x k = RowOf.stored (stored-alike n old t new r r.count still s c (Z s c) x k k)

      top : (x : Stored n old t s c (Z s c)) → (r.count ≤ x.at) ⊎ (x.at < r.count) → c ≡ cell_at n old t r.count → RowOf n new r s c (Z s c)
      top x (inr k) e = older x k
      top x (inl k) e =
          let z : x.at ≡ r.count = omega (arith, x.below) in
          RowOf.stays (before (rw z at x.first)) (λ l q. rw (← e) at (back l q) ∙ (rw z at (x.row l q)))

      elsewhere : (x : Stored n old t s c (Z s c)) → (r.count ≤ x.at) ⊎ (x.at < r.count) → (c ≡ cell_at n old t r.count → ⊥) → RowOf n new r s c (Z s c)
      elsewhere x (inr k) f = older x k
      elsewhere x (inl k) f =
          let z : x.at ≡ r.count = omega (arith, x.below) in
          absurd (f (sym x.holds ∙ ap (cell_at n old t) z))

      go : RowOf n old t s c (Z s c) → (c ≡ cell_at n old t r.count) ⊎ (c ≡ cell_at n old t r.count → ⊥) → RowOf n new r s c (Z s c)
      go (RowOf.stays none row) (inl e) = absurd (none r.count (omega arith) (omega arith) (sym e))
      go (RowOf.stays none row) (inr f) = RowOf.stays (before (λ i k a e. none i (omega arith) a e)) (λ l k. others c l h k f ∙ row l k)
      go (RowOf.stored x) (inl e) = top x (split r.count x.at) e
      go (RowOf.stored x) (inr f) = elsewhere x (split r.count x.at) f

  pub restored : Restored n old t new r
  restored =
      record {
        same = same;
        kept = kept;
        sound =
            record {
              start = omega (arith, sound.start);
              fits = omega (arith, sound.fits);
              slots = omega (arith, sound.slots);
              low = omega (arith, sound.low);
              cells = λ i h. omega (arith, cell-alike n old t new r r.count still i h, sound.cells i (omega arith));
              early = λ i h. omega (arith, stamp-alike n old t new r r.count still i h, sound.early i (omega arith));
              late = λ i h. omega (arith, stamp-alike n old t new r r.count still i h, sound.late i (omega arith));
              sorted = λ i j h k. omega (arith, stamp-alike n old t new r r.count still i (omega arith), stamp-alike n old t new r r.count still j k, sound.sorted i j h (omega arith));
            };
        fewer = count;
        lowest = low;
        history = restore-history;
      }
