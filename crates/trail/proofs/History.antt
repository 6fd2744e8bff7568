-- The laws of the undo trail: what changes of the words and of the trail leave of the history.
use Rattle.std.proofs.Common.{ℕ, ◌+◌, ◌≤◌, ◌<◌, ◌≡◌, refl, sym, ◌∙◌, ◌⊎◌, inl, inr, List, arith, le-leb, get_or}
use borrow.Author.Tests.{lt-leb}
use Rattle.plan.proofs.Truth.{split, equal}
use Rattle.budget.specs.Table.{Table}
use Rattle.layout.specs.Layout.{slot_words}
use Rattle.rows.specs.Rows.{view_of}
use Rattle.costs.specs.Costs.{row_words}
use Rattle.trail.specs.declared.Trail.{Trail}
use Rattle.trail.specs.Trail.{slots_of, slot_of, place_of, cell_at, stamp_at, Sound, TrailKept, RowOf, History, Noted, stamped, followed}
use Rattle.trail.proofs.Slots.{PlaceIn, entry-view, cell-alike, stamp-alike, unstored-alike, stored-alike, entry-alike}

-- some entry has this cell and a layer above s
pub record Above (n : ℕ) (words : List ℕ) (t : Trail) (s c : ℕ) : Type 0 where
  pub at : ℕ
  pub below : at < t.count
  pub above : s < stamp_at n words t at
  pub holds : cell_at n words t at ≡ c

abbrev pub SameView : List ℕ → List ℕ → ℕ → Type 0
SameView old new c = (l : ℕ) → l < row_words → view_of new c l ≡ view_of old c l

-- the trail's words stay
module _ (n : ℕ) (old : List ℕ) (t : Trail) (new : List ℕ) (sound : Sound n old t) (kept : TrailKept n old new) where
  alike : (i k : ℕ) → i < t.count → k < slot_words → get_or new (place_of n t i + k) 0 ≡ get_or old (place_of n t i + k) 0
  alike i k h q = go (entry-view sound i (omega (arith, sound.fits)))
    where
      go : PlaceIn n t.room (slot_of t i) → get_or new (place_of n t i + k) 0 ≡ get_or old (place_of n t i + k) 0
      go (PlaceIn.first p e) = kept.far (place_of n t i + k) (omega arith) (omega arith)
      go (PlaceIn.second x p r e) = kept.near (place_of n t i + k) (omega arith) (omega arith)

  pub sound-kept : Sound n new t
  sound-kept =
      record {
        start = sound.start;
        fits = sound.fits;
        slots = sound.slots;
        low = sound.low;
        cells = λ i h. omega (arith, cell-alike n old t new t t.count alike i h, sound.cells i h);
        early = λ i h. omega (arith, stamp-alike n old t new t t.count alike i h, sound.early i h);
        late = λ i h. omega (arith, stamp-alike n old t new t t.count alike i h, sound.late i h);
        sorted = λ i j h k. omega (arith, stamp-alike n old t new t t.count alike i (omega arith), stamp-alike n old t new t t.count alike j k, sound.sorted i j h k);
      }

  pub noted-kept : (c : ℕ) → Noted n old t c → Noted n new t c
  noted-kept c (inl h) = inl h
  noted-kept c (inr x) = inr (entry-alike n old t new t t.count alike c x x.below x.below refl)

  -- each row that a layer has not saved stays
  pub history-moved : (u : ℕ) (Z : ℕ → Table) → ((s c : ℕ) → t.low ≤ s → s ≤ u → c < n → SameView old new c ⊎ Above n old t s c) → History n old t u Z → History n new t u Z
  history-moved u Z same past s c lo hi h = go (same s c lo hi h) (past s c lo hi h)
    where
      go : SameView old new c ⊎ Above n old t s c → RowOf n old t s c (Z s c) → RowOf n new t s c (Z s c)
      go (inl v) (RowOf.stays none row) =
          RowOf.stays (unstored-alike n old t new t t.count alike s c t.count (omega arith) none) (λ l q. v l q ∙ row l q)
      go (inr a) (RowOf.stays none row) = absurd (none a.at a.below a.above a.holds)
      go v (RowOf.stored x) = RowOf.stored (stored-alike n old t new t t.count alike s c (Z s c) x x.below x.below)

  pub history-kept : (u : ℕ) (Z : ℕ → Table) → ((c : ℕ) → c < n → SameView old new c) → History n old t u Z → History n new t u Z
  history-kept u Z same = history-moved u Z (λ s c lo hi h. inl (same c h))

  -- a row that is saved may change
  pub history-pushed : (u : ℕ) (Z : ℕ → Table) (cell : ℕ) → u < t.stamp → Noted n old t cell → ((c : ℕ) → c < n → (c ≡ cell → ⊥) → SameView old new c) → History n old t u Z → History n new t u Z
  history-pushed u Z cell below noted same = history-moved u Z (λ s c lo hi h. pick s c lo hi h (equal c cell) noted)
    where
      pick : (s c : ℕ) → t.low ≤ s → s ≤ u → c < n → (c ≡ cell) ⊎ (c ≡ cell → ⊥) → Noted n old t cell → SameView old new c ⊎ Above n old t s c
      pick s c lo hi h (inr f) x = inl (same c h f)
      pick s c lo hi h (inl e) (inl z) = absurd (omega arith)
      pick s c lo hi h (inl e) (inr x) =
          inr (record { at = x.at; below = x.below; above = omega (arith, x.now); holds = x.holds ∙ sym e })

module _ (Z : ℕ → Table) (u : ℕ) (A : Table) where
  pub followed-before : (s : ℕ) → s ≤ u → followed Z u A s ≡ Z s
  unfolding followed
  followed-before s h = simp (le-leb _ _ h)

  pub followed-after : (s : ℕ) → u < s → followed Z u A s ≡ A
  unfolding followed
  followed-after s h = simp (lt-leb _ _ h)

  -- what holds of each layer
  pub followed-all : (Q : ℕ → Table → Type 0) (v : ℕ) → ((s : ℕ) → s ≤ u → Q s (Z s)) → ((s : ℕ) → u < s → s ≤ v → Q s A) → (s : ℕ) → s ≤ v → Q s (followed Z u A s)
  followed-all Q v before after s h = go (split s u)
    where
      go : (s ≤ u) ⊎ (u < s) → Q s (followed Z u A s)
      go (inl k) = rw (followed-before s k) (before s k)
      go (inr k) = rw (followed-after s k) (after s k h)

  -- the table of now is that of the layers after u
  pub history-followed : (n : ℕ) (words : List ℕ) (t : Trail) (v : ℕ) → Sound n words t → t.stamp ≤ u + 1 → ((c l : ℕ) → c < n → l < row_words → view_of words c l ≡ A c l) → History n words t u Z → History n words t v (followed Z u A)
  history-followed n words t v sound stamp same past s c lo hi h = go (split s u)
    where
      go : (s ≤ u) ⊎ (u < s) → RowOf n words t s c (followed Z u A s c)
      go (inl q) = rw (followed-before s q) (past s c lo q h)
      go (inr q) = rw (followed-after s q) (RowOf.stays (λ i k a e. omega (arith, sound.late i k)) (λ l k. same c l h k))

-- an empty trail, with the table of layer 0
pub history-start : (n : ℕ) (words : List ℕ) (t : Trail) (Z : ℕ → Table) → t.count ≡ 0 → ((c l : ℕ) → c < n → l < row_words → view_of words c l ≡ Z 0 c l) → History n words t 0 Z
history-start n words t Z none same s c lo hi h =
    let e : s ≡ 0 = omega arith in
    rw e (RowOf.stays (λ i k a f. omega arith) (λ l k. same c l h k))

pub sound_none : (n : ℕ) (words : List ℕ) (t : Trail) → t.start ≡ 0 → t.count ≡ 0 → t.room ≤ slots_of n → t.low ≤ t.stamp → Sound n words t
sound_none n words t a b r l =
    record {
      start = omega arith;
      fits = omega arith;
      slots = r;
      low = l;
      cells = λ i h. absurd (omega arith);
      early = λ i h. absurd (omega arith);
      late = λ i h. absurd (omega arith);
      sorted = λ i j h k. absurd (omega arith);
    }

-- the stamp of the next layer
module _ (n : ℕ) (words : List ℕ) (t : Trail) (stamp : ℕ) where
  pub sound-stamped : t.stamp ≤ stamp → Sound n words t → Sound n words (stamped t stamp)
  unfolding slot_of
  sound-stamped h s =
      record {
        start = s.start;
        fits = s.fits;
        slots = s.slots;
        low = omega (arith, s.low);
        cells = s.cells;
        early = s.early;
        late = λ i k. omega (arith, s.late i k);
        sorted = s.sorted;
      }

  pub history-stamped : (u : ℕ) (Z : ℕ → Table) → History n words t u Z → History n words (stamped t stamp) u Z
  unfolding slot_of
  history-stamped u Z past s c lo hi h = go (past s c lo hi h)
    where
      go : RowOf n words t s c (Z s c) → RowOf n words (stamped t stamp) s c (Z s c)
      go (RowOf.stays none row) = RowOf.stays none row
      go (RowOf.stored x) = RowOf.stored (record { at = x.at; below = x.below; above = x.above; holds = x.holds; first = x.first; row = x.row })

-- with no entry above the layer the table is the layer's
pub history-now : (n : ℕ) (words : List ℕ) (t : Trail) (layer : ℕ) (Z : ℕ → Table) → ((i : ℕ) → i < t.count → stamp_at n words t i ≤ layer) → t.low ≤ layer → History n words t layer Z → (c l : ℕ) → c < n → l < row_words → view_of words c l ≡ Z layer c l
history-now n words t layer Z none low past c l h k = go (past layer c low (omega arith) h)
  where
    go : RowOf n words t layer c (Z layer c) → view_of words c l ≡ Z layer c l
    go (RowOf.stays f row) = row l k
    go (RowOf.stored x) = absurd (omega (arith, x.above, none x.at x.below))
