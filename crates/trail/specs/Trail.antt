-- The undo trail in the scratch words of n cells: entry i, 0 the oldest, has the words of its slot.
-- The slots lie in two stretches: one after another from `trail_at` as long as they end by `cell_words`; the rest of them end at `labels_at`, and begin after the arrival row.
-- A layer s of the table is a function of cell and load; the trail holds what is needed to go back to any layer from `low` up to now.
use Rattle.std.specs.Prelude.{ℕ, ◌+◌, ◌-◌, ◌*◌, ◌/◌, ◌≤◌, ◌<◌, min, ◌≡◌, cond, ◌⊎◌, List, leb, ltb, length, get_or}
use Rattle.budget.specs.Table.{Table}
use Rattle.costs.specs.Costs.{row_words}
use Rattle.layout.specs.Layout.{arrival_at, labels_at, trail_at, cell_words, near_words, far_words, slot_words, slot_cell, slot_low, slot_high}
use Rattle.rows.specs.Rows.{view_of}
use Rattle.rows.specs.Words.{Kept, KeptFrom}
use Rattle.trail.specs.declared.Trail.{Trail}

abbrev pub no_trail : Trail
no_trail = record { room = 0; start = 0; count = 0; low = 0; stamp = 0 }

-- the slots that there are
unfoldable pub slots_of : ℕ → ℕ
slots_of n = n * far_words / slot_words + (n * near_words - row_words) / slot_words

abbrev pub new_trail : ℕ → Trail
new_trail n = record { room = slots_of n; start = 0; count = 0; low = 0; stamp = 0 }

-- the same trail while another layer is made
abbrev pub stamped : Trail → ℕ → Trail
stamped t stamp = record { room = t.room; start = t.start; count = t.count; low = t.low; stamp = stamp }

-- the slot of entry i
unfoldable pub slot_of : Trail → ℕ → ℕ
slot_of t i = cond (ltb (t.start + i) t.room) (t.start + i) (t.start + i - t.room)

-- the layer of the entry at a place
abbrev pub stamp_of : List ℕ → ℕ → ℕ
stamp_of words at = get_or words (at + slot_low) 0 + get_or words (at + slot_high) 0 * 65536

-- where a slot starts, of `room` slots
unfoldable pub place_in : ℕ → ℕ → ℕ → ℕ
place_in n room slot = cond (leb (slot * slot_words + slot_words) (n * far_words)) (n * trail_at + slot * slot_words) (n * labels_at - (room - slot) * slot_words)

-- where entry i starts, and its parts
abbrev pub place_of : ℕ → Trail → ℕ → ℕ
place_of n t i = place_in n t.room (slot_of t i)

abbrev pub row_at : ℕ → List ℕ → Trail → ℕ → ℕ → ℕ
row_at n words t i l = get_or words (place_of n t i + l) 0

abbrev pub cell_at : ℕ → List ℕ → Trail → ℕ → ℕ
cell_at n words t i = get_or words (place_of n t i + slot_cell) 0

abbrev pub stamp_at : ℕ → List ℕ → Trail → ℕ → ℕ
stamp_at n words t i = stamp_of words (place_of n t i)

-- The entries are in their slots, each of a cell of the plan, in the order of their layers.
pub record Sound (n : ℕ) (words : List ℕ) (t : Trail) : Type 0 where
  pub start : t.start ≤ t.room
  pub fits : t.count ≤ t.room
  pub slots : t.room ≤ slots_of n
  pub low : t.low ≤ t.stamp
  pub cells : (i : ℕ) → i < t.count → cell_at n words t i < n
  pub early : (i : ℕ) → i < t.count → t.low ≤ stamp_at n words t i
  pub late : (i : ℕ) → i < t.count → stamp_at n words t i ≤ t.stamp
  pub sorted : (i j : ℕ) → i ≤ j → j < t.count → stamp_at n words t i ≤ stamp_at n words t j

-- the words of both stretches stay
pub record TrailKept (n : ℕ) (old new : List ℕ) : Type 0 where
  pub near : Kept (n * arrival_at + row_words) (n * labels_at) old new
  pub far : Kept (n * trail_at) (n * cell_words) old new

pub record TrailAsks (n : ℕ) (words : List ℕ) (t : Trail) : Type 0 where
  pub sound : Sound n words t
  pub few : n ≤ 1024
  pub room : n * cell_words ≤ length words

-- none of the first `upto` entries has this cell and a layer above s
abbrev pub Unstored : ℕ → List ℕ → Trail → ℕ → ℕ → ℕ → Type 0
Unstored n words t s c upto = (i : ℕ) → i < upto → s < stamp_at n words t i → cell_at n words t i ≡ c → ⊥

-- the first entry with this cell and a layer above s
pub record Stored (n : ℕ) (words : List ℕ) (t : Trail) (s c : ℕ) (Z : ℕ → ℕ) : Type 0 where
  pub at : ℕ
  pub below : at < t.count
  pub above : s < stamp_at n words t at
  pub holds : cell_at n words t at ≡ c
  pub first : Unstored n words t s c at
  pub row : (l : ℕ) → l < row_words → row_at n words t at l ≡ Z l

-- the row of cell c after layer s: still in the table, or stored by the first layer above s that changed it
pub data RowOf (n : ℕ) (words : List ℕ) (t : Trail) (s c : ℕ) (row : ℕ → ℕ) : Type 0 where
  stays : Unstored n words t s c t.count → ((l : ℕ) → l < row_words → view_of words c l ≡ row l) → RowOf n words t s c row
  stored : Stored n words t s c row → RowOf n words t s c row

-- every layer from `low` up to u can be had back; Z s is the table after layer s
abbrev pub History : ℕ → List ℕ → Trail → ℕ → (ℕ → Table) → Type 0
History n words t u Z = (s c : ℕ) → t.low ≤ s → s ≤ u → c < n → RowOf n words t s c (Z s c)

-- the layers up to u, and from there on the table A
unfoldable pub followed : (ℕ → Table) → ℕ → Table → ℕ → Table
followed Z u A s = cond (leb s u) (Z s) A

-- the layer being made has saved the cell, or the trail was too short
pub record Entry (n : ℕ) (words : List ℕ) (t : Trail) (c : ℕ) : Type 0 where
  pub at : ℕ
  pub below : at < t.count
  pub now : stamp_at n words t at ≡ t.stamp
  pub holds : cell_at n words t at ≡ c

abbrev pub Noted : ℕ → List ℕ → Trail → ℕ → Type 0
Noted n words t c = (t.stamp ≤ t.low) ⊎ Entry n words t c

-- After `make_room`: a slot is free; all else as before, but for layers that cannot be had back now.
pub record RoomMade (n : ℕ) (words : List ℕ) (t r : Trail) : Type 0 where
  pub sound : Sound n words r
  pub free : r.count < r.room
  pub room : r.room ≡ t.room
  pub stamp : r.stamp ≡ t.stamp
  pub history : (u : ℕ) (Z : ℕ → Table) → History n words t u Z → History n words r u Z
  pub noted : (c : ℕ) → Noted n words t c → Noted n words r c

-- After `save`: the cell is saved.
pub record Saved (n cell : ℕ) (old : List ℕ) (t : Trail) (new : List ℕ) (r : Trail) : Type 0 where
  pub same : length new ≡ length old
  pub low : Kept 0 (n * arrival_at + row_words) old new
  -- few slots: all of them are in the first stretch
  pub near : t.room * slot_words ≤ n * far_words → Kept (n * arrival_at + row_words) (n * labels_at) old new
  pub labels : Kept (n * labels_at) (n * trail_at) old new
  pub high : KeptFrom (n * trail_at + min (t.room * slot_words) (n * far_words)) old new
  pub sound : Sound n new r
  pub room : r.room ≡ t.room
  pub stamp : r.stamp ≡ t.stamp
  pub history : (u : ℕ) (Z : ℕ → Table) → u < t.stamp → History n old t u Z → History n new r u Z
  pub noted : Noted n new r cell
  pub others : (c : ℕ) → Noted n old t c → Noted n new r c

-- After `restore`: the newest entry is gone, and the layers below its layer can be had back as before.
pub record Restored (n : ℕ) (old : List ℕ) (t : Trail) (new : List ℕ) (r : Trail) : Type 0 where
  pub same : length new ≡ length old
  pub kept : KeptFrom (n * arrival_at) old new
  pub sound : Sound n new r
  pub fewer : t.count ≡ r.count + 1
  pub lowest : r.low ≡ t.low
  pub history : (u : ℕ) (Z : ℕ → Table) → u < stamp_at n old t r.count → History n old t u Z → History n new r u Z

-- After `rewind`: the table is that after the layer.
pub record Rewound (n layer : ℕ) (old : List ℕ) (t : Trail) (new : List ℕ) (r : Trail) : Type 0 where
  pub same : length new ≡ length old
  pub kept : KeptFrom (n * arrival_at) old new
  pub sound : Sound n new r
  pub lowest : r.low ≡ t.low
  pub history : (u : ℕ) (Z : ℕ → Table) → layer ≤ u → History n old t u Z → History n new r layer Z
  pub table : (u : ℕ) (Z : ℕ → Table) → t.low ≤ layer → layer ≤ u → History n old t u Z → (c l : ℕ) → c < n → l < row_words → view_of new c l ≡ Z layer c l
