-- `trail::save`: without a slot nothing is kept; else the words of the free slot are written, and no others.
use Rattle.std.proofs.Common.{ℕ, ◌+◌, ◌*◌, ◌/◌, ◌%◌, ◌≤◌, ◌<◌, ◌≡◌, refl, ◌∙◌, ◌⊎◌, inl, inr, List, arith, length, get_or, set, length-set, get_or-set_same, get_or-set_other}
use Rattle.layout.specs.Layout.{cell_words, slot_words, slot_cell, slot_low, slot_high}
use Rattle.rows.specs.Words.{Filled}
use Rattle.costs.specs.Costs.{row_words}
use Rattle.rows.proofs.Words.{filled_copied}
use Rattle.trail.specs.declared.Trail.{Trail}
use Rattle.trail.specs.Trail.{place_of, stamp_of, TrailAsks, RoomMade, Saved}
use Rattle.trail.proofs.Slots.{place-in}
use Rattle.trail.proofs.Changes.{saved}
use Rattle.trail.proofs.save.Goals as goal
use Rattle.trail.proofs.save.Goals.{After-place-at}

-- the words after the stores
module _ (n cell : ℕ) (old : List ℕ) (t k : Trail) (stamp : ℕ) (asks : TrailAsks n old t) (cell_in : cell < n) (made : RoomMade n old t k) (stampIs : stamp ≡ t.stamp) (at : ℕ) (atIs : at ≡ place_of n k k.count) (mid : List ℕ) (f : Filled (λ l. get_or old (cell * row_words + l) 0) at row_words old mid) where
  abbrev set1 : List ℕ
  set1 = set mid (at + slot_cell) cell

  abbrev set2 : List ℕ
  set2 = set set1 (at + slot_low) (stamp % 65536)

  abbrev new : List ℕ
  new = set set2 (at + slot_high) (stamp / 65536)

  inside : at + slot_words ≤ length mid
  inside = omega (arith, atIs, place-in made.sound k.count made.free, asks.room, f.same)

  other : (i : ℕ) → (i ≡ at + slot_cell → ⊥) → (i ≡ at + slot_low → ⊥) → (i ≡ at + slot_high → ⊥) → get_or new i 0 ≡ get_or mid i 0
  other i p q r =
      get_or-set_other set2 (at + slot_high) i (stamp / 65536) 0 r ∙ (get_or-set_other set1 (at + slot_low) i (stamp % 65536) 0 q ∙ get_or-set_other mid (at + slot_cell) i cell 0 p)

  cell-word : get_or new (at + slot_cell) 0 ≡ cell
  cell-word =
      get_or-set_other set2 (at + slot_high) (at + slot_cell) (stamp / 65536) 0 (λ e. omega arith)
      ∙ (get_or-set_other set1 (at + slot_low) (at + slot_cell) (stamp % 65536) 0 (λ e. omega arith) ∙ get_or-set_same mid (at + slot_cell) cell 0 (omega (arith, inside)))

  stamp-words : stamp_of new at ≡ stamp
  stamp-words =
      omega (
        arith,
        get_or-set_other set2 (at + slot_high) (at + slot_low) (stamp / 65536) 0 (λ e. omega arith),
        get_or-set_same set1 (at + slot_low) (stamp % 65536) 0 (simp length-set (omega (arith, inside))),
        get_or-set_same set2 (at + slot_high) (stamp / 65536) 0 (simp length-set (omega (arith, inside))),
      )

  outside : (i : ℕ) → (i < at) ⊎ (at + slot_words ≤ i) → get_or new i 0 ≡ get_or old i 0
  outside i (inl h) = other i (λ e. omega arith) (λ e. omega arith) (λ e. omega arith) ∙ f.low i h
  outside i (inr h) = other i (λ e. omega arith) (λ e. omega arith) (λ e. omega arith) ∙ f.high i (omega arith)

  pub save-row : (r : Trail) → r.room ≡ k.room → r.start ≡ k.start → r.count ≡ k.count + 1 → r.low ≡ k.low → r.stamp ≡ stamp → Saved n cell old t new r
  save-row r a b c d e =
      let x =
      saved n cell old k new r made.sound made.free a b c d (omega (arith, made.stamp)) cell_in (simp length-set f.same) (rw (← atIs) outside)
      (rw (← atIs) (λ l h. other (at + l) (λ z. omega arith) (λ z. omega arith) (λ z. omega arith) ∙ f.done l h))
      (rw (← atIs) cell-word) (rw (← atIs) (stamp-words ∙ omega (arith, made.stamp))) in
      record {
        same = x.same;
        low = x.low;
        near = λ few. x.near (omega (arith, made.room));
        labels = x.labels;
        high = λ i h. x.high i (omega (arith, made.room));
        sound = x.sound;
        room = x.room ∙ made.room;
        stamp = omega arith;
        history = λ u Z below past. x.history u Z (omega (arith, made.stamp)) (made.history u Z past);
        noted = x.noted;
        others = λ y h. x.others y (made.noted y h);
      }

-- the free slot's words
room : (c : After-place-at) → c.place-at.result + slot_words ≤ c.args.n * cell_words
room c = omega (arith, c.place-at.ensures, place-in c.make_room-kept.ensures.sound _ c.make_room-kept.ensures.free)

pub copy_within-requires-clause-dest_in_bounds : goal.copy_within-requires-clause-dest_in_bounds
copy_within-requires-clause-dest_in_bounds c =
    omega (arith, room (goal.at.copy_within-requires-clause-dest_in_bounds c).After-place-at, c.requires.0.room)

pub bounds-scratch-at : goal.bounds-scratch-at
bounds-scratch-at c = omega (arith, room (goal.at.bounds-scratch-at c).After-place-at, c.requires.0.room, c.copy_within.ensures.len)

pub bounds-scratch-at-2 : goal.bounds-scratch-at-2
bounds-scratch-at-2 c = simp length-set (omega (arith, room (goal.at.bounds-scratch-at-2 c).After-place-at, c.requires.0.room, c.copy_within.ensures.len))

pub bounds-scratch-at-3 : goal.bounds-scratch-at-3
bounds-scratch-at-3 c = simp length-set (omega (arith, room (goal.at.bounds-scratch-at-3 c).After-place-at, c.requires.0.room, c.copy_within.ensures.len))

pub returns : goal.returns
returns c =
    let copied = c.copy_within.ensures in
    save-row _ _ _ _ _ _ c.requires.0 c.requires.1 c.make_room-kept.ensures refl _ c.place-at.ensures _
    (filled_copied _ _ _ _ _ _ refl copied.len copied.by_index.0 copied.by_index.1 copied.by_index.2) _ refl refl refl refl refl
