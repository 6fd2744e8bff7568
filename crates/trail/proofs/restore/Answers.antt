-- `trail::restore`: the newest entry's row goes back to its cell; the trail's words and the other rows stay.
use Rattle.std.proofs.Common.{ℕ, ◌+◌, ◌*◌, ◌-◌, ◌≤◌, ◌<◌, ◌≡◌, refl, ap, ◌∙◌, List, arith, get_or}
use Rattle.layout.specs.Layout.{cell_words, slot_words, slot_cell}
use Rattle.rows.specs.Words.{Filled}
use Rattle.rows.proofs.Words.{filled_copied}
use Rattle.rows.proofs.Rows.{row-elsewhere}
use Rattle.costs.specs.Costs.{row_words}
use Rattle.trail.specs.declared.Trail.{Trail}
use Rattle.trail.specs.Trail.{place_of, cell_at, TrailAsks, Restored}
use Rattle.trail.proofs.Slots.{place-in}
use Rattle.trail.proofs.Changes.{restored}
use Rattle.trail.proofs.restore.Goals as goal
use Rattle.trail.proofs.restore.Goals.{After-place-at}

module _ (n : ℕ) (old : List ℕ) (t : Trail) (new : List ℕ) (r : Trail) (asks : TrailAsks n old t) (at cell : ℕ) where
  pub put_back : r.room ≡ t.room → r.start ≡ t.start → t.count ≡ r.count + 1 → r.low ≡ t.low → r.stamp ≡ t.stamp → at ≡ place_of n t r.count → cell ≡ cell_at n old t r.count → Filled (λ k. get_or old (at + k) 0) (cell * row_words) row_words old new → Restored n old t new r
  put_back a b c d e atIs cellIs f =
      restored n old t new r asks.sound a b c d e f.same (λ k h. f.high k (omega (arith, in_plan)))
      (λ l k. rw (← cellIs) (f.done l k ∙ ap (λ (x : ℕ). get_or old (x + l) 0) atIs))
      (λ x l h k q. row-elsewhere f x l k (λ z. q (z ∙ cellIs)))
    where
      in_plan : cell < n
      in_plan = omega (arith, asks.sound.cells r.count (omega arith))

-- the entry's place is in the words
inside : (c : After-place-at) → c.place-at.result + slot_words ≤ c.args.n * cell_words
inside c =
    omega (arith, c.place-at.ensures, place-in c.requires.0.sound (c.args.trail.count - 1) (omega (arith, c.requires.0.sound.fits)))

pub overflow_add-cell : goal.overflow_add-cell
overflow_add-cell c = omega (arith, inside c, c.requires.0.few)

pub offset_bounds-scratch-at : goal.offset_bounds-scratch-at
offset_bounds-scratch-at c = omega (arith, inside c, c.requires.0.few)

pub bounds-scratch-at : goal.bounds-scratch-at
bounds-scratch-at c = omega (arith, inside (goal.at.bounds-scratch-at c).After-place-at, c.requires.0.room)

pub overflow_add-at : goal.overflow_add-at
overflow_add-at c = omega (arith, inside (goal.at.overflow_add-at c).After-place-at, c.requires.0.few)

pub copy_within-requires-clause-in_bounds : goal.copy_within-requires-clause-in_bounds
copy_within-requires-clause-in_bounds c =
    omega (arith, inside (goal.at.copy_within-requires-clause-in_bounds c).After-place-at, c.requires.0.room)

pub returns : goal.returns
returns c =
    let copied = c.copy_within.ensures in
    put_back _ _ _ _ _ c.requires.0 _ _ refl refl (omega arith) refl refl c.place-at.ensures
    (ap (λ (x : ℕ). get_or c.args.scratch.now (x + slot_cell) 0) c.place-at.ensures)
    (filled_copied _ _ _ _ _ _ refl copied.len copied.by_index.0 copied.by_index.1 copied.by_index.2)
