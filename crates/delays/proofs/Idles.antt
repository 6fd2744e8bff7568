-- Idle states, and one place more that is looked at.
use Prim.Native.Nat.{ℕ, ◌+◌, ◌-◌, ◌*◌, ◌/◌, ◌%◌, ◌≤◌}
use mathlib.Core.Path.{◌≡◌}
use mathlib.Core.Logic.{◌⊎◌, inl, inr}
use mathlib.Core.List.{List}
use native.Mathlib.Omega.{arith}
use borrow.Author.Count.{below_more}
use lib.ListN.{get_or}
use Rattle.costs.specs.Costs.{row_words}
use Rattle.queue.specs.Queue.{slot_of}
use Rattle.delays.specs.Delays.{Idle, NoneBefore}

pub idle-at : (words : List ℕ) (s : ℕ) → (s % row_words ≡ 0 → ⊥) → get_or words (s - 1) 0 ≤ get_or words s 0 → Idle words s
idle-at words s some early =
    let e : s / row_words * row_words + (s % row_words - 1) ≡ s - 1 = omega arith in
    record { cell = s / row_words; load = s % row_words - 1; light = omega arith; is = omega arith; early = rw e early }

pub none_more : (n : ℕ) (words : List ℕ) (count close : ℕ) → NoneBefore n words count close → (close ≤ get_or words (slot_of n words count) 0) ⊎ Idle words (slot_of n words count) → NoneBefore n words (count + 1) close
none_more n words count close = below_more (λ i. (close ≤ get_or words (slot_of n words i) 0) ⊎ Idle words (slot_of n words i)) count

-- the place is looked at
pub none-next : (n : ℕ) (words : List ℕ) (count close : ℕ) → NoneBefore n words count close → (close ≤ get_or words (slot_of n words count) 0) ⊎ ((slot_of n words count % row_words ≡ 0 → ⊥) × (get_or words (slot_of n words count - 1) 0 ≤ get_or words (slot_of n words count) 0)) → NoneBefore n words (count + 1) close
none-next n words count close before (inl late) = none_more n words count close before (inl late)
none-next n words count close before (inr idle) =
    none_more n words count close before (inr (idle-at words (slot_of n words count) idle.0 idle.1))
