-- The states wait on where the words of the queue are as they were.
use Prim.Native.Nat.{ℕ, ◌+◌, ◌*◌, ◌<◌}
use mathlib.Core.Path.{◌≡◌, ◌∙◌}
use mathlib.Core.List.{List}
use native.Mathlib.Omega.{arith}
use Rattle.costs.specs.Costs.{row_words}
use Rattle.layout.specs.Layout.{queue_at, places_at, closes_at}
use Rattle.rows.specs.Words.{Kept}
use Rattle.queue.specs.Queue.{slot_of, place_of, Queue, Waits}
use Rattle.queue.proofs.Queue.{queue-room}

module _ {n count : ℕ} {old : List ℕ} (q : Queue n old count) (new : List ℕ) (kept : Kept (n * queue_at) (n * closes_at) old new) where
  slot_kept : (i : ℕ) → i < count → slot_of n new i ≡ slot_of n old i
  slot_kept i h = kept (n * queue_at + i) (omega arith) (omega (arith, queue-room q))

  place_kept : (s : ℕ) → s < n * row_words → place_of n new s ≡ place_of n old s
  place_kept s h = kept (n * places_at + s) (omega arith) (omega arith)

  pub queue-kept : Queue n new count
  queue-kept =
      record {
        states = λ i h. rw (slot_kept i h) (q.states i h);
        places = λ i h. rw (slot_kept i h) (place_kept _ (q.states i h) ∙ q.places i h);
      }

  pub waits_kept : (s : ℕ) → s < n * row_words → Waits n old count s → Waits n new count s
  waits_kept s h w =
      record {
        early = omega (arith, place_kept s h, w.early);
        holds = rw (place_kept s h) (slot_kept _ w.early ∙ w.holds);
      }
