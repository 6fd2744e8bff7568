-- `queue::exchange`: the words after the four stores, read back.
use Prim.Native.Nat.{ℕ, ◌+◌, ◌*◌, ◌<◌, ◌≤◌}
use mathlib.Core.Path.{◌≡◌, sym, ap, ◌∙◌}
use Rattle.std.proofs.lemmas.List.Edits.{swap_is}
use mathlib.Core.Logic.{◌⊎◌, inl, inr}
use mathlib.Core.List.{List}
use native.Mathlib.Omega.{arith}
use lib.ListN.{get_or, set, length-set}
use lib.Seq.{get_or-set_same, get_or-set_other}
use Rattle.layout.specs.Layout.{queue_at, places_at}
use Rattle.plan.proofs.Truth.{equal}
use Rattle.queue.specs.Queue.{slot_of, Space, Slot, Exchanged}
use Rattle.queue.proofs.exchange.Goals as goal

-- the words after each store
abbrev store1 : ℕ → ℕ → ℕ → List ℕ → List ℕ
store1 n i j old = set old (n * queue_at + i) (slot_of n old j)

abbrev store2 : ℕ → ℕ → ℕ → List ℕ → List ℕ
store2 n i j old = set (store1 n i j old) (n * queue_at + j) (slot_of n old i)

abbrev store3 : ℕ → ℕ → ℕ → List ℕ → List ℕ
store3 n i j old = set (store2 n i j old) (n * places_at + slot_of n old j) i

abbrev store4 : ℕ → ℕ → ℕ → List ℕ → List ℕ
store4 n i j old = set (store3 n i j old) (n * places_at + slot_of n old i) j

module _ (n i j : ℕ) (old : List ℕ) (space : Space n old) (first : Slot n old i) (second : Slot n old j) where
  abbrev new : List ℕ
  new = store4 n i j old

  -- the stores of the places leave the queue, and those of the queue all else
  queue-kept : (k : ℕ) → k < n * places_at → get_or new k 0 ≡ get_or (store2 n i j old) k 0
  queue-kept k h =
      get_or-set_other (store3 n i j old) (n * places_at + slot_of n old i) k j 0 (λ e. omega arith)
      ∙ get_or-set_other (store2 n i j old) (n * places_at + slot_of n old j) k i 0 (λ e. omega arith)

  slot_kept : (k : ℕ) → (k ≡ n * queue_at + i → ⊥) → (k ≡ n * queue_at + j → ⊥) → get_or (store2 n i j old) k 0 ≡ get_or old k 0
  slot_kept k p q =
      get_or-set_other (store1 n i j old) (n * queue_at + j) k (slot_of n old i) 0 q
      ∙ get_or-set_other old (n * queue_at + i) k (slot_of n old j) 0 p

  place_kept : (k : ℕ) → n * places_at ≤ k → (k ≡ n * places_at + slot_of n old i → ⊥) → (k ≡ n * places_at + slot_of n old j → ⊥) → get_or new k 0 ≡ get_or old k 0
  place_kept k h p q =
      get_or-set_other (store3 n i j old) (n * places_at + slot_of n old i) k j 0 p
      ∙ get_or-set_other (store2 n i j old) (n * places_at + slot_of n old j) k i 0 q
      ∙ slot_kept k (λ e. omega arith) (λ e. omega arith)

  at_second : slot_of n (store2 n i j old) j ≡ slot_of n old i
  at_second = get_or-set_same (store1 n i j old) (n * queue_at + j) (slot_of n old i) 0 (simp length-set (omega arith))

  at_first : (i ≡ j) ⊎ (i ≡ j → ⊥) → slot_of n (store2 n i j old) i ≡ slot_of n old j
  at_first (inl e) = ap (slot_of n (store2 n i j old)) e ∙ at_second ∙ ap (slot_of n old) e
  at_first (inr e) =
      get_or-set_other (store1 n i j old) (n * queue_at + j) (n * queue_at + i) (slot_of n old i) 0 (λ q. e (omega arith))
      ∙ get_or-set_same old (n * queue_at + i) (slot_of n old j) 0 (omega arith)

  exchanged : Exchanged n i j old new
  exchanged =
      record {
        aside =
            record {
              same = simp length-set;
              low = λ k h. queue-kept k (omega arith) ∙ slot_kept k (λ e. omega arith) (λ e. omega arith);
              high = λ k h. place_kept k (omega arith) (λ e. omega arith) (λ e. omega arith);
            };
        first = queue-kept (n * queue_at + i) (omega arith) ∙ at_first (equal i j);
        second = queue-kept (n * queue_at + j) (omega arith) ∙ at_second;
        slots = λ k h p q. queue-kept (n * queue_at + k) (omega arith) ∙ slot_kept (n * queue_at + k) (λ e. p (omega arith)) (λ e. q (omega arith));
        place-first = λ no.
            get_or-set_other (store3 n i j old) (n * places_at + slot_of n old i) (n * places_at + slot_of n old j) j 0 (λ e. no (omega arith))
            ∙ get_or-set_same (store2 n i j old) (n * places_at + slot_of n old j) i 0 (simp length-set (omega arith));
        place-second = get_or-set_same (store3 n i j old) (n * places_at + slot_of n old i) j 0 (simp length-set (omega arith));
        others = λ s h p q. place_kept (n * places_at + s) (omega arith) (λ e. p (omega arith)) (λ e. q (omega arith));
      }

pub returns : goal.returns
returns c =
    let old = c.args.scratch.now in
    let swapped : c.swap.new.self ≡ store2 c.args.n c.args.i c.args.j old =
    c.swap.ensures.after ∙ sym (swap_is old (c.args.n * queue_at + c.args.i) (c.args.n * queue_at + c.args.j) 0 (omega arith) (omega arith)) in
    rw swapped (exchanged _ _ _ _ c.requires.0 c.requires.1.0 c.requires.1.1)
