-- The states that wait, in the scratch words of a plan of n cells. Each knows its place, so that no state waits twice.
use Rattle.std.specs.Prelude.{ℕ, ◌+◌, ◌*◌, ◌-◌, ◌≤◌, ◌<◌, ◌≡◌, List, length, get_or}
use Rattle.costs.specs.Costs.{row_words}
use Rattle.layout.specs.Layout.{queue_at, places_at, closes_at}

-- the words that the rows and the queue take
pub record Space (n : ℕ) (words : List ℕ) : Type 0 where
  pub small : n ≤ 1024
  pub room : n * closes_at ≤ length words

-- the state at place i
abbrev pub slot_of : ℕ → List ℕ → ℕ → ℕ
slot_of n words i = get_or words (n * queue_at + i) 0

-- the place of a state, where it waits
abbrev pub place_of : ℕ → List ℕ → ℕ → ℕ
place_of n words s = get_or words (n * places_at + s) 0

-- the delay of the state at place i
abbrev pub delay_at : ℕ → List ℕ → ℕ → ℕ
delay_at n words i = get_or words (slot_of n words i) 0

-- a place that holds a state
pub record Slot (n : ℕ) (words : List ℕ) (i : ℕ) : Type 0 where
  pub place : i < n * row_words
  pub state : slot_of n words i < n * row_words

-- The first `count` places hold states, and each of these knows its place.
pub record Queue (n : ℕ) (words : List ℕ) (count : ℕ) : Type 0 where
  pub states : (i : ℕ) → i < count → slot_of n words i < n * row_words
  pub places : (i : ℕ) → i < count → place_of n words (slot_of n words i) ≡ i

-- the state waits
pub record Waits (n : ℕ) (words : List ℕ) (count s : ℕ) : Type 0 where
  pub early : place_of n words s < count
  pub holds : slot_of n words (place_of n words s) ≡ s

-- all words but those of the queue are as they were
pub record Aside (n : ℕ) (old new : List ℕ) : Type 0 where
  pub same : length new ≡ length old
  pub low : (k : ℕ) → k < n * queue_at → get_or new k 0 ≡ get_or old k 0
  pub high : (k : ℕ) → n * closes_at ≤ k → get_or new k 0 ≡ get_or old k 0

-- After `exchange`
pub record Exchanged (n i j : ℕ) (old new : List ℕ) : Type 0 where
  pub aside : Aside n old new
  pub first : slot_of n new i ≡ slot_of n old j
  pub second : slot_of n new j ≡ slot_of n old i
  pub slots : (k : ℕ) → k < n * row_words → (k ≡ i → ⊥) → (k ≡ j → ⊥) → slot_of n new k ≡ slot_of n old k
  pub place-first : (slot_of n old i ≡ slot_of n old j → ⊥) → place_of n new (slot_of n old j) ≡ i
  pub place-second : place_of n new (slot_of n old i) ≡ j
  pub others : (s : ℕ) → s < n * row_words → (s ≡ slot_of n old i → ⊥) → (s ≡ slot_of n old j → ⊥) → place_of n new s ≡ place_of n old s

-- The same states wait, maybe in another order.
pub record Requeued (n count : ℕ) (old new : List ℕ) : Type 0 where
  pub aside : Aside n old new
  pub queue : Queue n new count
  pub waits : (s : ℕ) → s < n * row_words → Waits n old count s → Waits n new count s

-- After `join`: the state waits, and all that did.
pub record Joined (n count state : ℕ) (old new : List ℕ) (next : ℕ) : Type 0 where
  pub aside : Aside n old new
  pub queue : Queue n new next
  pub here : Waits n new next state
  pub waits : (s : ℕ) → s < n * row_words → Waits n old count s → Waits n new next s
  pub most : next ≤ count + 1

-- After `leave`: all that waited still wait, but the one that left.
pub record Left (n count : ℕ) (old new : List ℕ) (state : ℕ) : Type 0 where
  pub aside : Aside n old new
  pub inside : state < n * row_words
  pub queue : Queue n new (count - 1)
  pub waits : (s : ℕ) → s < n * row_words → (s ≡ state → ⊥) → Waits n old count s → Waits n new (count - 1) s
