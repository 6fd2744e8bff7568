-- The least delays in the scratch words of a plan of n cells: a row a cell, one word a load, and a word a cell for the spans that close there.
use Rattle.std.specs.Prelude.{ℕ, ◌+◌, ◌*◌, ◌≤◌, ◌<◌, ◌≡◌, ◌⊎◌, List, length, get_or}
use Rattle.costs.specs.Costs.{row_words}
use Rattle.layout.specs.Layout.{closes_at, hint_at}
use Rattle.rows.specs.Rows.{view_of}
use Rattle.queue.specs.Queue.{slot_of, Queue, Waits}

-- later than any delay: none
abbrev pub never : ℕ
never = 65535

-- the latest delay that counts, in half-ticks: twice the longest period
abbrev pub latest : ℕ
latest = 60000

-- the least delay with which a span closes at the cell
abbrev pub closes_of : ℕ → List ℕ → ℕ → ℕ
closes_of n words c = get_or words (n * closes_at + c) 0

-- under more load no later, within the limit
abbrev pub Falling : ℕ → ℕ → List ℕ → Type 0
Falling n limit words = (c l m : ℕ) → c < n → l ≤ m → m ≤ limit → view_of words c m ≤ view_of words c l

-- After `cut_row`: the words before `stop` were later and are the delay; the others are as they were.
pub record Cut (at end delay : ℕ) (old new : List ℕ) : Type 0 where
  pub same : length new ≡ length old
  pub stop : ℕ
  pub from : at ≤ stop
  pub within : stop ≤ end
  pub cut : (k : ℕ) → at ≤ k → k < stop → (delay < get_or old k 0) × (get_or new k 0 ≡ delay)
  pub low : (k : ℕ) → k < at → get_or new k 0 ≡ get_or old k 0
  pub high : (k : ℕ) → stop ≤ k → get_or new k 0 ≡ get_or old k 0
  pub last : stop < end → get_or old stop 0 ≤ delay

-- the word was later and is the delay, or it is as it was and not later
abbrev pub Lesser : ℕ → ℕ → ℕ → Type 0
Lesser delay old new = ((delay < old) × (new ≡ delay)) ⊎ ((old ≤ delay) × (new ≡ old))

-- After `ease`
pub record Eased (n limit cell load delay : ℕ) (old : List ℕ) (count : ℕ) (new : List ℕ) (next : ℕ) : Type 0 where
  pub same : length new ≡ length old
  pub high : (k : ℕ) → n * closes_at ≤ k → get_or new k 0 ≡ get_or old k 0
  pub row : (l : ℕ) → load ≤ l → l ≤ limit → Lesser delay (view_of old cell l) (view_of new cell l)
  pub others : (k : ℕ) → k < n * row_words → (k < cell * row_words + load) ⊎ (cell * row_words + limit < k) → get_or new k 0 ≡ get_or old k 0
  pub falling : Falling n limit new
  pub queue : Queue n new next
  pub waits : (s : ℕ) → s < n * row_words → Waits n old count s → Waits n new next s
  pub here : delay < view_of old cell load → Waits n new next (cell * row_words + load)

-- the words up to those of the closes and the hint
pub record Lines (n : ℕ) (words : List ℕ) : Type 0 where
  pub small : n ≤ 1024
  pub room : n * (hint_at + 1) ≤ length words

pub record ClosesAt (n : ℕ) (words : List ℕ) (close : ℕ) : Type 0 where
  pub cell : ℕ
  pub inside : cell < n
  pub is : closes_of n words cell ≡ close

-- the earliest close after the bound
pub record NextClose (n : ℕ) (words : List ℕ) (bound close : ℕ) : Type 0 where
  pub least : (c : ℕ) → c < n → bound < closes_of n words c → close ≤ closes_of n words c
  pub known : (close ≡ never) ⊎ ((bound < close) × ClosesAt n words close)

-- a lighter state of the same cell is as early
pub record Idle (words : List ℕ) (s : ℕ) : Type 0 where
  pub cell : ℕ
  pub load : ℕ
  pub light : load + 1 < row_words
  pub is : s ≡ cell * row_words + (load + 1)
  pub early : view_of words cell load ≤ get_or words s 0

-- what waits is not earlier than the close, or idle
abbrev pub NoneBefore : ℕ → List ℕ → ℕ → ℕ → Type 0
NoneBefore n words count close = (i : ℕ) → i < count → (close ≤ get_or words (slot_of n words i) 0) ⊎ Idle words (slot_of n words i)
