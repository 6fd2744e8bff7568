-- What the search of a side leaves: on the sink's side the least weight and steps, with the labels, or that there is no route; on the side after a FIFO the labels of its registers and of the FIFOs that lead there.
use Rattle.std.specs.Prelude.{ℕ, ◌+◌, ◌*◌, ◌≤◌, ◌<◌, ◌≡◌, List, T, length, get_or}
use Rattle.rules.specs.Rules.{Rules, fifo_code}
use Rattle.budget.specs.Done.{After, Covers}
use Rattle.layout.specs.Layout.{arrival_at, labels_at, exits_at, aside_at, label_words, trail_at}
use Rattle.labels.specs.Labels.{known_of, weight_of, steps_of, labels_for, Ordered}
use Rattle.search.specs.Turn.{Beyond}
pub use Rattle.search.specs.Turn.{SearchDone}
use Rattle.search.specs.declared.turns.Reached.{Reached}

-- the table is zero, and so are the labels, lists and flags
pub record Blank (n : ℕ) (words : List ℕ) : Type 0 where
  pub table : (i : ℕ) → i < n * arrival_at → get_or words i 0 ≡ 0
  pub labels : (i : ℕ) → n * labels_at ≤ i → i < n * trail_at → get_or words i 0 ≡ 0

-- Before the search of side f: so many FIFOs lead on from it, and their labels are complete. After a FIFO there is none, and the words for the labels of those that lead here are zero.
pub record SideAsks (R : Rules) (n f exits : ℕ) (words : List ℕ) : Type 0 where
  pub within : f ≤ R.fifos
  pub covers : (w t : ℕ) → Covers (After R f fifo_code) w t (labels_for n exits words fifo_code)
  pub ordered : 0 < exits → Ordered n (n * exits_at) words exits
  pub exits_in : 0 < exits → n * aside_at ≤ length words
  pub alone : 0 < f → exits ≡ 0
  pub watch_in : 0 < f → n * aside_at ≤ length words
  pub unwatched : 0 < f → (i : ℕ) → n * exits_at ≤ i → i < n * aside_at → get_or words i 0 ≡ 0

-- the source's label, on its own side
pub record Sourced (n side fifos source : ℕ) (old new : List ℕ) (count : ℕ) : Type 0 where
  pub same : length new ≡ length old
  pub ordered : Ordered n (n * labels_at) new count
  pub only : (c : ℕ) → T (known_of n (n * labels_at) new c) → (side ≡ fifos) × ((c ≡ source) × ((weight_of n (n * labels_at) new c ≡ 0) × (steps_of n (n * labels_at) new c ≡ 0)))
  pub has : side ≡ fifos → T (known_of n (n * labels_at) new source)
  pub low : (k : ℕ) → k < n * labels_at → get_or new k 0 ≡ get_or old k 0
  pub high : (k : ℕ) → n * labels_at + n * label_words ≤ k → get_or new k 0 ≡ get_or old k 0

pub record SearchEffect (R : Rules) (n side exits : ℕ) (old new : List ℕ) (r : Reached) : Type 0 where
  pub same : length new ≡ length old
  pub beyond : Beyond n side old new
  pub done : SearchDone R n side exits new r
