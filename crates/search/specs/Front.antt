-- Where the search of a side stands: weight k after the current span and s steps to go, and what the scratch words hold. The sink's side is 0; f FIFOs have been passed on side f.
use Rattle.std.specs.Prelude.{ℕ, suc, ◌+◌, ◌*◌, ◌≤◌, ◌<◌, ◌≡◌, List, T, get_or}
use Rattle.rules.specs.Rules.{Rules, register_code, fifo_code}
use Rattle.budget.specs.Done.{NotAfter, After, Covers}
use Rattle.budget.specs.Search.{Searching}
use Rattle.layout.specs.Layout.{arrival_at, labels_at, exits_at, order_in}
use Rattle.lists.specs.Lists.{sum_below, ListedAt}
use Rattle.table.specs.Problem.{budget_of, seed_of}
use Rattle.table.specs.Layer.{Active}
use Rattle.table.specs.Colours.{Coloured}
use Rattle.labels.specs.Labels.{known_of, weight_of, steps_of, labels_of, labels_for, order_of, LabelBy, LabelAfter, Ordered}

-- the sum of the budget table; every layer that changes it raises it
unfoldable pub total : ℕ → List ℕ → ℕ
total n words = sum_below (n * arrival_at) (λ i. get_or words i 0)

-- the weight and the steps of the label at place i of a set's order are not before (k, s)
abbrev pub HeadFrom : ℕ → ℕ → List ℕ → ℕ → ℕ → ℕ → Type 0
HeadFrom n set words i k s = NotAfter k s (weight_of n set words (order_of n set words i)) (steps_of n set words (order_of n set words i))

-- The labels of a set, for gates of one code: up to `at` in the order they are the seeds of that code; from there up to `count` they wait.
pub record Queued (n set code : ℕ) (words : List ℕ) (k s at count : ℕ) : Type 0 where
  pub ordered : Ordered n set words count
  pub at_count : at ≤ count
  pub order_seed : (i : ℕ) → i < at → T (seed_of n words code (order_of n set words i))
  pub seeds : (c : ℕ) → c < n → T (seed_of n words code c) → ListedAt n words (set + n * order_in) at c
  pub past : (i : ℕ) → i < at → LabelBy n set words k s (order_of n set words i)
  pub soon : at < count → HeadFrom n set words at k s

-- the queue of the FIFOs before which the spans of this side close; where there are none, no cell is a seed for a FIFO
pub record Exits (n : ℕ) (words : List ℕ) (k s exit exits : ℕ) : Type 0 where
  pub within : exit ≤ exits
  pub queue : 0 < exits → Queued n (n * exits_at) fifo_code words k s exit exits
  pub none : exits ≡ 0 → (c : ℕ) → c < n → T (seed_of n words fifo_code c) → ⊥

-- On the side after a FIFO, the labels of the FIFOs that lead here from side g are made, too; they are complete so far.
pub record Watching (R : Rules) (n g : ℕ) (words : List ℕ) (k s watched : ℕ) : Type 0 where
  pub covers : Covers (After R g fifo_code) (R.weight (suc g) + k) s (labels_of n (n * exits_at) words)
  pub ordered : Ordered n (n * exits_at) words watched
  pub last : (c : ℕ) → T (known_of n (n * exits_at) words c) → LabelBy n (n * exits_at) words (R.weight (suc g) + k) s c

-- all but the labels of the FIFOs that lead here
pub record Standing (R : Rules) (n f exits : ℕ) (words : List ℕ) (k s active at count exit : ℕ) : Type 0 where
  pub searching : Searching R f k s (budget_of n words) (labels_for n exits words)
  pub list : Active R n (R.bound 0 f) words active
  pub near : Queued n (n * labels_at) register_code words k s at count
  pub far : Exits n words k s exit exits
  -- after a FIFO there is no other
  pub alone : 0 < f → exits ≡ 0
  -- no label is after the current span's weight with k, and s steps
  pub found : (c : ℕ) → T (known_of n (n * labels_at) words c) → LabelBy n (n * labels_at) words (R.weight f + k) s c
  -- the active cells are s steps from the source
  pub coloured : Coloured R n s words
  -- on the sink's side, its start state is not in the table yet
  pub unreached : f ≡ 0 → budget_of n words R.sink R.start.load ≤ R.start.delay

pub record Waiting (R : Rules) (n f exits : ℕ) (words : List ℕ) (k s active at count exit watched : ℕ) : Type 0 where
  pub standing : Standing R n f exits words k s active at count exit
  pub watch : (g : ℕ) → f ≡ suc g → Watching R n g words k s watched

-- and every label that waits is after (k, s)
pub record Front (R : Rules) (n f exits : ℕ) (words : List ℕ) (k s active at count exit watched : ℕ) : Type 0 where
  pub waiting : Waiting R n f exits words k s active at count exit watched
  pub late : at < count → LabelAfter n (n * labels_at) words k s (order_of n (n * labels_at) words at)
  pub late_exit : exit < exits → LabelAfter n (n * exits_at) words k s (order_of n (n * exits_at) words exit)
