-- The delay-budget table. For a cell and a load it holds one more than the largest delay with which a state (cell, load, delay), after the gate, lies in a set of states; 0 for none.
-- One layer takes the table of a set X to the table of `Step X`: in X already, or one visit leads into X, or one visit closes the span at a seed.
use Rattle.std.specs.Prelude.{ℕ, zero, suc, ◌+◌, ◌-◌, ◌≤◌, ◌<◌, max, Bool, ◌&&◌, cond, T, leb}
use Rattle.timing.specs.Formulas.{wire_delay, wire_load, gate_delay, buffer_driver, buffer_load}
use Rattle.rules.specs.Rules.{Rules, no_gate, register_code, fifo_code, is_closing}
use Rattle.rules.specs.Legal.{may_stand}
use Rattle.lists.specs.Lists.{sum_below}

abbrev pub Table : Type 0
Table = ℕ → ℕ → ℕ

-- the sum of all budgets
unfoldable pub budget_sum : Rules → Table → ℕ
budget_sum R A = sum_below R.cell_count (λ c. sum_below (suc R.limit) (A c))

-- a set of states: cell, load, delay
abbrev pub States : Type 1
States = ℕ → ℕ → ℕ → Type 0

pub record Represents (A : Table) (X : States) : Type 0 where
  pub sound : (c l d : ℕ) → d < A c l → X c l d
  pub complete : (c l d : ℕ) → X c l d → d < A c l

-- the same of one cell's row
pub record RepresentsRow (A : Table) (X : States) (c : ℕ) : Type 0 where
  pub sound : (l d : ℕ) → d < A c l → X c l d
  pub complete : (l d : ℕ) → X c l d → d < A c l

-- load and delay on arrival at n, from a state (c, l, d)
unfoldable pub load_at : Rules → ℕ → ℕ → ℕ → ℕ
load_at R c n l = l + wire_load (R.wire c n)

unfoldable pub delay_at : Rules → ℕ → ℕ → ℕ → ℕ → ℕ
delay_at R c n l d = d + wire_delay (R.wire c n) l

-- the delay that the buffer with this code adds under a load, and its own input load
unfoldable pub buffer_cost : Rules → ℕ → ℕ → ℕ
buffer_cost R code l = gate_delay (buffer_driver (R.buffer code)) l

unfoldable pub load_of : Rules → ℕ → ℕ
load_of R code = buffer_load (R.buffer code)

-- the delay that a gate with this code adds where the span closes at n
unfoldable pub close_cost : Rules → ℕ → ℕ → ℕ → ℕ
close_cost R n code l = gate_delay (R.closer n code) l

-- the cells where a span may close, by the code of the gate
abbrev pub Seeds : Type 0
Seeds = ℕ → ℕ → Bool

-- What one more visit gives: seeds are the cells where the span may close now, `bound` is what the closing delay stays below.
pub data Step (R : Rules) (seed : Seeds) (bound : ℕ) (X : States) : ℕ → ℕ → ℕ → Type 0 where
  -- in X already
  stays : {c l d : ℕ} → X c l d → Step R seed bound X c l d
  -- a visit without a gate
  passes : {c l d : ℕ} (n : ℕ) → T (R.linked c n) → T (may_stand R n no_gate) → load_at R c n l ≤ R.limit → X n (load_at R c n l) (delay_at R c n l d) → Step R seed bound X c l d
  -- a visit with the buffer `suc i`
  drives : {c l d : ℕ} (n i : ℕ) → i < 6 → T (R.linked c n) → T (may_stand R n (suc i)) → load_at R c n l ≤ R.limit → load_of R (suc i) ≤ R.limit → X n (load_of R (suc i)) (delay_at R c n l d + buffer_cost R (suc i) (load_at R c n l)) → Step R seed bound X c l d
  -- a visit that closes the span
  closes : {c l d : ℕ} (n code : ℕ) → T (is_closing code) → T (R.linked c n) → T (seed code n) → load_at R c n l ≤ R.limit → delay_at R c n l d + close_cost R n code (load_at R c n l) < bound → Step R seed bound X c l d

-- x where the test passes, else 0
unfoldable pub only : Bool → ℕ → ℕ
only test x = cond test x 0

-- the largest of f 0, .., f (n - 1); 0 for none
unfoldable pub max_below : ℕ → (ℕ → ℕ) → ℕ
max_below zero f = 0
max_below (suc n) f = max (max_below n f) (f n)

-- the budget on arrival at n with load l, if buffer `code` is put there
unfoldable pub via_buffer : Rules → Table → ℕ → ℕ → ℕ → ℕ
via_buffer R A n l code =
    only (may_stand R n code && leb (load_of R code) R.limit) (A n (load_of R code) - buffer_cost R code l)

-- the budget on arrival at n with load l, if the span closes there with this code
unfoldable pub via_close : Rules → Seeds → ℕ → ℕ → ℕ → ℕ → ℕ
via_close R seed bound n l code = only (seed code n) (bound - close_cost R n code l)

-- the budget on arrival at n with load l, before the gate
unfoldable pub arrival : Rules → Seeds → ℕ → Table → Table
arrival R seed bound A n l =
    only (leb l R.limit)
    (max (only (may_stand R n no_gate) (A n l))
    (max (max_below 6 (λ i. via_buffer R A n l (suc i)))
    (max (via_close R seed bound n l register_code) (via_close R seed bound n l fifo_code))))

-- what cell n gives to its neighbour c at load l, out of the arrival table B
unfoldable pub given : Rules → Table → ℕ → ℕ → ℕ → ℕ
given R B n c l = only (R.linked c n) (B n (load_at R c n l) - wire_delay (R.wire c n) l)

unfoldable pub layer : Rules → Seeds → ℕ → Table → Table
layer R seed bound A c l = max (A c l) (max_below R.cell_count (λ n. given R (arrival R seed bound A) n c l))
