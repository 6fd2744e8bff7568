-- What can still be done from a state: a legal ending of little enough weight and few enough steps. Labels and seeds of the search.
-- A span lies on one side of the FIFOs: `f` is how many have been passed. The weight of an ending is the sum over its spans.
use Rattle.std.specs.Prelude.{ℕ, ◌+◌, ◌≤◌, ◌<◌, ◌≡◌, Bool, ◌&&◌, ◌||◌, ◌⊎◌, T, eqb, leb, ltb, length}
use Rattle.rules.specs.Rules.{Stage, Rules, register_code, fifo_code, is_closing, side_after}
use Rattle.rules.specs.Legal.{Route, may_stand, legal_from}
use Rattle.rules.specs.Ranking.{weigh}
use Rattle.budget.specs.Table.{Seeds}

abbrev pub stage : ℕ → ℕ → Stage
stage l d = record { load = l; delay = d }

-- (a, b) is not after (k, s), weight first, then steps
abbrev pub NotAfter : ℕ → ℕ → ℕ → ℕ → Type 0
NotAfter a b k s = (a < k) ⊎ ((a ≡ k) × (b ≤ s))

-- the state (c, l, d), after its gate and f FIFOs, has a legal ending within weight w and s steps
pub record Done (R : Rules) (f w s c l d : ℕ) : Type 0 where
  pub route : Route
  pub ending : T (legal_from R c 0 f (stage l d) route)
  pub within : NotAfter (weigh R f route) (length route) w s

-- the same, within weight k after the current span
abbrev pub Open : Rules → ℕ → ℕ → ℕ → ℕ → ℕ → ℕ → Type 0
Open R f k s c l d = Done R f (R.weight f + k) s c l d

-- weight w and s steps are the least that a state needs
pub record Least (R : Rules) (f w s c l d : ℕ) : Type 0 where
  pub enough : Done R f w s c l d
  pub least : (k t : ℕ) → Done R f k t c l d → NotAfter w s k t

-- where a span of side f may close with this code, within weight w and s steps after the close
pub data After (R : Rules) (f code w s n : ℕ) : Type 0 where
  at_source : code ≡ register_code → f ≡ R.fifos → n ≡ R.source → After R f code w s n
  at_gate : T (is_closing code) → T (may_stand R n code) → Done R (side_after f code) w s n (R.fresh code).load (R.fresh code).delay → After R f code w s n

-- What the search knows of the cells, for gates of one code: whether a cell is labelled, and the least weight and steps after a close there.
pub record Labels : Type 0 where
  pub known : ℕ → Bool
  pub weight : ℕ → ℕ
  pub steps : ℕ → ℕ

-- Q w s n: cell n has what is asked within weight w and s steps.
-- The labels are the least, and complete within w and s.
pub record Covers (Q : ℕ → ℕ → ℕ → Type 0) (w s : ℕ) (m : Labels) : Type 0 where
  pub enough : (n : ℕ) → T (m.known n) → Q (m.weight n) (m.steps n) n
  pub least : (n : ℕ) → T (m.known n) → (k t : ℕ) → Q k t n → NotAfter (m.weight n) (m.steps n) k t
  pub complete : (n : ℕ) → Q w s n → T (m.known n)

-- the labels of side f, by code: those of registers, with the source, are complete within weight k after the current span and s steps; those of FIFOs for good
pub record Labelled (R : Rules) (f k s : ℕ) (m : ℕ → Labels) : Type 0 where
  pub registers : Covers (After R f register_code) (R.weight f + k) s (m register_code)
  pub fifos : (w t : ℕ) → Covers (After R f fifo_code) w t (m fifo_code)

-- the seeds by the labels: those that are not after (k, s)
unfoldable pub seed_at : (ℕ → Labels) → ℕ → ℕ → Seeds
seed_at m k s code n =
    (m code).known n && (ltb ((m code).weight n) k || (eqb ((m code).weight n) k && leb ((m code).steps n) s))

-- an uncut wire leads only to cells of the plan; codes are at most 8; every span of a side has the same bound; a span has a weight
pub record Lawful (R : Rules) : Type 0 where
  pub in_plan : (c n : ℕ) → T (R.linked c n) → n < R.cell_count
  pub codes : (c code : ℕ) → T (may_stand R c code) → code ≤ fifo_code
  pub steady : (span f : ℕ) → R.bound span f ≡ R.bound 0 f
  pub heavy : (f : ℕ) → 0 < R.weight f
