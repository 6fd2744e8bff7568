-- The labels of the search held as lists, one place a cell.
use Rattle.std.specs.Prelude.{ℕ, zero, suc, max, Bool, true, false, not, ◌&&◌, ◌||◌, cond, List, eqb, leb, ltb, get_or}
use Rattle.rules.specs.Rules.{Rules, register_code, fifo_code}
use Rattle.rules.specs.Legal.{may_stand}
use Rattle.budget.specs.Table.{Table}
use Rattle.budget.specs.Done.{Labels, seed_at}
use Rattle.best.specs.Rows.{list_from}

-- the least weight and steps after a close on a cell, where they are known; also the next place of the search
pub data Label : Type 0 where
  unknown : Label
  known : ℕ → ℕ → Label

unfoldable pub is_known : Label → Bool
is_known unknown = false
is_known (known w t) = true

unfoldable pub label_weight : Label → ℕ
label_weight unknown = 0
label_weight (known w t) = w

unfoldable pub label_steps : Label → ℕ
label_steps unknown = 0
label_steps (known w t) = t

unfoldable pub labels_listed : List Label → Labels
labels_listed list =
    record {
      known = λ c. is_known (get_or list c unknown);
      weight = λ c. label_weight (get_or list c unknown);
      steps = λ c. label_steps (get_or list c unknown);
    }

-- of registers, and of FIFOs
unfoldable pub by_code : List Label → List Label → ℕ → Labels
by_code registers exits code = cond (eqb code register_code) (labels_listed registers) (labels_listed exits)

-- a place for each cell of the plan, and for the source wherever it is
unfoldable pub places : Rules → ℕ
places R = max R.cell_count (suc R.source)

-- (w, s) at a cell where the state after a gate with this code has come into the table; a label stays as it is
unfoldable pub relabel_at : Rules → ℕ → ℕ → ℕ → Table → ℕ → Label → Label
relabel_at R code w s A c unknown =
    cond (may_stand R c code && ltb (R.fresh code).delay (A c (R.fresh code).load)) (known w s) unknown
relabel_at R code w s A c (known v t) = known v t

unfoldable pub relabel : Rules → ℕ → ℕ → ℕ → Table → List Label → List Label
relabel R code w s A list = list_from (λ c. relabel_at R code w s A c (get_or list c unknown)) 0 (places R)

-- the earlier of two places of the search: by weight, then by steps
unfoldable pub earlier : Label → Label → Label
earlier unknown b = b
earlier (known v t) unknown = known v t
earlier (known v t) (known w s) = cond (ltb v w || (eqb v w && leb t s)) (known v t) (known w s)

-- the label of a cell that is no seed at (k, s) yet
unfoldable pub waiting : (ℕ → Labels) → ℕ → ℕ → ℕ → ℕ → Label
waiting m k s code c =
    cond ((m code).known c && not (seed_at m k s code c)) (known ((m code).weight c) ((m code).steps c)) unknown

-- the first of the labels of n cells that wait
unfoldable pub next_label : ℕ → (ℕ → Labels) → ℕ → ℕ → Label
next_label zero m k s = unknown
next_label (suc n) m k s =
    earlier (earlier (waiting m k s register_code n) (waiting m k s fifo_code n)) (next_label n m k s)
