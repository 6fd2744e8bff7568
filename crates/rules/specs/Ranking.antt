-- Figures, ranking and the best route: document 01, the end of "Legal routes", and demand 2.
use Rattle.std.specs.Prelude.{ℕ, ◌+◌, ◌*◌, ◌-◌, Bool, true, false, ◌&&◌, ◌||◌, cond, List, [], ◌∷◌, T, eqb, ltb, length}
use Rattle.rules.specs.Rules.{Rules, register_code, is_closing, side_after}
use Rattle.rules.specs.Legal.{Route, legal}

-- visits with a register's code
unfoldable pub code_sevens : Route → ℕ
code_sevens [] = 0
code_sevens (v ∷ vs) = cond (eqb v.code register_code) 1 0 + code_sevens vs

-- "Registers counted exclude both ends."
unfoldable pub registers : Route → ℕ
registers r = code_sevens r - 2

-- "Steps are visits less one."
unfoldable pub steps : Route → ℕ
steps r = length r - 1

-- "Latency is T × (registers + 1)."
unfoldable pub latency : ℕ → Route → ℕ
latency period r = period * (registers r + 1)

-- what the spans of an ending count together, from a visit with `fifos` FIFOs passed
unfoldable pub weigh : Rules → ℕ → Route → ℕ
weigh R fifos [] = 0
weigh R fifos (v ∷ vs) = cond (is_closing v.code) (R.weight fifos) 0 + weigh R (side_after fifos v.code) vs

-- the route as numbers: cell, code, cell, code, ..
unfoldable pub written : Route → List ℕ
written [] = []
written (v ∷ vs) = v.cell ∷ v.code ∷ written vs

-- "the smaller number at the first difference comes first" (lexicographic order; a list that ends comes first)
unfoldable pub precedes : List ℕ → List ℕ → Bool
precedes [] [] = false
precedes [] (y ∷ ys) = true
precedes (x ∷ xs) [] = false
precedes (x ∷ xs) (y ∷ ys) = ltb x y || (eqb x y && precedes xs ys)

-- "the fewest registers, then the fewest steps, then first in written order"; between two clocks the least latency comes first
unfoldable pub key : (Route → ℕ) → Route → List ℕ
key cost r = cost r ∷ steps r ∷ written r

unfoldable pub ranks_before : (Route → ℕ) → Route → Route → Bool
ranks_before cost q r = precedes (key cost q) (key cost r)

-- the answer of demand 2, by what the route costs
pub record IsBest (cost : Route → ℕ) (R : Rules) (r : Route) : Type 0 where
  pub is_legal : T (legal R r)
  pub is_first : (q : Route) → T (legal R q) → T (ranks_before cost q r) → ⊥
