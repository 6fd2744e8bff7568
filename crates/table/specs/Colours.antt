-- The active cells have one colour; so no wire joins two of them, and a layer changes none of their rows.
use Rattle.std.specs.Prelude.{ℕ, ◌<◌, ◌≡◌, List, T}
use Rattle.rules.specs.Rules.{Rules}
use Rattle.budget.specs.Colours.{InStep}
use Rattle.lists.specs.Lists.{flag_of}

-- an active cell to which a wire leads from c
pub record ActiveNeighbour (R : Rules) (n : ℕ) (words : List ℕ) (c : ℕ) : Type 0 where
  pub cell : ℕ
  pub inside : cell < n
  pub flagged : flag_of n words cell ≡ 1
  pub link : T (R.linked c cell)

-- the active cells have the colour of the cells that are s steps from the source
pub record Coloured (R : Rules) (n s : ℕ) (words : List ℕ) : Type 0 where
  pub in_step : (c : ℕ) → c < n → flag_of n words c ≡ 1 → InStep R s c

-- no wire joins two active cells
abbrev pub Unlinked : Rules → ℕ → List ℕ → Type 0
Unlinked R n words = (c d : ℕ) → c < n → d < n → flag_of n words c ≡ 1 → flag_of n words d ≡ 1 → T (R.linked c d) → ⊥
