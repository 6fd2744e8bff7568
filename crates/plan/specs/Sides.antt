-- What the neighbour step hands back: document 02, C-14. Said by the wires of the lent plan alone; the formulas of `neighbours_of` need not be read.
use Rattle.std.specs.Prelude.{ℕ, ◌≤◌, ◌<◌, Bool, ◌≡◌, ◌⊎◌, T}
use Rattle.plan.specs.Plan.{Plan, cells}
use Rattle.plan.specs.Joined.{joins_right, joins_below, joined, neighbours_of}
use Rattle.plan.specs.declared.Neighbours.{Neighbours}

-- b stands in one of the four places
abbrev pub OneOf : Neighbours → ℕ → Type 0
OneOf n b = (b ≡ n.up) ⊎ (b ≡ n.left) ⊎ (b ≡ n.right) ⊎ (b ≡ n.down)

-- What stands in one place, n: the one cell of the plan to which this wire leads; where it leads to none, the number of cells.
pub record OnSide (p : Plan) (wire : ℕ → Bool) (n : ℕ) : Type 0 where
  pub given : n < cells p → T (wire n)
  pub every : (b : ℕ) → b < cells p → T (wire b) → b ≡ n
  pub most : n ≤ cells p

-- The four places for cell c, n: exactly the cells that an uncut wire joins to c, each on its own side.
pub record ExactNeighbours (p : Plan) (c : ℕ) (n : Neighbours) : Type 0 where
  pub every : (b : ℕ) → T (joined p c b) → (b < cells p) × OneOf n b
  pub only : (b : ℕ) → b < cells p → OneOf n b → T (joined p c b)
  pub up : OnSide p (λ b. joins_below p b c) n.up
  pub left : OnSide p (λ b. joins_right p b c) n.left
  pub right : OnSide p (λ b. joins_right p c b) n.right
  pub down : OnSide p (λ b. joins_below p c b) n.down
  -- the same by formulas
  pub is : n ≡ neighbours_of p c
