-- Which cells an uncut wire joins, and in which direction: document 01, "Neighbours share a side" and the marks 4 and 8.
use Rattle.std.specs.Prelude.{ℕ, ◌+◌, ◌-◌, Bool, ◌&&◌, ◌||◌, not, cond, eqb, leb, ltb}
use Rattle.plan.specs.Plan.{Plan, cells, row, column, marks_at, cut_right, cut_below}
use Rattle.plan.specs.declared.Neighbours.{Neighbours}

-- b is the right neighbour of a, by an uncut wire
unfoldable pub joins_right : Plan → ℕ → ℕ → Bool
joins_right p a b = eqb (row p b) (row p a) && eqb (column p b) (column p a + 1) && not (cut_right (marks_at p a))

-- b is the neighbour below a, by an uncut wire
unfoldable pub joins_below : Plan → ℕ → ℕ → Bool
joins_below p a b = eqb (column p b) (column p a) && eqb (row p b) (row p a + 1) && not (cut_below (marks_at p a))

unfoldable pub both_in : Plan → ℕ → ℕ → Bool
both_in p a b = ltb a (cells p) && ltb b (cells p)

unfoldable pub horizontal : Plan → ℕ → ℕ → Bool
horizontal p a b = both_in p a b && (joins_right p a b || joins_right p b a)

unfoldable pub vertical : Plan → ℕ → ℕ → Bool
vertical p a b = both_in p a b && (joins_below p a b || joins_below p b a)

-- an uncut wire joins a and b
unfoldable pub joined : Plan → ℕ → ℕ → Bool
joined p a b = horizontal p a b || vertical p a b

-- What the neighbour step gives, by formulas: the cell joined to c on each side, or the number of cells where there is none. What it means stands in specs/Sides; that it is so, and that the sides ascend, is proved in proofs/Sides.
unfoldable pub neighbours_of : Plan → ℕ → Neighbours
neighbours_of p c =
    record {
      up = cond (leb p.width c && not (cut_below (marks_at p (c - p.width)))) (c - p.width) (cells p);
      left = cond (ltb 0 (column p c) && not (cut_right (marks_at p (c - 1)))) (c - 1) (cells p);
      right = cond (ltb (column p c + 1) p.width && not (cut_right (marks_at p c))) (c + 1) (cells p);
      down = cond (ltb (c + p.width) (cells p) && not (cut_below (marks_at p c))) (c + p.width) (cells p);
    }
