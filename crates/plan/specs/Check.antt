-- Refusals 1, 2 and 3 of document 01, each exactly in its case, in that order.
use Rattle.std.specs.Prelude.{ℕ, zero, suc, ◌+◌, ◌/◌, ◌%◌, Bool, false, ◌&&◌, ◌||◌, not, cond, eqb, ltb, length, Ok, Err, Result}
use Rattle.plan.specs.Plan.{Plan, side_max, cells, marks_at, cut_right, cut_below}
use Rattle.plan.specs.declared.PlanFault.{PlanFault}

-- 1: width or height 0 or above 32
unfoldable pub grid_fault : ℕ → ℕ → Bool
grid_fault w h = eqb w 0 || ltb side_max w || eqb h 0 || ltb side_max h

-- 2: bytes not width × height
unfoldable pub length_fault : Plan → Bool
length_fault p = not (eqb (length p.marks) (cells p))

-- marks that may not stand on cell c of a plan w wide and h high (document 01: stray): above 15, a 4 in the last column, an 8 in the last row
unfoldable pub invalid_mark : ℕ → ℕ → ℕ → ℕ → Bool
invalid_mark w h c m = ltb 15 m || (eqb (c % w + 1) w && cut_right m) || (eqb (c / w + 1) h && cut_below m)

abbrev pub invalid_at : Plan → ℕ → Bool
invalid_at p c = invalid_mark p.width p.height c (marks_at p c)

-- some cell below n has invalid marks
unfoldable pub invalid_below : Plan → ℕ → Bool
invalid_below p zero = false
invalid_below p (suc n) = invalid_below p n || invalid_at p n

-- 3: an invalid mark in the plan
unfoldable pub mark_fault : Plan → Bool
mark_fault p = invalid_below p (cells p)

-- the first fault of a plan, if it has one
unfoldable pub checked_plan : Plan → Result Unit PlanFault
checked_plan p =
    cond (grid_fault p.width p.height) (Err PlanFault.Grid)
    (cond (length_fault p) (Err PlanFault.Length) (cond (mark_fault p) (Err PlanFault.Mark) (Ok tt)))
