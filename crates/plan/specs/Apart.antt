-- How far apart two cells are by rows and columns. A step over a wire changes it by at most 1.
use Rattle.std.specs.Prelude.{ℕ, ◌+◌, ◌-◌, ◌/◌, ◌%◌}
use Rattle.plan.specs.Plan.{Plan}

-- the difference of two numbers, whichever is larger
unfoldable pub gap : ℕ → ℕ → ℕ
gap a b = (a - b) + (b - a)

-- in a plan of this width
unfoldable pub apart_by : ℕ → ℕ → ℕ → ℕ
apart_by width a b = gap (a / width) (b / width) + gap (a % width) (b % width)

abbrev pub apart : Plan → ℕ → ℕ → ℕ
apart p a b = apart_by p.width a b
