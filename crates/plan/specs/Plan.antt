-- A plan: document 01, "The plan". Cell number = row × width + column, from 0; each cell has one byte, a sum of marks.
use Rattle.std.specs.Prelude.{ℕ, ◌*◌, ◌/◌, ◌%◌, ◌≤◌, ◌<◌, ◌≡◌, Bool, ◌&&◌, not, List, eqb, length, get_or}

pub record Plan : Type 0 where
  pub width : ℕ
  pub height : ℕ
  pub marks : List ℕ

abbrev pub plan_of : ℕ → ℕ → List ℕ → Plan
plan_of w h ms = record { width = w; height = h; marks = ms }

-- width and height are at most this
abbrev pub side_max : ℕ
side_max = 32

unfoldable pub cells : Plan → ℕ
cells p = p.width * p.height

unfoldable pub row : Plan → ℕ → ℕ
row p c = c / p.width

unfoldable pub column : Plan → ℕ → ℕ
column p c = c % p.width

unfoldable pub marks_at : Plan → ℕ → ℕ
marks_at p c = get_or p.marks c 0

-- mark 1: keep-out, no gate here
unfoldable pub blocked : ℕ → Bool
blocked m = eqb (m % 2) 1

-- mark 2: a clock tap
unfoldable pub tap : ℕ → Bool
tap m = eqb (m / 2 % 2) 1

-- a register may stand here: "on a cell with mark 2 and without mark 1" (document 02, C-17: "keep-out is read last")
unfoldable pub takes_register : ℕ → Bool
takes_register m = tap m && not (blocked m)

-- mark 4: the wire to the right neighbour is cut
unfoldable pub cut_right : ℕ → Bool
cut_right m = eqb (m / 4 % 2) 1

-- mark 8: the wire to the neighbour below is cut
unfoldable pub cut_below : ℕ → Bool
cut_below m = eqb (m / 8 % 2) 1

-- sides from 1 to 32 and one byte a cell: what refusals 1 and 2 leave
pub record Sized (p : Plan) : Type 0 where
  pub wide : 0 < p.width
  pub narrow : p.width ≤ side_max
  pub tall : 0 < p.height
  pub low : p.height ≤ side_max
  pub full : length p.marks ≡ cells p
