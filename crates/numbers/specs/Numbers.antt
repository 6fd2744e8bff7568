-- One number of a job: document 01, "whole numbers in groups of seven bits, lowest group first, top bit set when another follows".
-- Refusal 15 here: bytes end early, a fourth byte, a last byte of zero after another, a value above 65,535.
use Rattle.std.specs.Prelude.{ℕ, ◌+◌, ◌*◌, ◌-◌, ◌||◌, cond, List, [], ◌∷◌, eqb, ltb, Option, Some, None}
use Rattle.std.specs.Borrow.{Bor}

-- a number with the bytes after it, or refusal 15
pub data Read : Type 0 where
  value : ℕ → List ℕ → Read
  fault : Read

-- the largest number of a job
abbrev pub number_max : ℕ
number_max = 65535

-- a number that ends with this byte, after another
unfoldable pub closed : ℕ → ℕ → List ℕ → Read
closed byte v rest = cond (eqb byte 0 || ltb number_max v) fault (value v rest)

-- the number whose first two groups are `low`; a byte with its top bit set would have a fourth follow
unfoldable pub third_group : ℕ → List ℕ → Read
third_group low [] = fault
third_group low (byte ∷ rest) = cond (ltb byte 128) (closed byte (low + 16384 * byte) rest) fault

-- the number whose first group is `low`
unfoldable pub second_group : ℕ → List ℕ → Read
second_group low [] = fault
second_group low (byte ∷ rest) = cond (ltb byte 128) (closed byte (low + 128 * byte) rest) (third_group (low + 128 * (byte - 128)) rest)

unfoldable pub number : List ℕ → Read
number [] = fault
number (byte ∷ rest) = cond (ltb byte 128) (value byte rest) (second_group (byte - 128) rest)

-- what the code's answer says: the number, and the bytes after it
unfoldable pub read_of : Option (ℕ × Bor (List ℕ)) → Read
read_of (Some r) = value r.0 r.1.now
read_of None = fault
