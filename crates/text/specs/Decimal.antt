-- A number in decimal, without leading zeros, as bytes. proofs/Digits has the two equations that say it:
-- `decimal-one`: below ten it is one digit; `decimal-more`: from ten on it is `decimal (n / 10)` and then the digit of `n % 10`.
use Rattle.std.specs.Prelude.{ℕ, zero, suc, ◌+◌, ◌/◌, ◌%◌, Bool, true, false, List, [], ◌∷◌, ◌++◌, ltb, ℤ, pos, negsuc}

-- the ASCII code of a digit
unfoldable pub digit : ℕ → ℕ
digit d = 48 + d

-- the digits of n; the flag says that n is below ten. Each digit uses one of `fuel`.
unfoldable pub spelled : ℕ → Bool → ℕ → List ℕ
spelled zero small n = digit n ∷ []
spelled (suc fuel) true n = digit n ∷ []
spelled (suc fuel) false n = spelled fuel (ltb (n / 10) 10) (n / 10) ++ (digit (n % 10) ∷ [])

unfoldable pub decimal : ℕ → List ℕ
decimal n = spelled n (ltb n 10) n

-- a signed number: a minus sign stands before it below zero
unfoldable pub signed : ℤ → List ℕ
signed (pos n) = decimal n
signed (negsuc n) = 45 ∷ decimal (suc n)
