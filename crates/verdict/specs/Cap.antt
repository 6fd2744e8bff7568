-- How far the code of the verdict counts a delay.
use Rattle.std.specs.Prelude.{ℕ}

-- the code counts delays no further: every span that comes so far has the lowest figure
abbrev pub delay_cap : ℕ
delay_cap = 1000060000
