-- The ranges of document 01, "Elements". Every range starts at 0 but the period's.
use Rattle.std.specs.Prelude.{ℕ}

-- ticks per unit of load
abbrev pub resistance_max : ℕ
resistance_max = 255

-- a gate's own delay K, in ticks
abbrev pub delay_max : ℕ
delay_max = 1000

-- an input's load C, a wire's load, and the load limit L
abbrev pub load_max : ℕ
load_max = 63

-- setup, in ticks
abbrev pub setup_max : ℕ
setup_max = 30000

-- the period T, in ticks
abbrev pub period_min : ℕ
period_min = 1

abbrev pub period_max : ℕ
period_max = 30000

-- the skew, in ticks (document 02, C-16)
abbrev pub skew_max : ℕ
skew_max = 30000

-- the longest list of buffers
abbrev pub buffers_max : ℕ
buffers_max = 6

-- a delay to which a gate's delay and twice the skew are added, in half-ticks: the sum has 32 bits
abbrev pub sum_most : ℕ
sum_most = 4000000000
