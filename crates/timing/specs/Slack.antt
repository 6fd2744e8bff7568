-- The spare figure of a span (document 02, C-12), in half-ticks. The field's term is slack.
use Rattle.std.specs.Prelude.{ℕ, suc, ◌+◌, min, cond, ℤ, pos, negsuc, ◌-ℤ◌}
use Rattle.std.specs.Int.Signed.{lt_z}

-- the largest miss that is told
abbrev pub miss_most : ℕ
miss_most = 1000000000

-- no span has more: twice the longest period
abbrev pub slack_most : ℤ
slack_most = pos 60000

-- "2T less the closing delay, zero when it just fits, below zero by the miss, at lowest -1,000,000,000"; `allowed` is 2T, `used` the closing delay with the skew in it ("The spare figure is after skew")
unfoldable pub slack_of : ℕ → ℕ → ℤ
slack_of allowed used = pos allowed -ℤ pos (min used (allowed + miss_most))

-- the smaller of two figures
unfoldable pub smaller : ℤ → ℤ → ℤ
smaller a b = cond (lt_z b a) b a

-- a figure without its sign
abbrev pub magnitude : ℤ → ℕ
magnitude (pos n) = n
magnitude (negsuc n) = suc n
