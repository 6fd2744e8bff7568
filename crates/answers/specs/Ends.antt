-- Refusal 5 of document 01: source or sink not in the plan, or equal.
use Rattle.std.specs.Prelude.{ℕ, Bool, ◌||◌, leb, eqb}

unfoldable pub ends_fault : ℕ → ℕ → ℕ → Bool
ends_fault cells source sink = leb cells source || leb cells sink || eqb source sink
