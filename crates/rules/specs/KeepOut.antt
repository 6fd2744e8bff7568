-- Blocked and tapped at once: document 02, C-17. The rules of before, which "read the tap rule last", and rules with some of their sites barred.
use Rattle.std.specs.Prelude.{ℕ, Bool, false, not, ◌&&◌, ◌||◌, [], ◌∷◌}
use Rattle.plan.specs.Plan.{Plan, marks_at, blocked, tap}
use Rattle.timing.specs.declared.elements.Elements.{Elements}
use Rattle.timing.specs.declared.clocks.Clocks.{Clocks}
use Rattle.rules.specs.Rules.{Rules, is_closing, sited_by, sites_by, rules_of}
use Rattle.rules.specs.Legal.{Route, is_last}
use Rattle.rules.specs.Crossing.{is_fifo, rules_between}

-- The rules of before: a register stood on every cell with mark 2, and a FIFO as a register. All else is as now.

unfoldable pub tap_last : Plan → Elements → ℕ → ℕ → Rules
tap_last p e from to = sited_by (rules_of p e from to) (sites_by tap p e)

unfoldable pub tap_last_between : Plan → Elements → Clocks → ℕ → ℕ → Rules
tap_last_between p e x from to =
    sited_by (rules_between p e x from to) (λ cell code. (is_fifo x code && tap (marks_at p cell)) || sites_by tap p e cell code)

-- "a register or a FIFO .. on a cell with both marks"
unfoldable pub on_both : Plan → ℕ → ℕ → Bool
on_both p cell code = is_closing code && tap (marks_at p cell) && blocked (marks_at p cell)

-- some visit but the last is barred, by its cell and code
unfoldable pub puts_but_last : (ℕ → ℕ → Bool) → Route → Bool
puts_but_last bars [] = false
puts_but_last bars (v ∷ vs) = (not (is_last vs) && bars v.cell v.code) || puts_but_last bars vs

-- some visit "between the ends" is
unfoldable pub puts : (ℕ → ℕ → Bool) → Route → Bool
puts bars [] = false
puts bars (v ∷ vs) = puts_but_last bars vs

-- the same rules without the sites that are barred
unfoldable pub barred : Rules → (ℕ → ℕ → Bool) → Rules
barred R bars = sited_by R (λ cell code. R.site cell code && not (bars cell code))
