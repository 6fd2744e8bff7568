-- Two writes, one after the other, where there is room; no words, nothing written.
use Prim.Native.Nat.{ℕ, ◌+◌, ◌<◌}
use mathlib.Core.List.{List, [], ◌∷◌}
use mathlib.Core.Logic.{inl, inr}
use mathlib.Core.Path.{◌≡◌, refl}
use native.Mathlib.Omega.{arith}
use borrow.Author.Rules.{rules}
use lib.ListN.{length, set, length-set}
use Rattle.emission.specs.Emission.{RoomOrNone}
use Rattle.emission.proofs.put_visit.Goals as goal

none-set : (ws : List ℕ) (i cell code : ℕ) → RoomOrNone (i + 2) (length ws) → length ws < i + 2 → ws ≡ set (set ws i cell) (i + 1) code
none-set [] i cell code f h = refl
none-set (w ∷ ws) i cell code (inl f) h = absurd (omega arith)
none-set (w ∷ ws) i cell code (inr f) h = absurd (omega arith)

pub bounds-visits-i-then-i-visits : goal.bounds-visits-i-then-i-visits
bounds-visits-i-then-i-visits c = simp length-set (search rules)

pub returns-else-i-visits : goal.returns-else-i-visits
returns-else-i-visits c = none-set c.args.visits.now c.args.i c.args.cell c.args.code c.requires.fits (omega (arith, c.if-i-visits.false))
