-- Refusal 5 is given exactly where an end is outside the plan or the ends are equal.
use Prim.Native.Nat.{ℕ, ◌<◌}
use mathlib.Core.Path.{◌≡◌, refl}
use mathlib.Core.Bool.{Bool, true, false, ◌||◌}
use lib.Dec.{leb, eqb}
use native.Mathlib.Omega.{arith}
use borrow.Author.Tests.{leb-false, eqb-false, lt-leb, ne_eqb}
use Rattle.answers.specs.Ends.{ends_fault}

pub record GoodEnds (cells source sink : ℕ) : Type 0 where
  pub source_in : source < cells
  pub sink-in : sink < cells
  pub apart : source ≡ sink → ⊥

neither : (a b c : Bool) → (a || b || c) ≡ false → (a ≡ false) × ((b ≡ false) × (c ≡ false))
neither false false c h = (refl, (refl, h))
neither false true c h = let z : ◌≡◌ {A = ℕ} 0 1 = cc in absurd (omega arith)
neither true b c h = let z : ◌≡◌ {A = ℕ} 0 1 = cc in absurd (omega arith)

pub ends-good : (cells source sink : ℕ) → ends_fault cells source sink ≡ false → GoodEnds cells source sink
unfolding ends_fault
ends-good cells source sink h =
    let p = neither (leb cells source) (leb cells sink) (eqb source sink) h in
    record { source_in = leb-false _ _ p.0; sink-in = leb-false _ _ p.1.0; apart = eqb-false _ _ p.1.1 }

pub good-ends : (cells source sink : ℕ) → GoodEnds cells source sink → ends_fault cells source sink ≡ false
unfolding ends_fault
good-ends cells source sink h =
    simp (lt-leb _ _ h.source_in, lt-leb _ _ h.sink-in, ne_eqb _ _ h.apart)
