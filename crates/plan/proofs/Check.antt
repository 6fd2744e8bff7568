-- The cases of `checked_plan`, both ways, and what a plan without refusal has.
use Rattle.std.proofs.Common.{ℕ, zero, suc, ◌≤◌, ◌<◌, ◌≡◌, refl, Bool, true, false, ◌||◌, ◌⊎◌, ⊎_elim, eqb, ltb, Ok, Err, Result, eq-or-lt_of_le, le_of_suc-le-suc, mul-le-mul, arith}
use mathlib.Core.Logic.{⊎_swap}
use borrow.Author.Tests.{eqb-true, eqb-false, ltb-false, ne_eqb, eq-eqb, le-ltb, not-false}
use Rattle.plan.specs.declared.PlanFault.{PlanFault}
use Rattle.plan.specs.Plan.{Plan, Sized, side_max, cells}
use Rattle.plan.specs.Check.{grid_fault, length_fault, invalid_at, invalid_below, mark_fault, checked_plan}
use Rattle.plan.proofs.Truth.{or-false}

four-false : (a b c d : Bool) → (a || b || c || d) ≡ false → (a ≡ false) × (b ≡ false) × (c ≡ false) × (d ≡ false)
four-false false false false d e = (refl, refl, refl, e)
four-false true b c d e = cc
four-false false true c d e = cc
four-false false false true d e = cc

last-or-before : (c n : ℕ) → c < suc n → (c < n) ⊎ (c ≡ n)
last-or-before c n h = ⊎_swap (eq-or-lt_of_le (le_of_suc-le-suc h))

-- what refusals 1 and 2 leave is `Sized`
pub sized : (p : Plan) → grid_fault p.width p.height ≡ false → length_fault p ≡ false → Sized p
unfolding grid_fault length_fault
sized p g l =
    let w = p.width in
    let h = p.height in
    let f = four-false (eqb w 0) (ltb side_max w) (eqb h 0) (ltb side_max h) g in
    record {
      wide = omega (arith, eqb-false w 0 f.0);
      narrow = ltb-false side_max w f.1;
      tall = omega (arith, eqb-false h 0 f.2);
      low = ltb-false side_max h f.3;
      full = eqb-true _ _ (not-false _ l);
    }

pub sized-grid : (p : Plan) → Sized p → grid_fault p.width p.height ≡ false
unfolding grid_fault
sized-grid p s =
    simp (ne_eqb p.width 0 (λ e. omega arith), le-ltb side_max p.width s.narrow, ne_eqb p.height 0 (λ e. omega arith), le-ltb side_max p.height s.low)

pub sized-length : (p : Plan) → Sized p → length_fault p ≡ false
unfolding length_fault
sized-length p s = simp (eq-eqb _ _ s.full)

-- 32 × 32
abbrev pub cells_max : ℕ
cells_max = 1024

pub cells-most : (p : Plan) → Sized p → cells p ≤ cells_max
unfolding cells
cells-most p s = mul-le-mul {n₂ = 32} {m₂ = 32} s.narrow s.low

-- `invalid_below` reads every cell below n
pub none-invalid : (p : Plan) (n : ℕ) → invalid_below p n ≡ false → (c : ℕ) → c < n → invalid_at p c ≡ false
unfolding invalid_below
none-invalid p zero e c h = absurd (omega arith)
none-invalid p (suc n) e c h =
    let f = or-false (invalid_below p n) (invalid_at p n) e in
    ⊎_elim (λ (k : c < n). none-invalid p n f.0 c k) (λ (k : c ≡ n). rw k f.1) (last-or-before c n h)

pub all_valid : (p : Plan) (n : ℕ) → ((c : ℕ) → c < n → invalid_at p c ≡ false) → invalid_below p n ≡ false
unfolding invalid_below
all_valid p zero f = refl
all_valid p (suc n) f = rw (all_valid p n (λ c h. f c (omega arith)), f n (omega arith))

-- a cell below n with marks that may not stand there
pub record InvalidCell (p : Plan) (n : ℕ) : Type 0 where
  pub cell : ℕ
  pub inside : cell < n
  pub invalid : invalid_at p cell ≡ true

pub some-invalid : (p : Plan) (n : ℕ) → invalid_below p n ≡ true → InvalidCell p n
unfolding invalid_below
some-invalid p zero e = cc
some-invalid p (suc n) e = go (λ q. some-invalid p n q) (invalid_below p n) refl
  where
    go : (invalid_below p n ≡ true → InvalidCell p n) → (b : Bool) → invalid_below p n ≡ b → InvalidCell p (suc n)
    go f true q = let i = f q in record { cell = i.cell; inside = omega arith; invalid = i.invalid }
    go f false q = record { cell = n; inside = omega arith; invalid = rw q at e }

pub one-invalid : (p : Plan) (n c : ℕ) → c < n → invalid_at p c ≡ true → invalid_below p n ≡ true
one-invalid p n c h e = go (invalid_below p n) refl
  where
    go : (b : Bool) → invalid_below p n ≡ b → invalid_below p n ≡ true
    go true q = q
    go false q =
        let f = none-invalid p n q c h in cc

-- The four cases. `checked` gives the case of a plan and what holds in it; `checked-is` the answer from what holds.
pub data Checked (p : Plan) : Result Unit PlanFault → Type 0 where
  grid : grid_fault p.width p.height ≡ true → Checked p (Err PlanFault.Grid)
  wrong-length : grid_fault p.width p.height ≡ false → length_fault p ≡ true → Checked p (Err PlanFault.Length)
  mark : Sized p → InvalidCell p (cells p) → Checked p (Err PlanFault.Mark)
  valid : Sized p → ((c : ℕ) → c < cells p → invalid_at p c ≡ false) → Checked p (Ok tt)

pub checked : (p : Plan) → Checked p (checked_plan p)
unfolding checked_plan mark_fault
checked p = go (grid_fault p.width p.height) (length_fault p) (invalid_below p (cells p)) refl refl refl
  where
    go : (g l m : Bool) → grid_fault p.width p.height ≡ g → length_fault p ≡ l → invalid_below p (cells p) ≡ m → Checked p (checked_plan p)
    go true l m e f i = rw e (grid e)
    go false true m e f i = rw (e, f) (wrong-length e f)
    go false false true e f i = rw (e, f, i) (mark (sized p e f) (some-invalid p (cells p) i))
    go false false false e f i = rw (e, f, i) (valid (sized p e f) (none-invalid p (cells p) i))

pub checked-is : (p : Plan) {k : Result Unit PlanFault} → Checked p k → checked_plan p ≡ k
unfolding checked_plan mark_fault
checked-is p (grid e) = rw e
checked-is p (wrong-length e f) = rw (e, f)
checked-is p (mark s i) =
    rw (sized-grid p s, sized-length p s, one-invalid p (cells p) i.cell i.inside i.invalid)
checked-is p (valid s f) = rw (sized-grid p s, sized-length p s, all_valid p (cells p) f)

is-valid : (p : Plan) → checked_plan p ≡ Ok tt → Checked p (Ok tt)
is-valid p e = rw e at (checked p)

pub valid-sized : (p : Plan) → checked_plan p ≡ Ok tt → Sized p
valid-sized p e = go (is-valid p e)
  where
    go : Checked p (Ok tt) → Sized p
    go (valid s f) = s

pub valid-marks : (p : Plan) → checked_plan p ≡ Ok tt → (c : ℕ) → c < cells p → invalid_at p c ≡ false
valid-marks p e = go (is-valid p e)
  where
    go : Checked p (Ok tt) → (c : ℕ) → c < cells p → invalid_at p c ≡ false
    go (valid s f) = f
