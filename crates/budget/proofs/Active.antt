-- The active list: pushes in any order make a layer, and what an unchanged row gives is unchanged.
use Prim.Native.Nat.{ℕ, zero, suc, ◌-◌, ◌≤◌, ◌<◌, max}
use mathlib.Core.Path.{◌≡◌, refl, ap}
use mathlib.Core.Bool.{false, ◌&&◌}
use mathlib.Core.Logic.{◌⊎◌, inl, inr}
use native.Mathlib.Omega.{arith}
use borrow.Author.Tests.{lt-leb}
use lib.Dec.{T, leb}
use Rattle.timing.specs.Formulas.{wire_delay}
use Rattle.rules.specs.Rules.{Rules, no_gate, register_code, fifo_code, is_closing}
use Rattle.rules.proofs.View.{register-closing, fifo-closing}
use Rattle.rules.specs.Legal.{may_stand}
use Rattle.plan.proofs.Truth.{split}
use Rattle.budget.specs.Table.{Table, Seeds, only, max_below, load_at, load_of, buffer_cost, close_cost, via_buffer, via_close, arrival, given, layer}
use Rattle.budget.proofs.Max.{only-most, only-true, only-false, only-bound}

-- the maximum is at least each candidate, and at most what bounds them all

pub max-at : (n : ℕ) (f : ℕ → ℕ) (i : ℕ) → i < n → f i ≤ max_below n f
unfolding max_below
max-at zero f i h = absurd (omega arith)
max-at (suc n) f i h = go (max-at n f i) (split n i)
  where
    go : (i < n → f i ≤ max_below n f) → (n ≤ i) ⊎ (i < n) → f i ≤ max (max_below n f) (f n)
    go r (inl k) = let e : f i ≡ f n = ap f (omega arith) in omega arith
    go r (inr k) = let q : f i ≤ max_below n f = r k in omega arith

pub max-most : (n : ℕ) (f : ℕ → ℕ) (x : ℕ) → ((i : ℕ) → i < n → f i ≤ x) → max_below n f ≤ x
unfolding max_below
max-most zero f x h = omega arith
max-most (suc n) f x h = let q : max_below n f ≤ x = max-most n f x (λ i k. h i (omega arith)) in omega (arith, h n (omega arith))

pub max-same : (n : ℕ) (f g : ℕ → ℕ) → ((i : ℕ) → i < n → f i ≡ g i) → max_below n f ≡ max_below n g
unfolding max_below
max-same zero f g h = refl
max-same (suc n) f g h = let q : max_below n f ≡ max_below n g = max-same n f g (λ i k. h i (omega arith)) in let e : f n ≡ g n = h n (omega arith) in omega arith

module _ (R : Rules) (seed : Seeds) (bound : ℕ) (A : Table) where
  -- what a cell gives is in the layer
  pub given-most : (n c l : ℕ) → n < R.cell_count → given R (arrival R seed bound A) n c l ≤ layer R seed bound A c l
  unfolding layer
  given-most n c l h = omega (arith, max-at R.cell_count (λ n. given R (arrival R seed bound A) n c l) n h)

  -- the layer is at least the table
  pub layer-least : (c l : ℕ) → A c l ≤ layer R seed bound A c l
  unfolding layer
  layer-least c l = omega arith

  -- a cell gives only to those that are linked to it
  given-linked : (x n c l : ℕ) → (T (R.linked c n) → given R (arrival R seed bound A) n c l ≤ x) → given R (arrival R seed bound A) n c l ≤ x
  unfolding given
  given-linked x n c l h =
      let b = arrival R seed bound A n (load_at R c n l) - wire_delay (R.wire c n) l in
      only-bound (R.linked c n) b x (λ t. omega (arith, h t, only-true (R.linked c n) b t))

  -- Proof: x is at least all that any cell gives to c, and what c has; so it is at least their maximum, the layer; and it is at most the layer. Qed.
  pub pushes-layer : (x c l : ℕ) → A c l ≤ x → x ≤ layer R seed bound A c l → ((n : ℕ) → n < R.cell_count → T (R.linked c n) → given R (arrival R seed bound A) n c l ≤ x) → x ≡ layer R seed bound A c l
  unfolding layer
  pushes-layer x c l least most all =
      let q : max_below R.cell_count (λ n. given R (arrival R seed bound A) n c l) ≤ x = max-most R.cell_count (λ n. given R (arrival R seed bound A) n c l) x (λ n h. given-linked x n c l (all n h)) in
      omega arith

-- An arrival row depends on the cell's own row and seeds alone.
pub arrival-row : (R : Rules) (seed seed' : Seeds) (bound : ℕ) (A B : Table) (n : ℕ) → ((l : ℕ) → B n l ≡ A n l) → ((code : ℕ) → T (is_closing code) → seed' code n ≡ seed code n) → (l : ℕ) → arrival R seed' bound B n l ≡ arrival R seed bound A n l
unfolding arrival via_buffer via_close
arrival-row R seed seed' bound A B n row s l =
    simp (row, s register_code (register-closing register_code refl), s fifo_code (fifo-closing fifo_code refl))

-- past the limit it is 0
pub arrival-past : (R : Rules) (seed : Seeds) (bound : ℕ) (A : Table) (n l : ℕ) → R.limit < l → arrival R seed bound A n l ≡ 0
unfolding arrival only
arrival-past R seed bound A n l h = rw (lt-leb l R.limit h)

-- a row of zeros without a seed gives nothing
pub arrival-none : (R : Rules) (seed : Seeds) (bound : ℕ) (A : Table) (n : ℕ) → ((l : ℕ) → A n l ≡ 0) → ((code : ℕ) → T (is_closing code) → seed code n ≡ false) → (l : ℕ) → arrival R seed bound A n l ≡ 0
unfolding arrival via_buffer via_close
arrival-none R seed bound A n row e l =
    let x : ℕ = max_below 6 (λ i. via_buffer R A n l (suc i)) in
    let a : only (may_stand R n no_gate) (A n l) ≤ 0 = omega (arith, only-most (may_stand R n no_gate) (A n l), row l) in
    let b : x ≤ 0 = max-most 6 (λ i. via_buffer R A n l (suc i)) 0 (λ i h. only-bound (may_stand R n (suc i) && leb (load_of R (suc i)) R.limit) (A n (load_of R (suc i)) - buffer_cost R (suc i) l) 0 (λ t. omega (arith, row (load_of R (suc i))))) in
    let c : (code : ℕ) → T (is_closing code) → only (seed code n) (bound - close_cost R n code l) ≡ 0 = λ code z. only-false (seed code n) (bound - close_cost R n code l) (λ t. rw (e code z) at t) in
    let r : ℕ = only (seed register_code n) (bound - close_cost R n register_code l) in
    let f : ℕ = only (seed fifo_code n) (bound - close_cost R n fifo_code l) in
    let q : only (leb l R.limit) (max (only (may_stand R n no_gate) (A n l)) (max x (max r f))) ≤ 0 = only-bound (leb l R.limit) (max (only (may_stand R n no_gate) (A n l)) (max x (max r f))) 0 (λ t. omega (arith, c register_code (register-closing register_code refl), c fifo_code (fifo-closing fifo_code refl))) in
    omega arith

-- what a cell gives depends on its arrival row alone
pub given-row : (R : Rules) (B C : Table) (n : ℕ) → ((l : ℕ) → C n l ≡ B n l) → (c l : ℕ) → given R C n c l ≡ given R B n c l
unfolding given
given-row R B C n row c l = simp row

pub given-none : (R : Rules) (B : Table) (n : ℕ) → ((l : ℕ) → B n l ≡ 0) → (c l : ℕ) → given R B n c l ≡ 0
unfolding given
given-none R B n row c l =
    omega (
      arith,
      only-bound (R.linked c n) (B n (load_at R c n l) - wire_delay (R.wire c n) l) 0 (λ t. omega (arith, row (load_at R c n l))),
    )
