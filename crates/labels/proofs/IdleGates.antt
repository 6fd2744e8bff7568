-- A seed that closes no quicker than another seed of its cell gives nothing more.
use Rattle.std.proofs.Common.{ℕ, ◌-◌, ◌≤◌, ◌<◌, max, ◌≡◌, refl, Bool, true, false, ◌⊎◌, inl, inr, arith, T, leb}
use Rattle.timing.specs.Formulas.{wire_delay}
use Rattle.plan.proofs.Truth.{split}
use Rattle.rules.specs.Rules.{Rules, register_code, fifo_code, is_closing}
use Rattle.rules.proofs.View.{closing-codes, register-closing, fifo-closing}
use Rattle.budget.specs.Table.{Table, Seeds, only, load_at, close_cost, via_close, arrival, given}
use Rattle.budget.proofs.Max.{only-true, only-bound}
use Rattle.budget.proofs.Active.{arrival-row, arrival-past}
use Rattle.labels.specs.Idle.{no_idle, IdleRight}

only-less : (b : Bool) (x y : ℕ) → x ≤ y → only b x ≤ only b y
unfolding only
only-less true x y h = h
only-less false x y h = omega arith

-- nothing is called idle
pub none-idle : (R : Rules) → IdleRight R no_idle
none-idle R = record { registers = λ t. absurd t; fifos = λ t. absurd t }

-- a seed of the cell that closes as quickly as one with this code
pub record Instead (R : Rules) (seed : Seeds) (n code l : ℕ) : Type 0 where
  pub by : ℕ
  pub closes : T (is_closing by)
  pub seeded : T (seed by n)
  pub quick : close_cost R n by l ≤ close_cost R n code l

module _ (R : Rules) (seed seed' : Seeds) (bound : ℕ) (A B : Table) (n l : ℕ) (row : (l : ℕ) → B n l ≡ A n l) (instead : (code : ℕ) → T (is_closing code) → T (seed' code n) → l ≤ R.limit → Instead R seed n code l) where
  -- closing at the cell, before
  closed : ℕ
  closed = max (via_close R seed bound n l register_code) (via_close R seed bound n l fifo_code)

  close-in : (code : ℕ) → T (is_closing code) → T (seed code n) → bound - close_cost R n code l ≤ closed
  unfolding closed via_close
  close-in code shut t = go (closing-codes code shut)
    where
      go : (code ≡ register_code) ⊎ (code ≡ fifo_code) → bound - close_cost R n code l ≤ max (only (seed register_code n) (bound - close_cost R n register_code l)) (only (seed fifo_code n) (bound - close_cost R n fifo_code l))
      go (inl e) =
          let s : T (seed register_code n) = rw (← e) t in
          rw e (omega (arith, only-true (seed register_code n) (bound - close_cost R n register_code l) s))
      go (inr e) =
          let s : T (seed fifo_code n) = rw (← e) t in
          rw e (omega (arith, only-true (seed fifo_code n) (bound - close_cost R n fifo_code l) s))

  close-less : l ≤ R.limit → (code : ℕ) → T (is_closing code) → via_close R seed' bound n l code ≤ closed
  unfolding via_close
  close-less h code shut =
      only-bound (seed' code n) (bound - close_cost R n code l) closed
      (λ t. let i = instead code shut t h in omega (arith, close-in i.by i.closes i.seeded, i.quick))

  fewer : l ≤ R.limit → arrival R seed' bound A n l ≤ arrival R seed bound A n l
  unfolding arrival closed
  fewer h =
      let a = close-less h register_code (register-closing register_code refl) in
      let b = close-less h fifo_code (fifo-closing fifo_code refl) in
      only-less (leb l R.limit) _ _ (omega (arith, a, b))

  pub arrival-less : arrival R seed' bound B n l ≤ arrival R seed bound A n l
  arrival-less = go (split l R.limit)
    where
      go : (l ≤ R.limit) ⊎ (R.limit < l) → arrival R seed' bound B n l ≤ arrival R seed bound A n l
      go (inl h) = omega (arith, arrival-row R seed' seed' bound A B n row (λ code z. refl) l, fewer h)
      go (inr h) = omega (arith, arrival-past R seed' bound B n l h)

-- what the cell gives then
pub given-less : (R : Rules) (B C : Table) (n c l : ℕ) → (T (R.linked c n) → C n (load_at R c n l) ≤ B n (load_at R c n l)) → given R C n c l ≤ given R B n c l
unfolding given
given-less R B C n c l less =
    only-bound (R.linked c n) (C n (load_at R c n l) - wire_delay (R.wire c n) l) _
    (λ t. omega (arith, less t, only-true (R.linked c n) (B n (load_at R c n l) - wire_delay (R.wire c n) l) t))
