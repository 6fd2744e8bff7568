-- The two codes that close a span: the other one of a code.
use Rattle.std.proofs.Common.{ℕ, ◌≤◌, ◌≡◌, ◌⊎◌, inl, inr, arith, T}
use Rattle.rules.specs.Rules.{register_code, fifo_code, is_closing}
use Rattle.rules.proofs.View.{closing-codes, register-closing, fifo-closing}
use Rattle.labels.specs.Labels.{other_code}

pub closing-small : (code : ℕ) → T (is_closing code) → code ≤ 8
closing-small code h = go (closing-codes code h)
  where
    go : (code ≡ register_code) ⊎ (code ≡ fifo_code) → code ≤ 8
    go (inl q) = omega arith
    go (inr q) = omega arith

pub other-closes : (code : ℕ) → T (is_closing code) → T (is_closing (other_code code))
other-closes code h = go (closing-codes code h)
  where
    go : (code ≡ register_code) ⊎ (code ≡ fifo_code) → T (is_closing (other_code code))
    go (inl q) = fifo-closing (other_code code) (omega arith)
    go (inr q) = register-closing (other_code code) (omega arith)

pub other_differs : (code : ℕ) → T (is_closing code) → other_code code ≡ code → ⊥
other_differs code h = go (closing-codes code h)
  where
    go : (code ≡ register_code) ⊎ (code ≡ fifo_code) → other_code code ≡ code → ⊥
    go (inl q) e = omega arith
    go (inr q) e = omega arith
