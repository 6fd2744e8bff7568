-- The earliest close after a bound, among the first cells.
use Prim.Native.Nat.{ℕ, ◌+◌, ◌≤◌, ◌<◌}
use mathlib.Core.Path.{◌≡◌, refl}
use mathlib.Core.Logic.{◌⊎◌, inl, inr}
use mathlib.Core.List.{List}
use native.Mathlib.Omega.{arith}
use borrow.Author.Count.{below_more}
use Rattle.delays.specs.Delays.{never, closes_of, ClosesAt}

-- among the first m cells
abbrev pub Nearest : ℕ → List ℕ → ℕ → ℕ → ℕ → Type 0
Nearest n words bound m close = ((c : ℕ) → c < m → bound < closes_of n words c → close ≤ closes_of n words c) × ((close ≡ never) ⊎ ((bound < close) × ClosesAt n words close))

module _ (n : ℕ) (words : List ℕ) (bound : ℕ) where
  pub nearest-none : Nearest n words bound 0 never
  nearest-none = (λ c h. absurd (omega arith), inl refl)

  module _ (m close : ℕ) (near : Nearest n words bound m close) where
    -- one cell more, which closes no earlier or not after the bound
    pub nearest-stays : (bound < closes_of n words m → close ≤ closes_of n words m) → Nearest n words bound (m + 1) close
    nearest-stays h = (below_more (λ c. bound < closes_of n words c → close ≤ closes_of n words c) m near.0 h, near.1)

    -- or which closes earlier
    pub nearest-falls : m < n → bound < closes_of n words m → closes_of n words m < close → Nearest n words bound (m + 1) (closes_of n words m)
    nearest-falls h after early = (
      below_more (λ c. bound < closes_of n words c → closes_of n words m ≤ closes_of n words c) m (λ c k a. omega (arith, near.0 c k a)) (λ a. omega arith),
      inr (after, record { cell = m; inside = h; is = refl }),
    )

    -- the cell is looked at
    pub nearest-next : m < n → (next : ℕ) → ((bound < closes_of n words m) × ((closes_of n words m < close) × (next ≡ closes_of n words m))) ⊎ ((bound < closes_of n words m → close ≤ closes_of n words m) × (next ≡ close)) → Nearest n words bound (m + 1) next
    nearest-next h next (inl w) = rw w.1.1 (nearest-falls h w.0 w.1.0)
    nearest-next h next (inr w) = rw w.1 (nearest-stays w.0)
