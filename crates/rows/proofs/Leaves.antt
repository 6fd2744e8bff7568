-- What a cost row leaves of a word: past the limit nothing.
use Rattle.std.proofs.Common.{ℕ, ◌+◌, ◌-◌, ◌≤◌, ◌<◌, max, ◌≡◌, cond, ◌⊎◌, inl, inr, List, arith, le-leb, leb, get_or}
use borrow.Author.Tests.{lt-leb}
use Rattle.timing.specs.declared.elements.Wire.{Wire}
use Rattle.timing.specs.declared.elements.Driver.{Driver}
use Rattle.timing.specs.Formulas.{wire_delay, wire_load, gate_delay}
use Rattle.costs.specs.Costs.{row_words, word_most, limit_cost, gate_cost, step_cost, RowAt}
use Rattle.plan.proofs.Truth.{split}
use Rattle.budget.specs.Table.{only}
use Rattle.rows.specs.Rows.{view_of, copied, raised}

pub limit-leaves : (limit l x : ℕ) → x ≤ word_most → x - limit_cost limit l ≡ only (leb l limit) x
unfolding limit_cost only
limit-leaves limit l x h = go (split l limit)
  where
    go : (l ≤ limit) ⊎ (limit < l) → x - cond (leb l limit) 0 word_most ≡ cond (leb l limit) x 0
    go (inl k) = simp (le-leb l limit k) (omega arith)
    go (inr k) = simp (lt-leb l limit k) (omega arith)

pub gate-leaves : (driver : Driver) (limit l old top : ℕ) → top ≤ word_most → max old (top - gate_cost driver limit l) ≡ cond (leb l limit) (max old (top - gate_delay driver l)) old
unfolding gate_cost
gate-leaves driver limit l old top h = go (split l limit)
  where
    go : (l ≤ limit) ⊎ (limit < l) → max old (top - cond (leb l limit) (gate_delay driver l) word_most) ≡ cond (leb l limit) (max old (top - gate_delay driver l)) old
    go (inl k) = simp (le-leb l limit k)
    go (inr k) = simp (lt-leb l limit k) (omega arith)

pub step-leaves : (wire : Wire) (limit l x : ℕ) → (limit < l + wire_load wire → x ≤ word_most) → x - step_cost wire limit l ≡ only (leb (l + wire_load wire) limit) (x - wire_delay wire l)
unfolding step_cost only
step-leaves wire limit l x h = go (split (l + wire_load wire) limit)
  where
    go : (l + wire_load wire ≤ limit) ⊎ (limit < l + wire_load wire) → x - cond (leb (l + wire_load wire) limit) (wire_delay wire l) word_most ≡ cond (leb (l + wire_load wire) limit) (x - wire_delay wire l) 0
    go (inl k) = simp (le-leb _ _ k)
    go (inr k) = simp (lt-leb _ _ k) (omega (arith, h k))

-- The rows that are made with them

-- the cell's row, with 0 past the limit
abbrev pub limited : List ℕ → ℕ → ℕ → ℕ → ℕ
limited words cell limit l = only (leb l limit) (view_of words cell l)

-- the row at `at`, raised within the limit to what `top` leaves after the driver's delay
abbrev pub driven : List ℕ → ℕ → ℕ → Driver → ℕ → ℕ → ℕ
driven words at top driver limit l =
    cond (leb l limit) (max (get_or words (at + l) 0) (top - gate_delay driver l)) (get_or words (at + l) 0)

pub copied-limited : (words : List ℕ) (cell : ℕ) (costs : List ℕ) (base limit : ℕ) → RowAt (limit_cost limit) base costs → (l : ℕ) → l < row_words → view_of words cell l ≤ word_most → copied words cell costs base l ≡ limited words cell limit l
unfolding copied
copied-limited words cell costs base limit row l h k = rw (row l h) (limit-leaves limit l (view_of words cell l) k)

pub raised-driven : (words : List ℕ) (at top : ℕ) (costs : List ℕ) (base : ℕ) (driver : Driver) (limit : ℕ) → RowAt (gate_cost driver limit) base costs → top ≤ word_most → (l : ℕ) → l < row_words → raised words at top costs base l ≡ driven words at top driver limit l
unfolding raised
raised-driven words at top costs base driver limit row h l k =
    rw (row l k) (gate-leaves driver limit l (get_or words (at + l) 0) top h)
