-- The rows of the array, put one after another.
use Rattle.std.proofs.Common.{ℕ, ◌+◌, ◌≤◌, ◌∙◌, List, arith, below_more}
use Rattle.timing.specs.Formulas.{buffer_driver}
use Rattle.timing.specs.declared.elements.Elements.{Elements}
use Rattle.costs.specs.Costs.{row_words, gate_cost, buffer_at, buffers_at, Row, RowAt, RowStored, BuffersPut}

-- Row by row

module _ {at n : ℕ} {row old new : List ℕ} (w : RowStored at n row old new) where
  -- a row before it stays
  pub put-stays : {cost : ℕ → ℕ} (place : ℕ) → place + row_words ≤ at → RowAt cost place old → RowAt cost place new
  put-stays place h r l k = w.low (place + l) (omega arith) ∙ r l k

-- the row itself
pub put-costs : {at : ℕ} {row old new : List ℕ} → RowStored at row_words row old new → {cost : ℕ → ℕ} → Row cost row → RowAt cost at new
put-costs w r l k = w.done l k ∙ r l k

-- Buffer by buffer

module _ {e : Elements} {n : ℕ} {old new : List ℕ} (w : BuffersPut e n old new) where
  pub buffers-more : {row last : List ℕ} → Row (gate_cost (buffer_driver (buffer_at e n)) e.limit.0) row → RowStored (buffers_at n) row_words row new last → BuffersPut e (n + 1) old last
  buffers-more {row} {last} r p =
      record {
        size = p.size;
        done =
            below_more (λ i. RowAt (gate_cost (buffer_driver (buffer_at e i)) e.limit.0) (buffers_at i) last) n
            (λ i h. put-stays p (buffers_at i) (omega arith) (w.done i h))
            (put-costs p r);
        low = λ k h. p.low k (omega arith) ∙ w.low k h;
      }

  pub buffers-stay : {cost : ℕ → ℕ} (place : ℕ) → place + row_words ≤ buffers_at 0 → RowAt cost place old → RowAt cost place new
  buffers-stay place h r l k = w.low (place + l) (omega arith) ∙ r l k
