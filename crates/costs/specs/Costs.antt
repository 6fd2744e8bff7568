-- What a step or a gate costs at each load, within a load limit. Past it the cost is all that a 16-bit word can hold, which leaves nothing of any word.
use Rattle.std.specs.Prelude.{ℕ, ◌+◌, ◌*◌, ◌<◌, ◌≡◌, cond, List, leb, length, get_or}
use Rattle.timing.specs.declared.elements.Wire.{Wire}
use Rattle.timing.specs.declared.elements.Driver.{Driver}
use Rattle.timing.specs.declared.elements.Buffer.{Buffer}
use Rattle.timing.specs.declared.elements.Elements.{Elements}
use Rattle.timing.specs.declared.elements.Register.{Register}
use Rattle.timing.specs.Elements.{buffer_of}
use Rattle.timing.specs.Formulas.{wire_delay, wire_load, gate_delay, buffer_driver, register_driver}

abbrev pub row_words : ℕ
row_words = 64

-- eleven rows
abbrev pub cost_words : ℕ
cost_words = 704

-- no word is above it
abbrev pub word_most : ℕ
word_most = 65535

unfoldable pub limit_cost : ℕ → ℕ → ℕ
limit_cost limit l = cond (leb l limit) 0 word_most

unfoldable pub gate_cost : Driver → ℕ → ℕ → ℕ
gate_cost driver limit l = cond (leb l limit) (gate_delay driver l) word_most

-- the limit is on the load after the step
unfoldable pub step_cost : Wire → ℕ → ℕ → ℕ
step_cost wire limit l = cond (leb (l + wire_load wire) limit) (wire_delay wire l) word_most

-- the row holds the costs of each load
abbrev pub Row : (ℕ → ℕ) → List ℕ → Type 0
Row cost row = (l : ℕ) → l < row_words → get_or row l 0 ≡ cost l

-- and so does the row at `at`
abbrev pub RowAt : (ℕ → ℕ) → ℕ → List ℕ → Type 0
RowAt cost at rows = (l : ℕ) → l < row_words → get_or rows (at + l) 0 ≡ cost l

-- `new` has the first n words of the row at `at`; the words before it are those of `old`
pub record RowStored (at n : ℕ) (row old new : List ℕ) : Type 0 where
  pub size : length new ≡ cost_words
  pub done : (l : ℕ) → l < n → get_or new (at + l) 0 ≡ get_or row l 0
  pub low : (k : ℕ) → k < at → get_or new k 0 ≡ get_or old k 0

unfoldable pub buffer_at : Elements → ℕ → Buffer
buffer_at e i = get_or e.buffers i (buffer_of 0 0 0)

-- where the rows start
abbrev pub none_at : ℕ
none_at = 0

abbrev pub register_at : ℕ
register_at = 64

abbrev pub horizontal_at : ℕ
horizontal_at = 128

abbrev pub vertical_at : ℕ
vertical_at = 192

abbrev pub buffers_at : ℕ → ℕ
buffers_at i = 256 + i * 64

abbrev pub fifo_at : ℕ
fifo_at = 640

-- the rows of the first n buffers
abbrev pub BufferRows : Elements → ℕ → List ℕ → Type 0
BufferRows e n rows = (i : ℕ) → i < n → RowAt (gate_cost (buffer_driver (buffer_at e i)) e.limit.0) (buffers_at i) rows

-- `new` has them too; the words before them are those of `old`
pub record BuffersPut (e : Elements) (n : ℕ) (old new : List ℕ) : Type 0 where
  pub size : length new ≡ cost_words
  pub done : BufferRows e n new
  pub low : (k : ℕ) → k < buffers_at 0 → get_or new k 0 ≡ get_or old k 0

-- the rows of all elements, and of the FIFO
pub record CostsOf (e : Elements) (gate : Register) (rows : List ℕ) : Type 0 where
  pub none : RowAt (limit_cost e.limit.0) none_at rows
  pub register : RowAt (gate_cost (register_driver e.register) e.limit.0) register_at rows
  pub horizontal : RowAt (step_cost e.horizontal e.limit.0) horizontal_at rows
  pub vertical : RowAt (step_cost e.vertical e.limit.0) vertical_at rows
  pub buffers : BufferRows e e.count rows
  pub fifo : RowAt (gate_cost (register_driver gate) e.limit.0) fifo_at rows
