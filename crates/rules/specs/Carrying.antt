-- When rules Q carry the legal routes of rules R, each gate's code renamed: nothing is allowed less, and nothing loads or delays more. The law is `legal-carries`, proofs/Carrying.antt.
use Rattle.std.specs.Prelude.{ℕ, ◌≤◌, not, [], ◌∷◌, ◌≡◌, T}
use Rattle.timing.specs.declared.elements.Wire.{Wire}
use Rattle.timing.specs.declared.elements.Driver.{Driver}
use Rattle.timing.specs.declared.elements.Buffer.{Buffer}
use Rattle.timing.specs.Formulas.{wire_delay, wire_load, gate_delay, buffer_driver, buffer_load}
use Rattle.rules.specs.Rules.{Stage, Rules, no_gate, register_code, fifo_code, is_closing}
use Rattle.rules.specs.Legal.{Visit, Route, may_stand}

-- no more load and no more delay
pub record NotWorse (s t : Stage) : Type 0 where
  pub load : s.load ≤ t.load
  pub delay : s.delay ≤ t.delay

-- under no more load, no more delay

abbrev pub Quicker : Driver → Driver → Type 0
Quicker g h = (l m : ℕ) → l ≤ m → gate_delay g l ≤ gate_delay h m

pub record NotWorseWire (w x : Wire) : Type 0 where
  pub load : wire_load w ≤ wire_load x
  pub delay : (l m : ℕ) → l ≤ m → wire_delay w l ≤ wire_delay x m

pub record NotWorseBuffer (b c : Buffer) : Type 0 where
  pub load : buffer_load b ≤ buffer_load c
  pub delay : Quicker (buffer_driver b) (buffer_driver c)

-- a buffer's code
pub record Buffering (code : ℕ) : Type 0 where
  pub some_gate : code ≡ no_gate → ⊥
  pub no_close : T (not (is_closing code))

-- Q carries the legal routes of R. The renaming keeps none, the register, the FIFO and the buffers as such; a buffer that stands somewhere is renamed to one that is no worse.
pub record Carries (rename : ℕ → ℕ) (R Q : Rules) : Type 0 where
  pub cells : R.cell_count ≤ Q.cell_count
  pub source : R.source ≡ Q.source
  pub sink : R.sink ≡ Q.sink
  pub limit : R.limit ≤ Q.limit
  pub linked : (a b : ℕ) → T (R.linked a b) → T (Q.linked a b)
  pub wires : (a b : ℕ) → T (R.linked a b) → NotWorseWire (Q.wire a b) (R.wire a b)
  pub none : rename no_gate ≡ no_gate
  pub register : rename register_code ≡ register_code
  pub fifo : rename fifo_code ≡ fifo_code
  pub buffering : (code : ℕ) → Buffering code → Buffering (rename code)
  pub stands : (cell code : ℕ) → T (may_stand R cell code) → T (may_stand Q cell (rename code))
  pub buffers : (cell code : ℕ) → Buffering code → T (may_stand R cell code) → NotWorseBuffer (Q.buffer (rename code)) (R.buffer code)
  pub start : NotWorse Q.start R.start
  pub fresh : (code : ℕ) → T (is_closing code) → NotWorse (Q.fresh code) (R.fresh code)
  pub closers : (cell code : ℕ) → T (is_closing code) → Quicker (Q.closer cell code) (R.closer cell code)
  pub fifos : R.fifos ≡ Q.fifos
  pub bound : (span fifos : ℕ) → R.bound span fifos ≤ Q.bound span fifos

-- a route with its codes renamed

unfoldable pub renamed_visit : (ℕ → ℕ) → Visit → Visit
renamed_visit rename v = record { cell = v.cell; code = rename v.code }

unfoldable pub renamed : (ℕ → ℕ) → Route → Route
renamed rename [] = []
renamed rename (v ∷ vs) = renamed_visit rename v ∷ renamed rename vs
