-- The rules with any clocks, `rules_between`: each field as an equation, and which gate may stand where. With one clock they are document 01's.
use Prim.Native.Nat.{ℕ, ◌+◌, ◌*◌, ◌≤◌}
use mathlib.Core.Bool.{Bool, true, false, ◌&&◌, ◌||◌, cond, or-false, and-false}
use mathlib.Core.Path.{◌≡◌, refl}
use native.Mathlib.Omega.{arith}
use borrow.Author.Tests.{le-leb, lt-leb, eq-eqb, ne_eqb}
use lib.Dec.{T, leb, eqb}
use Rattle.plan.specs.Plan.{Plan, cells, marks_at, takes_register}
use Rattle.plan.specs.Joined.{joined}
use Rattle.timing.specs.declared.elements.Elements.{Elements}
use Rattle.timing.specs.declared.clocks.Clocks.{Clocks}
use Rattle.timing.specs.Clocks.{one_clock}
use Rattle.timing.specs.Ranges.{buffers_max}
use Rattle.rules.specs.Rules.{Rules, no_gate, register_code, fifo_code, site_of, rules_of}
use Rattle.rules.specs.Legal.{is_end, may_stand}
use Rattle.rules.specs.Crossing.{is_fifo, gate_for, period_on, rules_between}
use Rattle.rules.proofs.Document01.{site-register, site-refused}

-- with one clock nothing is new
pub one-clock : (p : Plan) (e : Elements) (t from to : ℕ) → rules_between p e (one_clock t) from to ≡ rules_of p e from to
unfolding rules_between rules_of is_fifo gate_for period_on one_clock
one-clock p e t from to = refl

module _ (e : Elements) (x : Clocks) where
  -- with one clock, and with any other code, the register
  pub gate-one : (code : ℕ) → x.fifos ≡ 0 → gate_for e x code ≡ e.register
  unfolding gate_for is_fifo
  gate-one code h = simp (lt-leb 1 x.fifos (omega arith))

  pub gate-other : (code : ℕ) → (code ≡ fifo_code → ⊥) → gate_for e x code ≡ e.register
  unfolding gate_for is_fifo
  gate-other code f = simp (ne_eqb code fifo_code f, and-false (leb 1 x.fifos))

  pub gate-fifo : (code : ℕ) → 1 ≤ x.fifos → code ≡ fifo_code → gate_for e x code ≡ x.fifo
  unfolding gate_for is_fifo
  gate-fifo code h q = simp (le-leb 1 x.fifos h, eq-eqb code fifo_code q)

  pub gate-register : gate_for e x register_code ≡ e.register
  gate-register = gate-other register_code (λ z. omega arith)

  -- with one clock, and on the sink's side, the tables' period
  pub period-one : (f : ℕ) → x.fifos ≡ 0 → period_on e x f ≡ e.period
  unfolding period_on
  period-one f h = simp (lt-leb 1 x.fifos (omega arith))

  pub period-sink : (f : ℕ) → f ≡ 0 → period_on e x f ≡ e.period
  unfolding period_on
  period-sink f h = simp (lt-leb 1 f (omega arith), and-false (leb 1 x.fifos))

  pub period-source : (f : ℕ) → 1 ≤ x.fifos → 1 ≤ f → period_on e x f ≡ x.period
  unfolding period_on
  period-source f h k = simp (le-leb 1 x.fifos h, le-leb 1 f k)

-- The fields

module _ (p : Plan) (e : Elements) (x : Clocks) (from to : ℕ) where
  abbrev B : Rules
  B = rules_between p e x from to

  abbrev R : Rules
  R = rules_of p e from to

  pub between-cell_count : B.cell_count ≡ cells p
  unfolding rules_between rules_of
  between-cell_count = refl

  pub between-limit : B.limit ≡ e.limit.0
  unfolding rules_between rules_of
  between-limit = refl

  pub between-linked : (a b : ℕ) → B.linked a b ≡ joined p a b
  unfolding rules_between rules_of
  between-linked a b = refl

  pub between-fifos : B.fifos ≡ x.fifos
  unfolding rules_between
  between-fifos = refl

  pub between-bound : (span f : ℕ) → B.bound span f ≡ 2 * period_on e x f + 1
  unfolding rules_between
  between-bound span f = refl

  pub weight-one : x.fifos ≡ 0 → (f : ℕ) → B.weight f ≡ 1
  unfolding rules_between rules_of
  weight-one h f = simp (lt-leb 1 x.fifos (omega arith))

  pub weight-two : 1 ≤ x.fifos → (f : ℕ) → B.weight f ≡ period_on e x f
  unfolding rules_between
  weight-two h f = simp (le-leb 1 x.fifos h)

  -- Which gate may stand where

  -- every gate but a FIFO stands as with one clock
  pub stands_alike : (cell code : ℕ) → (code ≡ fifo_code → ⊥) → may_stand B cell code ≡ may_stand R cell code
  unfolding may_stand is_end rules_between is_fifo
  stands_alike cell code f = simp (ne_eqb code fifo_code f, and-false (leb 1 x.fifos))

  -- a FIFO stands where a register may
  pub fifo-stands : e.count ≤ buffers_max → 1 ≤ x.fifos → (cell : ℕ) → may_stand B cell fifo_code ≡ may_stand R cell register_code
  unfolding may_stand is_end rules_between rules_of is_fifo
  fifo-stands few h cell =
      simp (le-leb 1 x.fifos h, site-register p e cell few, site-refused p e cell fifo_code (omega arith) (λ z. omega arith), or-false)

  -- and nowhere with one clock
  pub fifo-nowhere : e.count ≤ buffers_max → x.fifos ≡ 0 → (cell : ℕ) → T (may_stand B cell fifo_code) → ⊥
  unfolding may_stand is_end rules_between rules_of is_fifo
  fifo-nowhere few h cell t = go (is_end R cell) t
    where
      go : (b : Bool) → T (cond b (eqb fifo_code no_gate) ((leb 1 x.fifos && eqb fifo_code fifo_code && takes_register (marks_at p cell)) || site_of p e cell fifo_code)) → ⊥
      go true t = t
      go false t = simp (lt-leb 1 x.fifos (omega arith), site-refused p e cell fifo_code (omega arith) (λ z. omega arith)) at t
