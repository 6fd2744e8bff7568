-- "With the period test left out" (document 02, C-13) is the same as with no delays: where nothing takes time the period test always passes, and the other tests read loads only.
use Prim.Native.Nat.{ℕ, ◌+◌, ◌<◌}
use mathlib.Core.Bool.{Bool, true, false, ◌&&◌, ◌||◌, cond, and-true}
use mathlib.Core.List.{[], ◌∷◌}
use mathlib.Core.Path.{◌≡◌, refl, ap, ap₂}
use native.Mathlib.Omega.{arith}
use borrow.Author.Tests.{lt-ltb}
use lib.Dec.{T, eqb, leb, ltb}
use Rattle.timing.specs.Formulas.{wire_delay, wire_load, gate_delay, buffer_driver, buffer_load}
use Rattle.plan.proofs.Truth.{both, parts}
use Rattle.rules.specs.Rules.{Stage, Rules, no_gate, register_code, is_closing, side_after}
use Rattle.rules.specs.Legal.{Visit, Route, arrive, buffered, leave, closing, in_time, is_end, may_stand, is_last, cell_right, wire_right, code_right, load_right, period_right, visit_right, span_after, legal_from, first_right, legal}
use Rattle.rules.specs.Beginning.{Place, next_place, start_place}
use Rattle.rules.specs.Relaxed.{visit_fits, fits_from, fits}

-- a legal route fits, whatever the rules

either : (a b c : Bool) → (T b → T c) → T (a || b) → T (a || c)
either true b c f h = tt
either false b c f h = f h

from-fitting : (R : Rules) (a : Place) (vs : Route) → T (legal_from R a.cell a.span a.fifos a.stage vs) → T (fits_from R a vs)
unfolding legal_from fits_from next_place visit_right visit_fits
from-fitting R a [] h = absurd h
from-fitting R a (v ∷ vs) h =
    let s = arrive R a.cell a.stage v.cell in
    let next = next_place R a v in
    both (visit_fits R a.cell a.fifos s (is_last vs) v) _ (search parts) (either (is_last vs) (legal_from R next.cell next.span next.fifos next.stage vs) _ (from-fitting R next vs) (search parts))

pub legal-fitting : (R : Rules) (r : Route) → T (legal R r) → T (fits R r)
unfolding legal fits start_place
legal-fitting R [] h = absurd h
legal-fitting R (v ∷ vs) h = both (first_right R v) _ (search parts) (from-fitting R (start_place R v) vs (search parts))

-- rules under which nothing takes time
pub record Timeless (R : Rules) : Type 0 where
  pub wires : (a b load : ℕ) → wire_delay (R.wire a b) load ≡ 0
  pub buffers : (code load : ℕ) → gate_delay (buffer_driver (R.buffer code)) load ≡ 0
  pub closers : (cell code load : ℕ) → gate_delay (R.closer cell code) load ≡ 0
  pub start : R.start.delay ≡ 0
  pub fresh : (code : ℕ) → (R.fresh code).delay ≡ 0
  pub bound : (span fifos : ℕ) → 0 < R.bound span fifos

module _ (R : Rules) (q : Timeless R) where
  arrive-quick : (from : ℕ) (s : Stage) (to : ℕ) → s.delay ≡ 0 → (arrive R from s to).delay ≡ 0
  unfolding arrive
  arrive-quick from s to h = omega (arith, h, q.wires from to s.load)

  leave-quick : (s : Stage) (code : ℕ) → s.delay ≡ 0 → (leave R s code).delay ≡ 0
  unfolding leave buffered
  leave-quick s code h = go (eqb code no_gate) (is_closing code)
    where
      go : (none closing : Bool) → (cond {A = Stage} none s (cond {A = Stage} closing (R.fresh code) (buffered R s code))).delay ≡ 0
      go true closing = h
      go false true = q.fresh code
      go false false = omega (arith, h, q.buffers code s.load)

  period-passes : (span fifos : ℕ) (s : Stage) (v : Visit) → s.delay ≡ 0 → period_right R span fifos s v ≡ true
  unfolding period_right in_time closing
  period-passes span fifos s v h = go (is_closing v.code)
    where
      go : (closing : Bool) → cond closing (ltb (s.delay + gate_delay (R.closer v.cell v.code) s.load) (R.bound span fifos)) true ≡ true
      go true = lt-ltb (s.delay + gate_delay (R.closer v.cell v.code) s.load) (R.bound span fifos) (omega (arith, h, q.closers v.cell v.code s.load, q.bound span fifos))
      go false = refl

  visit-fits : (from span fifos : ℕ) (s : Stage) (last : Bool) (v : Visit) → s.delay ≡ 0 → visit_right R from span fifos s last v ≡ visit_fits R from fifos s last v
  unfolding visit_right visit_fits
  visit-fits from span fifos s last v h = simp (period-passes span fifos s v h, and-true)

  from-fits : (a : Place) (vs : Route) → a.stage.delay ≡ 0 → legal_from R a.cell a.span a.fifos a.stage vs ≡ fits_from R a vs
  unfolding legal_from fits_from next_place
  from-fits a [] h = refl
  from-fits a (v ∷ vs) h =
      let s = arrive R a.cell a.stage v.cell in
      let z = arrive-quick a.cell a.stage v.cell h in
      ap₂
      (λ (now later : Bool). now && (is_last vs || later))
      (visit-fits a.cell a.span a.fifos s (is_last vs) v z)
      (from-fits (next_place R a v) vs (leave-quick s v.code z))

  pub legal-fits : (r : Route) → legal R r ≡ fits R r
  unfolding legal fits start_place
  legal-fits [] = refl
  legal-fits (v ∷ vs) = ap (λ (rest : Bool). first_right R v && rest) (from-fits (start_place R v) vs q.start)

-- rules alike but for delays: the same cells, wires, sites and loads
pub record SameLoads (R Q : Rules) : Type 0 where
  pub cells : R.cell_count ≡ Q.cell_count
  pub source : R.source ≡ Q.source
  pub sink : R.sink ≡ Q.sink
  pub limit : R.limit ≡ Q.limit
  pub linked : (a b : ℕ) → R.linked a b ≡ Q.linked a b
  pub site : (cell code : ℕ) → R.site cell code ≡ Q.site cell code
  pub wires : (a b : ℕ) → wire_load (R.wire a b) ≡ wire_load (Q.wire a b)
  pub buffers : (code : ℕ) → buffer_load (R.buffer code) ≡ buffer_load (Q.buffer code)
  pub start : R.start.load ≡ Q.start.load
  pub fresh : (code : ℕ) → (R.fresh code).load ≡ (Q.fresh code).load
  pub fifos : R.fifos ≡ Q.fifos

module _ {R Q : Rules} (e : SameLoads R Q) where
  arrive-alike : (from : ℕ) (s t : Stage) (to : ℕ) → s.load ≡ t.load → (arrive R from s to).load ≡ (arrive Q from t to).load
  unfolding arrive
  arrive-alike from s t to h = ap₂ ◌+◌ h (e.wires from to)

  leave-alike : (s t : Stage) (code : ℕ) → s.load ≡ t.load → (leave R s code).load ≡ (leave Q t code).load
  unfolding leave buffered
  leave-alike s t code h = go (eqb code no_gate) (is_closing code)
    where
      go : (none closing : Bool) → (cond {A = Stage} none s (cond {A = Stage} closing (R.fresh code) (buffered R s code))).load ≡ (cond {A = Stage} none t (cond {A = Stage} closing (Q.fresh code) (buffered Q t code))).load
      go true closing = h
      go false true = e.fresh code
      go false false = e.buffers code

  stand-alike : (cell code : ℕ) → may_stand R cell code ≡ may_stand Q cell code
  unfolding may_stand is_end
  stand-alike cell code = λ i. cond (eqb cell (e.sink i) || eqb cell (e.source i)) (eqb code no_gate) (e.site cell code i)

  visit-alike : (from fifos : ℕ) (s t : Stage) (last : Bool) (v : Visit) → s.load ≡ t.load → visit_fits R from fifos s last v ≡ visit_fits Q from fifos t last v
  unfolding visit_fits cell_right wire_right code_right load_right
  visit-alike from fifos s t last v h =
      λ i.
      (ltb v.cell (e.cells i) && cond last (eqb v.cell (e.source i)) true)
      && e.linked from v.cell i
      && cond last (eqb v.code register_code && eqb fifos (e.fifos i)) (stand-alike v.cell v.code i)
      && (leb (h i) (e.limit i) && (last || leb (leave-alike s t v.code h i) (e.limit i)))

  from-alike : (cell span fifos : ℕ) (s t : Stage) (vs : Route) → s.load ≡ t.load → fits_from R (record { cell = cell; span = span; fifos = fifos; stage = s }) vs ≡ fits_from Q (record { cell = cell; span = span; fifos = fifos; stage = t }) vs
  unfolding fits_from next_place
  from-alike cell span fifos s t [] h = refl
  from-alike cell span fifos s t (v ∷ vs) h =
      let a = arrive R cell s v.cell in
      let b = arrive Q cell t v.cell in
      let k : a.load ≡ b.load = arrive-alike cell s t v.cell h in
      ap₂
      (λ (now later : Bool). now && (is_last vs || later))
      (visit-alike cell fifos a b (is_last vs) v k)
      (from-alike v.cell (span_after span v) (side_after fifos v.code) (leave R a v.code) (leave Q b v.code) vs (leave-alike a b v.code k))

  pub fits-alike : (r : Route) → fits R r ≡ fits Q r
  unfolding fits first_right start_place
  fits-alike [] = refl
  fits-alike (v ∷ vs) =
      ap₂
      ◌&&◌
      (λ i. eqb v.cell (e.sink i) && ltb v.cell (e.cells i) && eqb v.code register_code && leb (e.start i) (e.limit i))
      (from-alike v.cell 0 0 R.start Q.start vs e.start)
