-- The carrying law: where wires, sites, limit and bounds allow no less and loads and delays are no more, every legal route stays legal, its codes renamed.
-- Idea: with the same cells and the renamed codes, load and delay stay no more than they were, and every test bounds them from above.
use Prim.Native.Nat.{ℕ, ◌*◌, ◌+◌, ◌≤◌}
use mathlib.Core.List.{[], ◌∷◌}
use mathlib.Core.Logic.{◌⊎◌, inl, inr}
use mathlib.Core.Path.{◌≡◌, refl, ap, ◌∙◌, subst}
use native.Mathlib.Nat.{mul-le-mul}
use native.Mathlib.Omega.{arith}
use lib.Dec.{T}
use Rattle.timing.specs.declared.elements.Wire.{Wire}
use Rattle.timing.specs.declared.elements.Driver.{Driver}
use Rattle.timing.specs.declared.elements.Buffer.{Buffer}
use Rattle.timing.specs.Formulas.{wire_delay, gate_delay, buffer_driver}
use Rattle.rules.specs.Rules.{Stage, Rules, register_code, fifo_code, is_closing}
use Rattle.rules.specs.Legal.{Route, arrive, buffered, closing, may_stand, legal}
use Rattle.rules.specs.Carrying.{NotWorse, Quicker, NotWorseWire, NotWorseBuffer, Buffering, Carries, renamed_visit, renamed}
use Rattle.rules.proofs.View.{Reached, Ending, ends, passes, buffers, closes, LegalRoute, starts, route-view, route-test, closing-codes, register-closing}

pub renamed-id : (r : Route) → renamed (λ c. c) r ≡ r
unfolding renamed renamed_visit
renamed-id [] = refl
renamed-id (v ∷ vs) = ap (λ (r : Route). v ∷ r) (renamed-id vs)

module _ {rename : ℕ → ℕ} {R Q : Rules} (k : Carries rename R Q) where
  -- a gate that closes a span keeps its code
  close-kept : (code : ℕ) → T (is_closing code) → rename code ≡ code
  close-kept code h = go (closing-codes code h)
    where
      go : (code ≡ register_code) ⊎ (code ≡ fifo_code) → rename code ≡ code
      go (inl e) = rw e k.register
      go (inr e) = rw e k.fifo

  module _ {s t : Stage} (d : NotWorse s t) where
    arrive-carries : (from to : ℕ) → T (R.linked from to) → NotWorse (arrive Q from s to) (arrive R from t to)
    unfolding arrive
    arrive-carries from to h =
        let w = k.wires from to h in
        record { load = omega (arith, w.load, d.load); delay = omega (arith, w.delay s.load t.load d.load, d.delay) }

    buffered-carries : (cell code : ℕ) → Buffering code → T (may_stand R cell code) → NotWorse (buffered Q s (rename code)) (buffered R t code)
    unfolding buffered
    buffered-carries cell code f h =
        let b = k.buffers cell code f h in
        record { load = b.load; delay = omega (arith, b.delay s.load t.load d.load, d.delay) }

    closing-carries : (cell code : ℕ) → T (is_closing code) → closing Q s cell (rename code) ≤ closing R t cell code
    unfolding closing
    closing-carries cell code h = rw (close-kept code h) (omega (arith, k.closers cell code h s.load t.load d.load, d.delay))

    reached-carries : {from cell : ℕ} → Reached R from t cell → Reached Q from s cell
    reached-carries {from} {cell} h =
        record {
          in_plan = omega (arith, h.in_plan, k.cells);
          wired = k.linked from cell h.wired;
          light = omega (arith, (arrive-carries from cell h.wired).load, h.light, k.limit);
        }

  -- `s` and `t` are the stages after the last visit before the ending, under Q and under R
  pub ending-carries : {from span fifos : ℕ} {t : Stage} {vs : Route} → Ending R from span fifos t vs → (s : Stage) → NotWorse s t → Ending Q from span fifos s (renamed rename vs)
  unfolding renamed renamed_visit
  ending-carries (ends {from = from} {span = span} {fifos = fifos} {v = v} h) s d =
      let a = arrive-carries d from v.cell h.reached.wired in
      ends
      {span = span}
      {fifos = fifos}
      {v = renamed_visit rename v}
      (record {
        reached = reached-carries d h.reached;
        at_source = h.at_source ∙ k.source;
        code = ap rename h.code ∙ k.register;
        passed = h.passed ∙ k.fifos;
        closed = omega (arith, closing-carries a v.cell v.code (register-closing v.code h.code), h.closed, k.bound span fifos);
      })
  ending-carries (passes {from = from} {v = v} h e) s d =
      passes
      {v = renamed_visit rename v}
      (record {
        reached = reached-carries d h.reached;
        code = ap rename h.code ∙ k.none;
        stands = k.stands v.cell v.code h.stands;
      })
      (ending-carries e _ (arrive-carries d from v.cell h.reached.wired))
  ending-carries (buffers {from = from} {v = v} h e) s d =
      let f : Buffering v.code = record { some_gate = h.some_gate; no_close = h.no_close } in
      let a = buffered-carries (arrive-carries d from v.cell h.reached.wired) v.cell v.code f h.stands in
      buffers
      {v = renamed_visit rename v}
      (record {
        reached = reached-carries d h.reached;
        some_gate = (k.buffering v.code f).some_gate;
        no_close = (k.buffering v.code f).no_close;
        stands = k.stands v.cell v.code h.stands;
        light_after = omega (arith, a.load, h.light_after, k.limit);
      })
      (ending-carries e _ a)
  ending-carries (closes {from = from} {span = span} {fifos = fifos} {v = v} {vs = vs} h e) s d =
      let same = close-kept v.code h.code in
      let a = arrive-carries d from v.cell h.reached.wired in
      closes
      {span = span}
      {fifos = fifos}
      {v = renamed_visit rename v}
      {vs = renamed rename vs}
      (record {
        reached = reached-carries d h.reached;
        code = rw same h.code;
        stands = k.stands v.cell v.code h.stands;
        light_after = rw same (omega (arith, (k.fresh v.code h.code).load, h.light_after, k.limit));
        closed = omega (arith, closing-carries a v.cell v.code h.code, h.closed, k.bound span fifos);
      })
      (rw same (ending-carries e _ (k.fresh v.code h.code)))

  pub legal-carries : (r : Route) → T (legal R r) → T (legal Q (renamed rename r))
  unfolding renamed renamed_visit
  legal-carries r h = go (route-view R r h)
    where
      go : {r : Route} → LegalRoute R r → T (legal Q (renamed rename r))
      go (starts {v = v} {vs = vs} f e) =
          route-test
          (starts
          {v = renamed_visit rename v}
          (record {
            at_sink = f.at_sink ∙ k.sink;
            code = ap rename f.code ∙ k.register;
            in_plan = omega (arith, f.in_plan, k.cells, k.sink);
            light = omega (arith, f.light, k.start.load, k.limit);
          })
          (subst (λ (c : ℕ). Ending Q c 0 0 Q.start (renamed rename vs)) k.sink (ending-carries e Q.start k.start)))

-- No renaming

pub legal-eases : {R Q : Rules} → Carries (λ c. c) R Q → (r : Route) → T (legal R r) → T (legal Q r)
legal-eases {R} {Q} k r h = subst (λ (q : Route). T (legal Q q)) (renamed-id r) (legal-carries k r h)

-- The formulas grow with the load, so every rules carry their own routes.

pub wire-grows : (w : Wire) → NotWorseWire w w
unfolding wire_delay
wire-grows w = record { load = omega arith; delay = λ l m h. mul-le-mul {n₂ = w.resistance.0} {m₂ = 2 * m + w.load.0} (omega arith) (omega arith) }

pub driver-grows : (g : Driver) → Quicker g g
unfolding gate_delay
driver-grows g l m h =
    let grown : g.resistance.0 * l ≤ g.resistance.0 * m = mul-le-mul {n₂ = g.resistance.0} {m₂ = m} (omega arith) h in
    omega arith

pub buffer-grows : (b : Buffer) → NotWorseBuffer b b
buffer-grows b = record { load = omega arith; delay = driver-grows (buffer_driver b) }

pub stage-same : (s : Stage) → NotWorse s s
stage-same s = record { load = omega arith; delay = omega arith }

pub carries-self : (R : Rules) → Carries (λ c. c) R R
carries-self R =
    record {
      cells = omega arith;
      source = refl;
      sink = refl;
      limit = omega arith;
      linked = λ a b h. h;
      wires = λ a b h. wire-grows (R.wire a b);
      none = refl;
      register = refl;
      fifo = refl;
      buffering = λ code f. f;
      stands = λ cell code h. h;
      buffers = λ cell code f h. buffer-grows (R.buffer code);
      start = stage-same R.start;
      fresh = λ code h. stage-same (R.fresh code);
      closers = λ cell code h. driver-grows (R.closer cell code);
      fifos = refl;
      bound = λ span fifos. omega arith;
    }
