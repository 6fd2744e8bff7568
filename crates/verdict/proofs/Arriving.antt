-- A visit's first three tests, the arrival at its gate, and the first visit.
use Prim.Native.Nat.{ℕ, ◌+◌, ◌≤◌, min}
use mathlib.Core.Bool.{Bool, true, false, cond}
use mathlib.Core.List.{List}
use mathlib.Core.Path.{◌≡◌, refl, ◌∙◌}
use native.Mathlib.Omega.{arith}
use borrow.Author.Tests.{eq-eqb, ne_eqb, lt-ltb}
use lib.Dec.{T, leb, ltb}
use Rattle.plan.specs.Plan.{cells}
use Rattle.plan.specs.Joined.{horizontal}
use Rattle.plan.proofs.Truth.{is_true}
use Rattle.timing.specs.declared.elements.Wire.{Wire}
use Rattle.timing.specs.Ranges.{load_max}
use Rattle.timing.specs.Elements.{WireInRange}
use Rattle.timing.specs.Formulas.{wire_delay, wire_load, register_load, setup_delay}
use Rattle.answers.specs.declared.verdicts.VisitFault.{VisitFault}
use Rattle.rules.specs.Rules.{Rules, rules_of, wire_between, register_code}
use Rattle.rules.specs.Legal.{Visit, arrive, cell_right, wire_right, code_right}
use Rattle.rules.specs.Beginning.{Place, start_place}
use Rattle.problem.specs.declared.Problem.{Problem}
use Rattle.problem.specs.Problem.{plan_for, rules_for, Ready}
use Rattle.problem.proofs.Sizes.{cells_are}
use Rattle.verdict.specs.Verdict.{right, wrong, visit_check, first_check}
use Rattle.verdict.specs.Gates.{delay_cap, Carries, At, gate_check}
use Rattle.verdict.specs.declared.gates.point.Point.{Point}

-- `from`: the point after the visit before it
module _ (R : Rules) (a : Place) (last : Bool) (v : Visit) where
  pub cell-wrong : cell_right R last v ≡ false → visit_check R a last v ≡ wrong VisitFault.Cell
  unfolding visit_check
  cell-wrong e = rw e

  module _ (cell : cell_right R last v ≡ true) (from : Point) (k : At from a) where
    pub wire-wrong : R.linked from.cell v.cell ≡ false → visit_check R a last v ≡ wrong VisitFault.Wire
    unfolding visit_check wire_right
    wire-wrong e = rw (cell, ← k.cell, e)

    module _ (wire : T (R.linked from.cell v.cell)) where
      joined : R.linked a.cell v.cell ≡ true
      joined = rw (← k.cell) (is_true (R.linked from.cell v.cell) wire)

      pub site-wrong : code_right R 0 last v ≡ false → visit_check R a last v ≡ wrong VisitFault.Site
      unfolding visit_check wire_right
      site-wrong e = rw (cell, joined, k.fifos, e)

      pub gate-next : code_right R 0 last v ≡ true → visit_check R a last v ≡ gate_check R a last v
      unfolding visit_check wire_right gate_check
      gate-next e = rw (cell, joined, k.fifos, e)

-- the step over the wire
pub arrived : (R : Rules) (a : Place) (cell : ℕ) (w : Wire) (from b : Point) → At from a → w ≡ R.wire from.cell cell → b.load.0 ≡ from.load.0 + wire_load w → b.delay.0 ≡ min (from.delay.0 + wire_delay w from.load.0) delay_cap → Carries b (arrive R a.cell a.stage cell)
unfolding arrive
arrived R a cell w from b k e l d =
    rw (← k.cell, ← e)
    (record {
      load = l ∙ rw k.carries.load;
      delay = d ∙ rw k.carries.load (omega (arith, k.carries.delay));
    })

-- the wire of a step is one of the tables'
pub wire-fits : (p : Problem) (marks : List ℕ) → Ready p marks → (from cell : ℕ) (w : Wire) → w ≡ (rules_for p marks).wire from cell → WireInRange w
unfolding rules_for rules_of wire_between
wire-fits p marks ready from cell w e = rw e (go (horizontal (plan_for p marks) from cell))
  where
    go : (b : Bool) → WireInRange (cond b p.elements.horizontal p.elements.vertical)
    go true = ready.valid.horizontal
    go false = ready.valid.vertical

pub wire-load-most : (w : Wire) → WireInRange w → wire_load w ≤ load_max
unfolding wire_load
wire-load-most w h = h.load

-- The first visit

module _ (p : Problem) (marks : List ℕ) where
  abbrev Q : Rules
  Q = rules_for p marks

  pub first_cell : (v : Visit) → (v.cell ≡ p.sink → ⊥) → first_check Q v ≡ wrong VisitFault.Cell
  unfolding first_check rules_for rules_of
  first_cell v h = rw (ne_eqb v.cell p.sink h)

  module _ (ready : Ready p marks) where
    sink-inside : (c : ℕ) → c ≡ p.sink → ltb c (cells (plan_for p marks)) ≡ true
    sink-inside c e = lt-ltb c (cells (plan_for p marks)) (omega (arith, ready.sink, cells_are p marks ready))

    module _ (v : Visit) (sink : v.cell ≡ p.sink) where
      pub first-site : (v.code ≡ register_code → ⊥) → first_check Q v ≡ wrong VisitFault.Site
      unfolding first_check rules_for rules_of
      first-site h = rw (eq-eqb v.cell p.sink sink, sink-inside v.cell sink, ne_eqb v.code register_code h)

      module _ (seven : v.code ≡ register_code) where
        pub first_load : leb (register_load p.elements.register) p.elements.limit.0 ≡ false → first_check Q v ≡ wrong VisitFault.Load
        unfolding first_check rules_for rules_of
        first_load h = rw (eq-eqb v.cell p.sink sink, sink-inside v.cell sink, eq-eqb v.code register_code seven, h)

        pub first-right : leb (register_load p.elements.register) p.elements.limit.0 ≡ true → first_check Q v ≡ right
        unfolding first_check rules_for rules_of
        first-right h = rw (eq-eqb v.cell p.sink sink, sink-inside v.cell sink, eq-eqb v.code register_code seven, h)

    pub start-at : (v : Visit) (b : Point) → b.cell ≡ v.cell → b.load.0 ≡ register_load p.elements.register → b.delay.0 ≡ setup_delay p.elements.register → At b (start_place Q v)
    unfolding start_place rules_for rules_of setup_delay
    start-at v b c l d =
        record { cell = c; fifos = refl; carries = record { load = l; delay = omega (arith, ready.valid.register.setup) } }
