-- The first and the third test of a visit under document 01's rules, case by case as the code tells them apart.
use Prim.Native.Nat.{ℕ, ◌≤◌, ◌<◌}
use mathlib.Core.Bool.{Bool, true, false, not, and-true}
use mathlib.Core.List.{List}
use mathlib.Core.Path.{◌≡◌, refl, sym, ◌∙◌}
use mathlib.Core.Logic.{◌⊎◌, inl, inr}
use native.Mathlib.Omega.{arith}
use borrow.Author.Tests.{eq-eqb, ne_eqb, lt-ltb, le-ltb, eqb-true, eqb-false}
use lib.Dec.{eqb, ltb, ltb→lt}
use lib.ListN.{length}
use Rattle.plan.specs.Plan.{cells, marks_at, blocked, takes_register}
use Rattle.plan.proofs.Truth.{is_true, of-true, fst, split}
use Rattle.rules.specs.Rules.{Rules, rules_of, no_gate, register_code}
use Rattle.rules.specs.Legal.{is_end, may_stand, cell_right, code_right}
use Rattle.rules.proofs.Document01.{site-buffer, site-register, site-refused, no-gate-stands, buffer-site}
use Rattle.problem.specs.declared.Problem.{Problem}
use Rattle.problem.specs.Problem.{plan_for, rules_for, Ready}
use Rattle.problem.proofs.Sizes.{cells_are}

-- a code between the ends that is neither none nor 7 is that of a listed buffer
listed : (p : Problem) (marks : List ℕ) (cell code : ℕ) → may_stand (rules_for p marks) cell code ≡ true → (code ≡ no_gate → ⊥) → (code ≡ register_code → ⊥) → code ≤ p.elements.count
unfolding rules_for
listed p marks cell code e some other =
    (buffer-site (plan_for p marks) p.elements p.source p.sink cell code some other (of-true _ e)).listed

module _ (p : Problem) (marks : List ℕ) (ready : Ready p marks) (cell : ℕ) where
  abbrev R : Rules
  R = rules_for p marks

  -- the cell

  pub cell-outside : (last : Bool) (code : ℕ) → length marks ≤ cell → cell_right R last (record { cell = cell; code = code }) ≡ false
  unfolding cell_right rules_for rules_of
  cell-outside last code h = rw (le-ltb cell (cells (plan_for p marks)) (omega (arith, cells_are p marks ready)))

  module _ (inside : cell < length marks) where
    pub cell-last : (code : ℕ) → cell_right R true (record { cell = cell; code = code }) ≡ eqb cell p.source
    unfolding cell_right rules_for rules_of
    cell-last code = rw (lt-ltb cell (cells (plan_for p marks)) (omega (arith, cells_are p marks ready)))

    pub cell-between : (code : ℕ) → cell_right R false (record { cell = cell; code = code }) ≡ true
    unfolding cell_right rules_for rules_of
    cell-between code = rw (lt-ltb cell (cells (plan_for p marks)) (omega (arith, cells_are p marks ready)))

  -- the gate's site

  pub stands-none : may_stand R cell no_gate ≡ true
  unfolding rules_for
  stands-none = is_true _ (no-gate-stands (plan_for p marks) p.elements p.source p.sink cell)

  module _ (code : ℕ) (some : code ≡ no_gate → ⊥) where
    pub stands-on-sink : cell ≡ p.sink → may_stand R cell code ≡ false
    unfolding may_stand is_end rules_for rules_of
    stands-on-sink e = rw (eq-eqb cell p.sink e, ne_eqb code no_gate some)

    module _ (sink : cell ≡ p.sink → ⊥) where
      pub stands-on-source : cell ≡ p.source → may_stand R cell code ≡ false
      unfolding may_stand is_end rules_for rules_of
      stands-on-source e = rw (ne_eqb cell p.sink sink, eq-eqb cell p.source e, ne_eqb code no_gate some)

      module _ (source : cell ≡ p.source → ⊥) where
        pub stands-register : code ≡ register_code → may_stand R cell code ≡ takes_register (marks_at (plan_for p marks) cell)
        unfolding may_stand is_end rules_for rules_of
        stands-register e =
            rw (ne_eqb cell p.sink sink, ne_eqb cell p.source source, e) (site-register (plan_for p marks) p.elements cell ready.valid.count)

        module _ (other : code ≡ register_code → ⊥) where
          pub stands-unlisted : p.elements.count < code → may_stand R cell code ≡ false
          unfolding may_stand is_end rules_for rules_of
          stands-unlisted h =
              rw (ne_eqb cell p.sink sink, ne_eqb cell p.source source) (site-refused (plan_for p marks) p.elements cell code h other)

          pub stands-buffer : code ≤ p.elements.count → may_stand R cell code ≡ not (blocked (marks_at (plan_for p marks) cell))
          unfolding may_stand is_end rules_for rules_of
          stands-buffer h =
              rw (ne_eqb cell p.sink sink, ne_eqb cell p.source source) (site-buffer (plan_for p marks) p.elements cell code (omega arith) h other)

  -- no FIFO has been passed, and a route has none
  pub code-last : (code : ℕ) → code_right R 0 true (record { cell = cell; code = code }) ≡ eqb code register_code
  unfolding code_right rules_for rules_of
  code-last code = and-true (eqb code register_code)

  -- a code that is right: the last has 7, one in between no gate, a listed buffer or 7
  pub right-code : (last : Bool) (code : ℕ) → code_right R 0 last (record { cell = cell; code = code }) ≡ true → (code ≡ register_code) ⊎ ((last ≡ false) × (code ≤ p.elements.count))
  unfolding code_right
  right-code true code e = inl (eqb-true code register_code (sym (code-last code) ∙ e))
  right-code false code e = go (eqb code register_code) refl (split 1 code)
    where
      go : (b : Bool) → eqb code register_code ≡ b → (1 ≤ code) ⊎ (code < 1) → (code ≡ register_code) ⊎ ((false ≡ false) × (code ≤ p.elements.count))
      go true h k = inl (eqb-true code register_code h)
      go false h (inr k) = inr (refl, omega arith)
      go false h (inl k) = inr (refl, listed p marks cell code e (λ z. omega arith) (eqb-false code register_code h))

-- a cell that is right is in the plan
pub right-cell : (p : Problem) (marks : List ℕ) → Ready p marks → (cell : ℕ) (last : Bool) (code : ℕ) → cell_right (rules_for p marks) last (record { cell = cell; code = code }) ≡ true → cell < length marks
unfolding cell_right rules_for rules_of
right-cell p marks ready cell last code e =
    let h = ltb→lt cell (cells (plan_for p marks)) (fst (ltb cell (cells (plan_for p marks))) _ (of-true _ e)) in
    omega (arith, h, cells_are p marks ready)
