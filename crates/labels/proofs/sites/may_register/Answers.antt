-- `labels::sites::may_register`: a register stands on no end's cell, and elsewhere just on a tap that is not blocked.
use Rattle.std.proofs.Common.{◌≡◌, ◌&&◌, ◌⊎◌, inl, inr, not, eqb, eq-eqb, rules, false, ◌≡◌, List, ne_eqb, ℕ, get_or}
use lib.Dec.{not_T}
use Rattle.plan.specs.Plan.{marks_at, takes_register}
use Rattle.rules.specs.Rules.{register_code, rules_of}
use Rattle.rules.specs.Legal.{is_end, may_stand}
use Rattle.plan.proofs.Truth.{equal, is_false}
use Rattle.rules.proofs.Document01.{RegisterSite, register-site, site-register}
use Rattle.problem.specs.declared.Problem.{Problem}
use Rattle.problem.specs.Problem.{Ready, plan_for, rules_for}
use Rattle.labels.proofs.sites.may_register.Goals as goal

module _ (p : Problem) (marks : List ℕ) (ready : Ready p marks) (cell : ℕ) where
  refused : (RegisterSite (plan_for p marks) p.source p.sink cell → ⊥) → may_stand (rules_for p marks) cell register_code ≡ false
  unfolding rules_for
  refused f =
      is_false (may_stand (rules_for p marks) cell register_code) (not_T (may_stand (rules_for p marks) cell register_code) (λ t. f (register-site (plan_for p marks) p.elements p.source p.sink cell ready.valid.count t)))

  between_ends : (cell ≡ p.source → ⊥) → (cell ≡ p.sink → ⊥) → may_stand (rules_for p marks) cell register_code ≡ takes_register (get_or marks cell 0)
  unfolding rules_for rules_of may_stand is_end plan_for marks_at
  between_ends f g =
      simp (ne_eqb cell p.source f, ne_eqb cell p.sink g, site-register (plan_for p marks) p.elements cell ready.valid.count)

  -- the tests, one after another
  tests : may_stand (rules_for p marks) cell register_code ≡ not (eqb cell p.source) && not (eqb cell p.sink) && takes_register (get_or marks cell 0)
  tests = go (equal cell p.source) (equal cell p.sink)
    where
      go : (cell ≡ p.source) ⊎ (cell ≡ p.source → ⊥) → (cell ≡ p.sink) ⊎ (cell ≡ p.sink → ⊥) → may_stand (rules_for p marks) cell register_code ≡ not (eqb cell p.source) && not (eqb cell p.sink) && takes_register (get_or marks cell 0)
      go (inl e) b = simp (eq-eqb cell p.source e) (refused (λ r. r.not_source e))
      go (inr f) (inl e) = simp (ne_eqb cell p.source f, eq-eqb cell p.sink e) (refused (λ r. r.not_sink e))
      go (inr f) (inr g) = simp (ne_eqb cell p.source f, ne_eqb cell p.sink g) (between_ends f g)

pub returns-then-cell-p-2 : goal.returns-then-cell-p-2
returns-then-cell-p-2 c = rw (tests c.args.p _ c.requires.0 c.args.cell) (search rules)

pub returns-else-cell-p-2 : goal.returns-else-cell-p-2
returns-else-cell-p-2 c = rw (tests c.args.p _ c.requires.0 c.args.cell) (search rules)
