-- A legal ending of s steps, and so a label of s steps, is on a cell of the colour that s steps from the source lead to.
use Prim.Native.Nat.{ℕ, suc}
use native.Mathlib.Omega.{arith}
use lib.Dec.{T}
use lib.ListN.{length}
use Rattle.plan.specs.Plan.{Plan}
use Rattle.plan.proofs.Joined.{diagonal, joined-odd}
use Rattle.timing.specs.declared.elements.Elements.{Elements}
use Rattle.timing.specs.declared.clocks.Clocks.{Clocks}
use Rattle.rules.specs.Rules.{Stage, Rules}
use Rattle.rules.specs.Legal.{Route}
use Rattle.rules.specs.Crossing.{rules_between}
use Rattle.rules.proofs.Clocks.{between-linked}
use Rattle.rules.proofs.View.{Ending, ending-view}
use Rattle.budget.specs.Done.{stage, NotAfter, Least, After, Labels, Labelled, Lawful}
use mathlib.Core.Path.{◌≡◌}
use mathlib.Core.Logic.{inl, inr}
use Rattle.budget.specs.Colours.{Colouring, InStep, LabelsInStep}
use Rattle.budget.proofs.Emission.{least-exact}
use Rattle.budget.proofs.Search.{label-enough, label-least}

-- The rules have the chessboard's colouring, with any clocks.
pub rules-colouring : (p : Plan) (e : Elements) (x : Clocks) (from to : ℕ) → Colouring (rules_between p e x from to)
rules-colouring p e x from to =
    record {
      colour = diagonal p;
      differs = λ c d h. joined-odd p c d (rw (between-linked p e x from to c d) at h);
    }

module _ {R : Rules} where
  pub source-in-step : InStep R 0 R.source
  source-in-step = record { even = λ K. omega arith }

  -- one step more
  pub linked-in-step : {s d : ℕ} (c : ℕ) → T (R.linked c d) → InStep R s d → InStep R (suc s) c
  linked-in-step {s} {d} c h i = record { even = λ K. omega (arith, K.differs c d h, i.even K) }

  -- cells that are as many steps away are not linked
  pub same-unlinked : Colouring R → {s c d : ℕ} → InStep R s c → InStep R s d → T (R.linked c d) → ⊥
  same-unlinked K {s} {c} {d} i j h = omega (arith, K.differs c d h, i.even K, j.even K)

  pub ending-in-step : {c i f : ℕ} {st : Stage} {vs : Route} → Ending R c i f st vs → InStep R (length vs) c
  ending-in-step {c} (Ending.ends {v = v} h) =
      let i : InStep R 0 v.cell = rw h.at_source source-in-step in
      linked-in-step c h.reached.wired i
  ending-in-step {c} (Ending.passes h e) = linked-in-step c h.reached.wired (ending-in-step e)
  ending-in-step {c} (Ending.buffers h e) = linked-in-step c h.reached.wired (ending-in-step e)
  ending-in-step {c} (Ending.closes h e) = linked-in-step c h.reached.wired (ending-in-step e)

  pub least-in-step : {f w t c l d : ℕ} → Least R f w t c l d → InStep R t c
  least-in-step {f = f} {c = c} {l = l} {d = d} m =
      let e = m.enough in
      rw (least-exact m e.route e.ending e.within).1 at (ending-in-step (ending-view R c 0 f (stage l d) e.route e.ending))

  -- a label has the least steps of the state after its gate, or is the source's
  after-in-step : (f code w t n : ℕ) → After R f code w t n → ((k s : ℕ) → After R f code k s n → NotAfter w t k s) → InStep R t n
  after-in-step f code w t n (After.at_source a b c) least = rw (none (least 0 0 (After.at_source a b c))) (rw c source-in-step)
    where
      none : NotAfter w t 0 0 → t ≡ 0
      none (inl h) = absurd (omega arith)
      none (inr h) = omega arith
  after-in-step f code w t n (After.at_gate shut may x) least =
      least-in-step (record { enough = x; least = λ k s y. least k s (After.at_gate shut may y) })

  pub label-in-step : {f k s : ℕ} {m : ℕ → Labels} → Lawful R → Labelled R f k s m → LabelsInStep R m
  label-in-step {f} {k} {s} {m} law labels code c shut known =
      after-in-step f code _ _ c (label-enough R law f k s m labels code c shut known) (label-least R law f k s m labels code c shut known)
