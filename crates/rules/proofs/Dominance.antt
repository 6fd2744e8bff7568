-- Dominance: of two beginnings alike in cell, load and counts, the one with no more delay goes on legally with every ending that the other does.
-- It is the carrying law where both rules are the same and no code is renamed.
use Prim.Native.Nat.{ℕ}
use mathlib.Core.Path.{subst}
use native.Mathlib.Omega.{arith}
use mathlib.Core.List.{◌∷◌, ◌++◌}
use lib.Dec.{T}
use Rattle.rules.specs.Rules.{Stage, Rules}
use Rattle.rules.specs.Legal.{Visit, Route, legal_from, legal}
use Rattle.rules.specs.Beginning.{begins, place_after, NoLater, Dominates}
use Rattle.rules.specs.Carrying.{NotWorse}
use Rattle.rules.specs.Crossing.{by_number}
use Rattle.plan.proofs.Truth.{both, snd}
use Rattle.rules.proofs.Beginning.{legal-split}
use Rattle.rules.proofs.View.{Ending, ending-view, ending-test}
use Rattle.rules.proofs.Carrying.{renamed-id, ending-carries, carries-self}

-- the two stages are those after the last visit of each beginning, to `cell`, with `span` closed spans and `fifos` FIFOs behind it
pub dominance : (R : Rules) (cell span fifos : ℕ) (s t : Stage) → NoLater s t → (vs : Route) → T (legal_from R cell span fifos t vs) → T (legal_from R cell span fifos s vs)
dominance R cell span fifos s t d vs h =
    let better : NotWorse s t = record { load = omega (arith, d.load); delay = d.delay } in
    let e = ending-carries (carries-self R) (ending-view R cell span fifos t vs h) s better in
    ending-test (subst (Ending R cell span fifos s) (renamed-id vs) e)

-- The same of whole routes: `v ∷ b` and `w ∷ c` are the beginnings, `x ∷ e` is the ending.
pub dominance-of-beginnings : (R : Rules) (v w : Visit) (b c : Route) → T (begins R v b) → Dominates (place_after R v b) (place_after R w c) → (x : Visit) (e : Route) → T (legal R (w ∷ (c ++ (x ∷ e)))) → T (legal R (v ∷ (b ++ (x ∷ e))))
dominance-of-beginnings R v w b c k d x e h =
    let rest : T (legal_from R (place_after R w c).cell (place_after R w c).span (place_after R w c).fifos (place_after R w c).stage (x ∷ e)) = snd (begins R w c) _ (rw (legal-split R w c x e) at h) in
    let same : T (legal_from R (place_after R v b).cell (place_after R v b).span (place_after R v b).fifos (place_after R w c).stage (x ∷ e)) = rw (d.cell, d.span, d.fifos) rest in
    rw (legal-split R v b x e) (both (begins R v b) _ k (dominance R _ _ _ _ _ d.stage (x ∷ e) same))

-- Document 02, C-15, "for any rule that assigns a period to a span by its number from the sink": the period of a span may be any function of its number.
pub dominance-by-number : (R : Rules) (period : ℕ → ℕ) (v w : Visit) (b c : Route) → T (begins (by_number R period) v b) → Dominates (place_after (by_number R period) v b) (place_after (by_number R period) w c) → (x : Visit) (e : Route) → T (legal (by_number R period) (w ∷ (c ++ (x ∷ e)))) → T (legal (by_number R period) (v ∷ (b ++ (x ∷ e))))
dominance-by-number R period = dominance-of-beginnings (by_number R period)
