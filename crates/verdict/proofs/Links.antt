-- The wire between two cells, by the side of the one on which the other lies.
use Prim.Native.Nat.{ℕ, ◌<◌}
use mathlib.Core.List.{List}
use mathlib.Core.Path.{◌≡◌, sym, ap, ◌∙◌}
use mathlib.Core.Logic.{◌⊎◌, inl, inr}
use lib.Dec.{not_T}
use lib.ListN.{length}
use Rattle.plan.specs.Joined.{neighbours_of}
use Rattle.plan.specs.declared.Neighbours.{Neighbours}
use Rattle.plan.proofs.Sides.{IsNeighbour}
use Rattle.plan.proofs.Truth.{is_false}
use Rattle.problem.specs.declared.Problem.{Problem}
use Rattle.problem.specs.Problem.{plan_for, rules_for, Ready}
use Rattle.problem.proofs.Wires.{sides, linked, across, along}
use Rattle.verdict.specs.Visits.{LinkIs}
use Rattle.std.specs.Prelude.{Some, None}

module _ (p : Problem) (marks : List ℕ) (ready : Ready p marks) (from : ℕ) (within : from < length marks) (cell : ℕ) (inside : cell < length marks) (near : Neighbours) (is : near ≡ neighbours_of (plan_for p marks) from) where
  pub over-across : (cell ≡ near.left) ⊎ (cell ≡ near.right) → LinkIs (rules_for p marks) from cell (Some p.elements.horizontal)
  over-across (inl e) =
      let f = e ∙ ap (λ (x : Neighbours). x.left) is in
      (linked p marks ready from within cell (inr (inl f)) inside, sym (across p marks ready from within cell (inl f) inside))
  over-across (inr e) =
      let f = e ∙ ap (λ (x : Neighbours). x.right) is in
      (linked p marks ready from within cell (inr (inr (inl f))) inside, sym (across p marks ready from within cell (inr f) inside))

  pub over-along : (cell ≡ near.up) ⊎ (cell ≡ near.down) → LinkIs (rules_for p marks) from cell (Some p.elements.vertical)
  over-along (inl e) =
      let f = e ∙ ap (λ (x : Neighbours). x.up) is in
      (linked p marks ready from within cell (inl f) inside, sym (along p marks ready from within cell (inl f) inside))
  over-along (inr e) =
      let f = e ∙ ap (λ (x : Neighbours). x.down) is in
      (linked p marks ready from within cell (inr (inr (inr f))) inside, sym (along p marks ready from within cell (inr f) inside))

  pub no-wire : (cell ≡ near.left → ⊥) → (cell ≡ near.right → ⊥) → (cell ≡ near.up → ⊥) → (cell ≡ near.down → ⊥) → LinkIs (rules_for p marks) from cell None
  no-wire l r u d = is_false ((rules_for p marks).linked from cell) (not_T ((rules_for p marks).linked from cell) (λ t. go (sides p marks ready from within cell t)))
    where
      go : IsNeighbour (plan_for p marks) from cell → ⊥
      go (inl e) = u (e ∙ sym (ap (λ (x : Neighbours). x.up) is))
      go (inr (inl e)) = l (e ∙ sym (ap (λ (x : Neighbours). x.left) is))
      go (inr (inr (inl e))) = r (e ∙ sym (ap (λ (x : Neighbours). x.right) is))
      go (inr (inr (inr e))) = d (e ∙ sym (ap (λ (x : Neighbours). x.down) is))
