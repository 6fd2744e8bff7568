-- The wires from a cell of a ready problem: the rules link it with its neighbours, across by the horizontal wire, along by the vertical one.
use Rattle.std.proofs.Common.{ℕ, ◌<◌, ◌≡◌, List, ◌⊎◌, inl, inr, arith, T, length}
use lib.Dec.{not_T}
use Rattle.plan.specs.Plan.{Plan, cells}
use Rattle.plan.specs.Joined.{horizontal, neighbours_of}
use Rattle.plan.specs.declared.Neighbours.{Neighbours}
use Rattle.plan.proofs.Sides.{Ascending, IsNeighbour, ascending, joined-neighbour, neighbour-joined, horizontal-neighbour, neighbour-horizontal}
use Rattle.plan.proofs.Truth.{is_true, is_false}
use Rattle.rules.specs.Rules.{Rules, rules_of, wire_between}
use Rattle.problem.specs.declared.Problem.{Problem}
use Rattle.problem.specs.Problem.{plan_for, rules_for, Ready}
use Rattle.problem.proofs.Sizes.{cells_are}

module _ (p : Problem) (marks : List ℕ) (ready : Ready p marks) (from : ℕ) (within : from < length marks) where
  abbrev P : Plan
  P = plan_for p marks

  abbrev R : Rules
  R = rules_for p marks

  abbrev near : Neighbours
  near = neighbours_of P from

  pub inside : from < cells P
  inside = omega (arith, cells_are p marks ready)

  pub in_order : Ascending (cells P) from near
  in_order = ascending P ready.sized from inside

  pub sides : (c : ℕ) → T (R.linked from c) → IsNeighbour P from c
  unfolding rules_for rules_of
  sides c t = joined-neighbour P ready.sized from inside c t

  pub linked : (c : ℕ) → IsNeighbour P from c → c < length marks → T (R.linked from c)
  unfolding rules_for rules_of
  linked c s h = neighbour-joined P ready.sized from inside c (omega (arith, cells_are p marks ready)) s

  pub across : (c : ℕ) → (c ≡ near.left) ⊎ (c ≡ near.right) → c < length marks → R.wire from c ≡ p.elements.horizontal
  unfolding rules_for rules_of wire_between
  across c s h =
      rw (is_true (horizontal P from c) (neighbour-horizontal P ready.sized from inside c (omega (arith, cells_are p marks ready)) s))

  pub along : (c : ℕ) → (c ≡ near.up) ⊎ (c ≡ near.down) → c < length marks → R.wire from c ≡ p.elements.vertical
  unfolding rules_for rules_of wire_between
  along c s h =
      rw (is_false (horizontal P from c) (not_T (horizontal P from c) (λ t. go s (horizontal-neighbour P ready.sized from inside c t))))
    where
      size : length marks ≡ cells P
      size = cells_are p marks ready

      go : (c ≡ near.up) ⊎ (c ≡ near.down) → (c ≡ near.left) ⊎ (c ≡ near.right) → ⊥
      go (inl a) (inl b) = omega (arith, size, in_order.up_left (omega (arith, size)))
      go (inl a) (inr b) = omega (arith, size, in_order.up_right (omega (arith, size)))
      go (inr a) (inl b) = omega (arith, size, in_order.left_down (omega (arith, size)))
      go (inr a) (inr b) = omega (arith, size, in_order.right-down (omega (arith, size)))
