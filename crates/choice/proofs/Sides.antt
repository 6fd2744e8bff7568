-- The first visit to any neighbour, out of the first to each of the four sides: these are in ascending order.
use Rattle.std.proofs.Common.{ℕ, ◌≤◌, ◌<◌, ◌≡◌, refl, Option, Some, None, List, ◌⊎◌, inl, inr, arith, T, length}
use Rattle.plan.specs.Plan.{Plan, cells}
use Rattle.plan.specs.Joined.{neighbours_of}
use Rattle.plan.specs.declared.Neighbours.{Neighbours}
use Rattle.plan.proofs.Sides.{Ascending, IsNeighbour}
use Rattle.timing.specs.declared.elements.Wire.{Wire}
use Rattle.timing.specs.declared.elements.Elements.{Elements}
use Rattle.timing.specs.Elements.{WireInRange}
use Rattle.rules.specs.Rules.{Rules, fifo_code, rules_of}
use Rattle.budget.specs.Table.{Table}
use Rattle.budget.specs.Done.{Labels}
use Rattle.budget.specs.Emission.{Before}
use Rattle.labels.specs.Labels.{labels_for}
use Rattle.rules.specs.Crossing.{rules_between}
use Rattle.problem.specs.declared.Problem.{Problem}
use Rattle.problem.specs.declared.net.Net.{Net}
use Rattle.problem.specs.Problem.{rules_for}
use Rattle.table.specs.Problem.{plan_for, net_rules, budget_of}
use Rattle.problem.proofs.Sizes.{cells_are}
use Rattle.problem.proofs.Wires.{in_order, sides, linked, across, along}
use Rattle.choice.specs.declared.State.{State}
use Rattle.choice.specs.declared.Visit.{Visit}
use Rattle.choice.specs.Choice.{ChooseAsks, Goes, FirstVisit, ChosenAmong, Chosen}
use Rattle.choice.specs.Codes.{TryAsks}
use Rattle.choice.proofs.Visits.{goes-linked}

module _ (net : Net) (marks : List ℕ) (exits : ℕ) (words : List ℕ) (from : State) (asks : ChooseAsks net marks exits words from) where
  abbrev p : Problem
  p = net.problem

  abbrev P : Plan
  P = plan_for p marks

  abbrev n : ℕ
  n = length marks

  abbrev R : Rules
  R = net_rules net marks

  abbrev m : ℕ → Labels
  m = labels_for n exits words

  abbrev A : Table
  A = budget_of n words

  abbrev e : Elements
  e = p.elements

  abbrev near : Neighbours
  near = neighbours_of P from.cell

  abbrev in_plan : from.cell < n
  in_plan = asks.in_range.in_plan

  order : Ascending (cells P) from.cell near
  order = in_order p marks asks.ready.ready from.cell in_plan

  -- the wires are those of the problem

  joins : (c : ℕ) → IsNeighbour P from.cell c → c < n → T (R.linked from.cell c)
  unfolding net_rules rules_between rules_for rules_of
  joins c s h = linked p marks asks.ready.ready from.cell in_plan c s h

  joined-side : (c : ℕ) → T (R.linked from.cell c) → IsNeighbour P from.cell c
  unfolding net_rules rules_between rules_for rules_of
  joined-side c t = sides p marks asks.ready.ready from.cell in_plan c t

  wire-across : (c : ℕ) → (c ≡ near.left) ⊎ (c ≡ near.right) → c < n → R.wire from.cell c ≡ e.horizontal
  unfolding net_rules rules_between rules_for rules_of
  wire-across c s h = across p marks asks.ready.ready from.cell in_plan c s h

  wire-along : (c : ℕ) → (c ≡ near.up) ⊎ (c ≡ near.down) → c < n → R.wire from.cell c ≡ e.vertical
  unfolding net_rules rules_between rules_for rules_of
  wire-along c s h = along p marks asks.ready.ready from.cell in_plan c s h

  side-asks : (c : ℕ) (wire : Wire) → IsNeighbour P from.cell c → c ≤ cells P → WireInRange wire → (c < n → R.wire from.cell c ≡ wire) → TryAsks net marks exits words from c wire
  side-asks c wire s h w q =
      record { asks = asks; within = omega (arith, cells_are p marks asks.ready.ready); joined = joins c s; same = q; wire_fits = w }

  pub up-asks : TryAsks net marks exits words from near.up e.vertical
  up-asks = side-asks near.up e.vertical (inl refl) order.up-most asks.ready.ready.valid.vertical (wire-along near.up (inl refl))

  pub left-asks : TryAsks net marks exits words from near.left e.horizontal
  left-asks = side-asks near.left e.horizontal (inr (inl refl)) order.left-most asks.ready.ready.valid.horizontal (wire-across near.left (inl refl))

  pub right-asks : TryAsks net marks exits words from near.right e.horizontal
  right-asks = side-asks near.right e.horizontal (inr (inr (inl refl))) order.right-most asks.ready.ready.valid.horizontal (wire-across near.right (inr refl))

  pub down-asks : TryAsks net marks exits words from near.down e.vertical
  down-asks = side-asks near.down e.vertical (inr (inr (inr refl))) order.down-most asks.ready.ready.valid.vertical (wire-along near.down (inr refl))

  -- one side

  abbrev pub Only : ℕ → Option Visit → Type 0
  Only side = ChosenAmong R n m A from (λ c. c ≡ side)

  abbrev Whole : Option Visit → Type 0
  Whole = Chosen R n m A from

  -- no visit there goes on
  abbrev pub Empty : ℕ → Type 0
  Empty side = (a : ℕ) → a ≤ fifo_code → Goes R m A from side a → ⊥

  pub empty : (side : ℕ) → Only side None → Empty side
  empty side (ChosenAmong.nothing f) a h t = f side a refl h t

  -- The first visit to a side is the first of all, if nothing goes on to smaller neighbours.
  widen : (side : ℕ) (v : Visit) → FirstVisit R n m A from (λ c. c ≡ side) v.code v.state → (side < cells P → (c : ℕ) → c < side → IsNeighbour P from.cell c → Empty c) → Whole (Some v)
  widen side v x none =
      ChosenAmong.visit
      (record {
        among = goes-linked R m A from v.state.cell v.code x.goes;
        goes = x.goes;
        is_first = first;
        small = x.small;
        load = x.load;
        delay = x.delay;
        weight = x.weight;
        steps = x.steps;
        slack = x.slack;
        side = x.side;
        in_range = x.in_range;
      })
    where
      first : (c a : ℕ) → T (R.linked from.cell c) → a ≤ fifo_code → Before c a v.state.cell v.code → Goes R m A from c a → ⊥
      first c a l h (inl b) t = none (omega (arith, x.among, x.in_range.in_plan, cells_are p marks asks.ready.ready)) c (omega (arith, x.among)) (joined-side c l) a h t
      first c a l h (inr b) t = x.is_first c a (omega (arith, x.among)) h (inr b) t

  -- the sides in their order

  pub up_first : (v : Visit) → Only near.up (Some v) → Whole (Some v)
  up_first v (ChosenAmong.visit x) = widen near.up v x none
    where
      none : near.up < cells P → (c : ℕ) → c < near.up → IsNeighbour P from.cell c → Empty c
      none h c k (inl q) = absurd (omega arith)
      none h c k (inr (inl q)) = absurd (omega (arith, order.up_left h))
      none h c k (inr (inr (inl q))) = absurd (omega (arith, order.up_right h))
      none h c k (inr (inr (inr q))) = absurd (omega (arith, order.up-down h))

  pub left-first : Empty near.up → (v : Visit) → Only near.left (Some v) → Whole (Some v)
  left-first up v (ChosenAmong.visit x) = widen near.left v x none
    where
      none : near.left < cells P → (c : ℕ) → c < near.left → IsNeighbour P from.cell c → Empty c
      none h c k (inl q) = rw q up
      none h c k (inr (inl q)) = absurd (omega arith)
      none h c k (inr (inr (inl q))) = absurd (omega (arith, order.left-right h))
      none h c k (inr (inr (inr q))) = absurd (omega (arith, order.left_down h))

  pub right-first : Empty near.up → Empty near.left → (v : Visit) → Only near.right (Some v) → Whole (Some v)
  right-first up left v (ChosenAmong.visit x) = widen near.right v x none
    where
      none : near.right < cells P → (c : ℕ) → c < near.right → IsNeighbour P from.cell c → Empty c
      none h c k (inl q) = rw q up
      none h c k (inr (inl q)) = rw q left
      none h c k (inr (inr (inl q))) = absurd (omega arith)
      none h c k (inr (inr (inr q))) = absurd (omega (arith, order.right-down h))

  pub down-last : Empty near.up → Empty near.left → Empty near.right → (choice : Option Visit) → Only near.down choice → Whole choice
  down-last up left right (Some v) (ChosenAmong.visit x) = widen near.down v x none
    where
      none : near.down < cells P → (c : ℕ) → c < near.down → IsNeighbour P from.cell c → Empty c
      none h c k (inl q) = rw q up
      none h c k (inr (inl q)) = rw q left
      none h c k (inr (inr (inl q))) = rw q right
      none h c k (inr (inr (inr q))) = absurd (omega arith)
  down-last up left right None (ChosenAmong.nothing f) = ChosenAmong.nothing (λ c a l. none c (joined-side c l) a)
    where
      none : (c : ℕ) → IsNeighbour P from.cell c → Empty c
      none c (inl q) = rw q up
      none c (inr (inl q)) = rw q left
      none c (inr (inr (inl q))) = rw q right
      none c (inr (inr (inr q))) = λ a h t. f c a q h t
