-- A state goes on to one neighbour, and to all four.
use Prim.Native.Nat.{ℕ, ◌+◌, ◌*◌, ◌-◌, ◌≤◌, ◌<◌, ◌/◌, ◌%◌}
use mathlib.Core.Path.{◌≡◌, refl}
use mathlib.Core.List.{List}
use mathlib.Core.Logic.{inl, inr}
use native.Mathlib.Omega.{arith}
use lib.Dec.{T}
use lib.ListN.{length, get_or}
use Rattle.timing.specs.declared.elements.Wire.{Wire}
use Rattle.timing.specs.Elements.{WireInRange}
use Rattle.timing.specs.Formulas.{wire_delay, wire_load}
use Rattle.rules.specs.Rules.{Rules, rules_of}
use Rattle.rules.specs.Legal.{arrive}
use Rattle.plan.specs.Plan.{cells}
use Rattle.plan.specs.Joined.{neighbours_of}
use Rattle.plan.specs.declared.Neighbours.{Neighbours}
use Rattle.plan.proofs.Joined.{joined_in}
use Rattle.plan.proofs.Sides.{Ascending, IsNeighbour}
use Rattle.budget.specs.Done.{stage}
use Rattle.costs.specs.Costs.{row_words}
use Rattle.problem.specs.declared.Problem.{Problem}
use Rattle.problem.proofs.Sizes.{cells_are}
use Rattle.problem.proofs.Wires.{in_order, sides, linked, across, along}
use Rattle.problem.specs.Problem.{plan_for, rules_for, Ready}
use Rattle.spans.proofs.Named.{limit-named}
use Rattle.delays.specs.Delays.{never, latest}
use Rattle.spans.specs.Eases.{Eases}
use Rattle.spans.specs.Arrive.{ArriveAsks, Arrived}
use Rattle.spans.specs.Spread.{StepAsks, Offered, Stepped, SpreadAsks, SpreadOut}
use Rattle.spans.proofs.Opens.{step-comes}
use Rattle.spans.proofs.Eases.{eases-self, eases-then, ground-eases, stepped_kept}

-- a wire leads to cells of the plan
linked-in : (p : Problem) (marks : List ℕ) → Ready p marks → (c to : ℕ) → T ((rules_for p marks).linked c to) → to < length marks
unfolding rules_for rules_of
linked-in p marks ready c to link = omega (arith, (joined_in (plan_for p marks) c to link).1, cells_are p marks ready)

-- To one neighbour
module _ (p : Problem) (marks : List ℕ) (t : ℕ) (words : List ℕ) (count cell load delay to : ℕ) (wire : Wire) (asks : StepAsks p marks t words count cell load delay to wire) where
  abbrev R : Rules
  R = rules_for p marks

  abbrev n : ℕ
  n = length marks

  -- what comes there, by the wire
  load_is : to < n → (arrive R cell (stage load delay) to).load ≡ load + wire_load wire
  unfolding arrive
  load_is h = rw (asks.same h)

  delay-is : to < n → (arrive R cell (stage load delay) to).delay ≡ delay + wire_delay wire load
  unfolding arrive
  delay-is h = rw (asks.same h)

  -- nothing is done

  still : Stepped R n words cell load delay to → Eases p marks t words count words count × Stepped R n words cell load delay to
  still s = (eases-self p marks t words count asks.ground, s)

  pub step-none : to ≡ n → Eases p marks t words count words count × Stepped R n words cell load delay to
  step-none e = still (λ h. absurd (omega arith))

  pub step-heavy : p.elements.limit.0 < load + wire_load wire → Eases p marks t words count words count × Stepped R n words cell load delay to
  step-heavy h = still (λ k a b. absurd (omega (arith, load_is k, limit-named p marks)))

  pub step-late : latest < delay + wire_delay wire load → Eases p marks t words count words count × Stepped R n words cell load delay to
  step-late h = still (λ k a b. absurd (omega (arith, delay-is k)))

  -- the span arrives
  module _ (in_plan : to < n) (heavier later : ℕ) (loads : heavier ≡ load + wire_load wire) (delays : later ≡ delay + wire_delay wire load) (light : heavier ≤ p.elements.limit.0) (early : later ≤ latest) where
    is-load : (arrive R cell (stage load delay) to).load ≡ heavier
    is-load = omega (arith, load_is in_plan)

    is-delay : (arrive R cell (stage load delay) to).delay ≡ later
    is-delay = omega (arith, delay-is in_plan)

    pub step-asks : ArriveAsks p marks t words count to heavier later
    step-asks =
        record {
          ground = asks.ground;
          inside = in_plan;
          most = asks.most;
          light = light;
          early = early;
          comes = rw (is-load, is-delay) at (step-comes p marks asks.ground.ready asks.ground.light t cell load delay to (asks.opens (omega arith) (omega arith)) (asks.joined in_plan) (rw is-load light));
        }

    pub step-done : (new : List ℕ) (next : ℕ) → Eases p marks t words count new next × Arrived R n new to heavier later → Eases p marks t words count new next × Stepped R n new cell load delay to
    step-done new next a = (a.0, λ h k q. rw (is-load, is-delay) a.1)

-- To the four neighbours
module _ (p : Problem) (marks : List ℕ) (t : ℕ) (old : List ℕ) (count state : ℕ) (asks : SpreadAsks p marks t old count state) where
  abbrev R' : Rules
  R' = rules_for p marks

  abbrev n' : ℕ
  n' = length marks

  abbrev cell' : ℕ
  cell' = state / row_words

  abbrev load' : ℕ
  load' = state % row_words

  abbrev delay' : ℕ
  delay' = get_or old state 0

  abbrev near : Neighbours
  near = neighbours_of (plan_for p marks) cell'

  in_plan' : cell' < n'
  in_plan' = omega (arith, asks.inside)

  -- a lighter state is as early
  pub spread-idle : 0 < load' → get_or old (state - 1) 0 ≤ delay' → Eases p marks t old count old count × SpreadOut R' n' state old old
  spread-idle h k =
      let at : state - 1 ≡ cell' * row_words + (load' - 1) = omega arith in
      (eases-self p marks t old count asks.ground, inl (record { cell = cell'; load = load' - 1; light = omega arith; is = omega arith; early = rw at at k }))

  -- what each step asks, after others
  module _ (small : delay' ≤ never) (words : List ℕ) (waiting : ℕ) (e : Eases p marks t old count words waiting) where
    order : Ascending (cells (plan_for p marks)) cell' near
    order = in_order p marks asks.ground.ready cell' in_plan'

    side-asks : (to : ℕ) (wire : Wire) → IsNeighbour (plan_for p marks) cell' to → to ≤ cells (plan_for p marks) → WireInRange wire → (to < n' → R'.wire cell' to ≡ wire) → StepAsks p marks t words waiting cell' load' delay' to wire
    side-asks to wire s h fits same =
        record {
          ground = ground-eases p marks t old count words waiting asks.ground e;
          most = asks.most;
          inside = in_plan';
          light = omega arith;
          small = small;
          opens = asks.opens;
          within = omega (arith, cells_are p marks asks.ground.ready);
          joined = linked p marks asks.ground.ready cell' in_plan' to s;
          same = same;
          wire_fits = fits;
        }

    pub up-asks : StepAsks p marks t words waiting cell' load' delay' near.up p.elements.vertical
    up-asks = side-asks near.up p.elements.vertical (inl refl) order.up-most asks.ground.ready.valid.vertical (along p marks asks.ground.ready cell' in_plan' near.up (inl refl))

    pub left-asks : StepAsks p marks t words waiting cell' load' delay' near.left p.elements.horizontal
    left-asks = side-asks near.left p.elements.horizontal (inr (inl refl)) order.left-most asks.ground.ready.valid.horizontal (across p marks asks.ground.ready cell' in_plan' near.left (inl refl))

    pub right-asks : StepAsks p marks t words waiting cell' load' delay' near.right p.elements.horizontal
    right-asks = side-asks near.right p.elements.horizontal (inr (inr (inl refl))) order.right-most asks.ground.ready.valid.horizontal (across p marks asks.ground.ready cell' in_plan' near.right (inr refl))

    pub down-asks : StepAsks p marks t words waiting cell' load' delay' near.down p.elements.vertical
    down-asks = side-asks near.down p.elements.vertical (inr (inr (inr refl))) order.down-most asks.ground.ready.valid.vertical (along p marks asks.ground.ready cell' in_plan' near.down (inr refl))

  -- a step done
  abbrev pub StepTo : ℕ → List ℕ → ℕ → List ℕ → ℕ → Type 0
  StepTo to words waiting new next = Eases p marks t words waiting new next × Stepped R' n' new cell' load' delay' to

  -- one step after others
  pub spread-more : (to : ℕ) (words : List ℕ) (waiting : ℕ) (new : List ℕ) (next : ℕ) → Eases p marks t old count words waiting → StepTo to words waiting new next → Eases p marks t old count new next
  spread-more to words waiting new next e s = eases-then p marks t old count words waiting new next asks.ground e s.0

  module _ (w1 : List ℕ) (c1 : ℕ) (w2 : List ℕ) (c2 : ℕ) (w3 : List ℕ) (c3 : ℕ) (w4 : List ℕ) (c4 : ℕ) (up : StepTo near.up old count w1 c1) (left : StepTo near.left w1 c1 w2 c2) (right : StepTo near.right w2 c2 w3 c3) (down : StepTo near.down w3 c3 w4 c4) where
    keep : (words : List ℕ) (waiting : ℕ) (new : List ℕ) (next to : ℕ) → Eases p marks t words waiting new next → Stepped R' n' words cell' load' delay' to → Stepped R' n' new cell' load' delay' to
    keep words waiting new next to e = stepped_kept p marks words new e.lower e.closer R' (limit-named p marks) cell' load' delay' to

    pub spread-all : Eases p marks t old count w4 c4 × SpreadOut R' n' state old w4
    spread-all = (
      spread-more near.down w3 c3 w4 c4 (spread-more near.right w2 c2 w3 c3 (spread-more near.left w1 c1 w2 c2 up.0 left) right) down,
      inr (λ to link. go to (sides p marks asks.ground.ready cell' in_plan' to link) (linked-in p marks asks.ground.ready cell' to link)),
    )
      where
        up_kept : Stepped R' n' w4 cell' load' delay' near.up
        up_kept = keep w3 c3 w4 c4 near.up down.0 (keep w2 c2 w3 c3 near.up right.0 (keep w1 c1 w2 c2 near.up left.0 up.1))

        left-kept : Stepped R' n' w4 cell' load' delay' near.left
        left-kept = keep w3 c3 w4 c4 near.left down.0 (keep w2 c2 w3 c3 near.left right.0 left.1)

        right_kept : Stepped R' n' w4 cell' load' delay' near.right
        right_kept = keep w3 c3 w4 c4 near.right down.0 right.1

        go : (to : ℕ) → IsNeighbour (plan_for p marks) cell' to → to < n' → Offered R' n' w4 cell' load' delay' to
        go to (inl q) h = rw q (up_kept (omega arith))
        go to (inr (inl q)) h = rw q (left-kept (omega arith))
        go to (inr (inr (inl q))) h = rw q (right_kept (omega arith))
        go to (inr (inr (inr q))) h = rw q (down.1 (omega arith))
