use Prim.Native.Nat.{ℕ, ◌+◌, ◌*◌, ◌<◌, ◌≤◌}
use mathlib.Core.Path.{◌≡◌}
use mathlib.Core.Bool.{Bool}
use mathlib.Core.List.{List}
use native.Mathlib.Omega.{arith}
use lib.ListN.{length}
use Rattle.rules.specs.Rules.{Rules}
use Rattle.budget.specs.Cone.{Shrinking}
use Rattle.budget.proofs.Cone.{cone-shrinks}
use Rattle.table.specs.Problem.{plan_for, net_rules}
use Rattle.problem.proofs.Sizes.{few-cells}
use Rattle.problem.proofs.Clocks.{net-bound}
use Rattle.table.proofs.Colours.{problem-colouring, coloured-unlinked}
use Rattle.reach.specs.Reach.{Running, Trailing}
use Rattle.labels.proofs.Ready.{rules-apart, ready-lawful, ready-cells, ready-top}
use Rattle.reach.proofs.Turns.{layer-turn, leap-forth, leap-turn, leap-tables, arrive-turn, drop-turn, both-in, both-ask}
use Rattle.reach.proofs.Trailing.{trail-start, trail-layer, trail-leap, trail-arrive, trail-drop, trail-sound, span-loaded}
use Rattle.reach.proofs.layers.run_span.Invariants.{inside, Turning}
use Rattle.reach.proofs.layers.run_span.Goals as goal
use Rattle.reach.proofs.layers.run_span.Goals.{After-arrive_both-next, After-period, At-loop-u, Joined-active-eq0, then-active-eq0, else-active-eq0}

abbrev R : At-loop-u → Rules
R a = net_rules a.args.net a.args.plan.now

abbrev cells : At-loop-u → ℕ
cells a = length a.args.plan.now

abbrev cone : At-loop-u → ℕ → ℕ → Bool
cone a = inside a.args.net a.args.cell a.args.steps

narrows : (a : At-loop-u) → Shrinking (R a) (cone a)
narrows a = cone-shrinks (R a) _ _ (rules-apart a.args.net a.args.plan.now a.args.cell)

few : (a : At-loop-u) → cells a ≤ 1024
few a = few-cells _ _ a.requires.ready.ready

-- what a closing delay stays below
top-is : (a : At-loop-u) → 2 * a.period.result + 1 ≡ (R a).bound 0 a.args.side
top-is a =
    omega (arith, a.period.ensures, net-bound a.args.net a.args.plan.now 0 a.args.side)

-- at the loop's head
head : (a : At-loop-u) → let s = a.args in Turning s.net s.plan.now s.side s.count s.exits s.cell s.weight s.steps s.scratch.now a.loop-u.scratch a.loop-u.u a.loop-u.active a.loop-u.at a.loop-u.exit a.loop-u.trail
head a = a.loop-u.invariant.1 a.args.scratch.now a.start_span-span.ensures

-- u has grown
forth : (j : Joined-active-eq0) → (j.loop-u.u < j.if-active-eq0.u) × (j.if-active-eq0.u ≤ j.args.steps)
forth j =
    let a : At-loop-u = (goal.at.Joined-active-eq0 j).At-loop-u in
    elim j.if-active-eq0.branch [
      | then-active-eq0 w ↦ omega (arith, w.u-is, w.next_both-u.ensures.within, leap-forth (R a) _ _ _ _ _ _ _ _ _ _ _ _ (head a).0 (ready-lawful _ _ j.requires.ready) (ready-cells _ _ j.requires.ready) (narrows a) w.if-active-eq0.true j.args.steps _ (omega (arith, j.loop-u-test.true)) w.next_both-u.ensures)
      | else-active-eq0 w ↦ omega (arith, w.u-is, j.loop-u-test.true)
    ]

-- before the arrivals
middle : (j : Joined-active-eq0) (old : List ℕ) → let a = (goal.at.Joined-active-eq0 j).At-loop-u in let s = j.args in Turning s.net s.plan.now s.side s.count s.exits s.cell s.weight s.steps old j.loop-u.scratch j.loop-u.u j.loop-u.active j.loop-u.at j.loop-u.exit j.loop-u.trail → Running (R a) (cells a) s.side s.weight (cone a) old j.if-active-eq0.scratch j.if-active-eq0.u j.if-active-eq0.active j.loop-u.at s.count j.loop-u.exit s.exits × Trailing (R a) (cells a) s.side s.weight s.exits (cone a) old j.if-active-eq0.scratch j.if-active-eq0.u j.if-active-eq0.trail
middle j old g =
    let a : At-loop-u = (goal.at.Joined-active-eq0 j).At-loop-u in
    let law = ready-lawful _ _ j.requires.ready in
    let size = ready-cells _ _ j.requires.ready in
    elim j.if-active-eq0.branch [
      | then-active-eq0 w ↦
          let before : j.loop-u.u < j.args.steps = omega (arith, j.loop-u-test.true) in
          rw (w.scratch-is, w.u-is, w.active-is, w.trail-is) (
            leap-turn (R a) _ _ _ _ _ _ _ _ _ _ _ _ g.0 law size (narrows a) w.if-active-eq0.true j.args.steps _ before w.next_both-u.ensures,
            trail-leap (R a) _ _ _ _ _ _ _ _ _ g.1 _ (omega (arith, leap-forth (R a) _ _ _ _ _ _ _ _ _ _ _ _ g.0 law size (narrows a) w.if-active-eq0.true j.args.steps _ before w.next_both-u.ensures))
                (leap-tables (R a) _ _ _ _ _ _ _ _ _ _ _ _ g.0 law size (narrows a) w.if-active-eq0.true j.args.steps _ before w.next_both-u.ensures),
          )
      | else-active-eq0 w ↦
          let made = rw (w.stamped.ensures, top-is a) at w.next_layer-grown.ensures in
          let f = layer-turn (R a) _ _ _ _ _ _ _ _ _ _ _ _ g.0 law size (narrows a) _ _ _ made in
          rw (w.scratch-is, w.u-is, w.active-is, w.trail-is) (f, trail-layer (R a) _ _ _ _ _ _ _ _ _ g.1 _ _ made f.table)
    ]

-- the period is at most 30,000
small : (c : After-period) → 2 * c.period.result + 1 ≤ 60001
small c =
    omega (arith, c.period.ensures, ready-top c.args.net c.args.plan.now c.requires.ready c.args.side)

pub overflow_mul-top : goal.overflow_mul-top
overflow_mul-top c = omega (arith, small c)

pub overflow_add-top : goal.overflow_add-top
overflow_add-top c = omega (arith, small c)

pub start_span-span-requires : goal.start_span-span-requires
start_span-span-requires c =
    let pre = c.requires in
    record {
      ready = pre.ready;
      room = pre.room;
      exits_in = pre.exits_in;
      ordered = pre.held.ordered;
      exits_ordered = pre.held.exits_ordered;
      in_step = pre.in_step;
      past = pre.held.past;
    }

pub new_trail-trail-requires : goal.new_trail-trail-requires
new_trail-trail-requires c =
    (omega (arith, c.requires.ready.ready.source), few-cells _ _ c.requires.ready.ready)

pub loop-u-init : goal.loop-u-init
loop-u-init c =
    (omega arith, λ old f. (f.current _ _, trail-start _ _ _ _ _ _ _ _ _ c.new_trail-trail.ensures f.empty))

pub next_both-u-requires : goal.next_both-u-requires
next_both-u-requires c =
    let f = (head (goal.at.next_both-u-requires c).At-loop-u).0.reaching in
    both-in (R (goal.at.next_both-u-requires c).At-loop-u) _ _ _ _ _ _ _ _ _ _ _ _ f (few (goal.at.next_both-u-requires c).At-loop-u) (omega (arith, f.same, c.requires.room)) (λ h. omega (arith, f.same, c.requires.exits_in h))

pub next_layer-grown-requires : goal.next_layer-grown-requires
next_layer-grown-requires c =
    let f = (head (goal.at.next_layer-grown-requires c).At-loop-u).0.reaching in
    (c.requires.ready, (omega (arith, f.same, c.requires.room), (f.list.listed, (rw c.stamped.ensures (trail-sound (R (goal.at.next_layer-grown-requires c).At-loop-u) _ _ _ _ _ _ _ _ _ (head (goal.at.next_layer-grown-requires c).At-loop-u).1), (coloured-unlinked (problem-colouring c.args.net c.args.plan.now) f.coloured, c.requires.costed)))))

pub arrive_both-next-requires : goal.arrive_both-next-requires
arrive_both-next-requires c =
    let f = (middle (goal.at.arrive_both-next-requires c).Joined-active-eq0 c.args.scratch.now (head (goal.at.arrive_both-next-requires c).At-loop-u)).0 in
    both-ask (R (goal.at.arrive_both-next-requires c).At-loop-u) _ _ _ _ _ _ _ _ _ _ _ _ f (few (goal.at.arrive_both-next-requires c).At-loop-u) (omega (arith, f.same, c.requires.room)) (λ h. omega (arith, f.same, c.requires.exits_in h))

-- after them
later : (b : After-arrive_both-next) (old : List ℕ) → let s = b.args in Turning s.net s.plan.now s.side s.count s.exits s.cell s.weight s.steps old b.loop-u.scratch b.loop-u.u b.loop-u.active b.loop-u.at b.loop-u.exit b.loop-u.trail → Turning s.net s.plan.now s.side s.count s.exits s.cell s.weight s.steps old b.arrive_both-next.new.scratch b.if-active-eq0.u b.arrive_both-next.result.active b.arrive_both-next.result.at b.arrive_both-next.result.exit b.if-active-eq0.trail
later b old g =
    let a : At-loop-u = (goal.at.After-arrive_both-next b).At-loop-u in
    let m = middle (goal.at.After-arrive_both-next b).Joined-active-eq0 old g in
    let come = rw b.no_idle.ensures at b.arrive_both-next.ensures in
    (arrive-turn (R a) _ _ _ _ _ _ _ _ _ _ _ _ m.0 _ _ _ _ come, trail-arrive (R a) _ _ _ _ _ _ _ _ _ m.1 _ come)

pub drop_outside-active-requires : goal.drop_outside-active-requires
unfolding plan_for
drop_outside-active-requires c =
    let ready = c.requires.ready.ready in
    let f = (later (goal.at.drop_outside-active-requires c).After-arrive_both-next c.args.scratch.now (head (goal.at.drop_outside-active-requires c).At-loop-u)).0.reaching in
    record {
      listed = f.list.listed;
      wide = ready.sized.wide;
      narrow = ready.sized.narrow;
      low = ready.sized.low;
      few = few (goal.at.drop_outside-active-requires c).At-loop-u;
      room = omega (arith, f.same, c.requires.room);
    }

pub loop-u-smaller : goal.loop-u-smaller
loop-u-smaller c = omega (arith, forth (goal.at.loop-u-smaller c).Joined-active-eq0)

pub loop-u-preserved : goal.loop-u-preserved
loop-u-preserved c =
    let dropped = c.drop_outside-active.ensures in (
      omega (arith, forth (goal.at.loop-u-preserved c).Joined-active-eq0),
      λ old f.
          let m = later (goal.at.loop-u-preserved c).After-arrive_both-next old (c.loop-u.invariant.1 old f) in
          (drop-turn (R (goal.at.loop-u-preserved c).At-loop-u) _ _ _ _ _ _ _ _ _ _ _ _ m.0 _ _ dropped, trail-drop (R (goal.at.loop-u-preserved c).At-loop-u) _ _ _ _ _ _ _ _ _ m.1 _ dropped),
    )

pub shape_of-scratch : goal.shape_of-scratch
shape_of-scratch c = (head (goal.at.shape_of-scratch c).At-loop-u).0.reaching.same

pub returns : goal.returns
unfolding plan_for
returns c =
    span-loaded (R (goal.at.returns c).At-loop-u) _ _ _ _ _ c.args.net.problem.width c.args.cell c.requires.ready.ready.sized.wide (rules-apart c.args.net c.args.plan.now c.args.cell) _ _ _ _ _ _ _ _ (head (goal.at.returns c).At-loop-u).0 (head (goal.at.returns c).At-loop-u).1 (omega arith)
