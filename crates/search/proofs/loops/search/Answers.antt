use Prim.Native.Nat.{ℕ, ◌≤◌, ◌<◌}
use mathlib.Core.Path.{◌≡◌, refl, ◌∙◌}
use mathlib.Core.Logic.{◌⊎◌, inl, inr}
use native.Mathlib.Omega.{arith}
use Rattle.plan.proofs.Truth.{split}
use lib.ListN.{length}
use Rattle.table.specs.Problem.{net_rules}
use Rattle.problem.proofs.Sizes.{few-cells}
use Rattle.problem.proofs.Clocks.{net-source, net-fifos}
use Rattle.labels.proofs.Labels.{ordered-count}
use Rattle.labels.proofs.Ready.{ready-lawful}
use Rattle.search.specs.Front.{Waiting}
use Rattle.search.specs.Turn.{Beyond}
use Rattle.search.specs.Search.{Sourced}
use Rattle.search.proofs.Total.{total-fits}
use Rattle.search.proofs.Fronts.{waiting-asks, start-front, arrive-front}
use Rattle.search.proofs.Ends.{ends-with, goes_on, advances, beyond-then, beyond-kept}
use Rattle.search.proofs.loops.search.Goals as goal
use Rattle.search.proofs.loops.search.Goals.{After-label_source-count, After-slice_known-in-Continue-1, After-take_turn}

few-exits : (exits : ℕ) → (0 < exits → exits ≤ 1024) → exits ≤ 1024
few-exits exits h = go (split 1 exits)
  where
    go : (1 ≤ exits) ⊎ (exits < 1) → exits ≤ 1024
    go (inl q) = h q
    go (inr q) = omega arith

pub label_source-count-requires : goal.label_source-count-requires
label_source-count-requires c =
    (c.requires.1.1.0, (few-cells _ _ c.requires.0.ready, (omega (arith, c.requires.1.0), c.requires.0.ready.source)))

-- the start of the search
starts : (c : After-label_source-count) → Waiting (net_rules c.args.net c.args.plan.now) (length c.args.plan.now) c.args.side c.args.exits c.label_source-count.new.scratch 0 0 0 0 c.label_source-count.result 0 0
starts c =
    let a : Sourced (length c.args.plan.now) c.args.side (net_rules c.args.net c.args.plan.now).fifos (net_rules c.args.net c.args.plan.now).source c.args.scratch.now c.label_source-count.new.scratch c.label_source-count.result = rw (net-fifos c.args.net c.args.plan.now, net-source c.args.net c.args.plan.now) c.label_source-count.ensures in
    start-front (ready-lawful _ _ c.requires.0) c.requires.1.1.0 c.requires.1.1.1.0 a

pub idle_gates-idle-requires : goal.idle_gates-idle-requires
idle_gates-idle-requires c = (c.requires.0.ready.valid, c.requires.1.1.1.1)

pub arrive_both-a-requires : goal.arrive_both-a-requires
arrive_both-a-requires c =
    let a = c.label_source-count.ensures in
    waiting-asks (starts (goal.at.arrive_both-a-requires c).After-label_source-count) (few-cells _ _ c.requires.0.ready) (omega (arith, c.requires.1.0, a.same)) (λ h. omega (arith, c.requires.1.1.1.0.exits_in h, a.same))

pub loop-reached-init : goal.loop-reached-init
loop-reached-init c =
    (arrive-front (ready-lawful _ _ c.requires.0) (starts (goal.at.loop-reached-init c).After-label_source-count) (c.idle_gates-idle.ensures.right _) c.arrive_both-a.ensures, (refl, beyond-kept (λ i h. refl)))

pub take_turn-requires : goal.take_turn-requires
take_turn-requires c =
    let a = c.label_source-count.ensures in
    let b = c.arrive_both-a.ensures in
    let same = c.loop-reached.invariant.1.0 in
    let asks = c.requires.1.1.1.0 in
    record {
      ready = c.requires.0;
      room = omega (arith, c.requires.1.0, a.same, b.same, same);
      costed = c.requires.1.1.1.1;
      side_in = omega (arith, asks.within, net-fifos c.args.net c.args.plan.now);
      exits_in = λ h. omega (arith, asks.exits_in h, a.same, b.same, same);
      watch_in = λ h. omega (arith, asks.watch_in h, a.same, b.same, same);
      front = c.loop-reached.invariant.0;
    }

-- the words since the start
since : (c : After-take_turn) → (length c.take_turn.new.scratch ≡ length c.args.scratch.now) × Beyond (length c.args.plan.now) c.args.side c.args.scratch.now c.take_turn.new.scratch
since c =
    let turn = c.take_turn.ensures in
    let loop = c.loop-reached.invariant in
    let come = c.arrive_both-a.ensures in
    let source = c.label_source-count.ensures in
    (turn.same ∙ (loop.1.0 ∙ (come.same ∙ source.same)), beyond-then (beyond-kept (λ i h. come.high i h ∙ source.high i (omega arith))) (beyond-then loop.1.1 turn.beyond))

pub shape_of-scratch-in-Break : goal.shape_of-scratch-in-Break
shape_of-scratch-in-Break c = (since (goal.at.shape_of-scratch-in-Break c).After-take_turn).0

pub returns-in-Break : goal.returns-in-Break
returns-in-Break c =
    let b = since (goal.at.returns-in-Break c).After-take_turn in
    record { same = b.0; beyond = b.1; done = ends-with (rw c.in-Break.is at c.take_turn.ensures.done) }

pub arrive_both-b-requires : goal.arrive_both-b-requires
arrive_both-b-requires c =
    let same = (since (goal.at.arrive_both-b-requires c).After-take_turn).0 in
    waiting-asks (goes_on (rw c.in-Continue.is at c.take_turn.ensures.done)).0 (few-cells _ _ c.requires.0.ready) (omega (arith, c.requires.1.0, same)) (λ h. omega (arith, c.requires.1.1.1.0.exits_in h, same))

pub loop-reached-smaller : goal.loop-reached-smaller
loop-reached-smaller c =
    let g = goes_on (rw c.in-Continue.is at c.take_turn.ensures.done) in
    let a = c.arrive_both-b.ensures in
    let few = few-cells _ _ c.requires.0.ready in
    omega (
      arith,
      advances g.1 a,
      total-fits (length c.args.plan.now) c.arrive_both-b.new.scratch few (λ i. (c.slice_known-in-Continue-1.given i).fits),
      a.near.within,
      ordered-count g.0.standing.near.ordered,
      a.far.within,
      exits-few (goal.at.loop-reached-smaller c).After-slice_known-in-Continue-1,
      few,
    )
  where
    exits-few : (c : After-slice_known-in-Continue-1) → c.args.exits ≤ 1024
    exits-few c = few-exits c.args.exits (λ h. omega (arith, ordered-count (c.requires.1.1.1.0.ordered h), few-cells _ _ c.requires.0.ready))

pub loop-reached-preserved : goal.loop-reached-preserved
loop-reached-preserved c =
    let turn = c.take_turn.ensures in
    let loop = c.loop-reached.invariant in
    let g = goes_on (rw c.in-Continue.is at turn.done) in
    let a = c.arrive_both-b.ensures in
    (arrive-front (ready-lawful _ _ c.requires.0) g.0 (c.idle_gates-idle.ensures.right _) a, (a.same ∙ (turn.same ∙ loop.1.0), beyond-then loop.1.1 (beyond-then turn.beyond (beyond-kept a.high))))
