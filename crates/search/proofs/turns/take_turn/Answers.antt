-- `search::turns::take_turn` meets its contract, by the cases of proofs/TakeTurn.
use Prim.Native.Nat.{◌+◌, ◌≤◌, ◌<◌}
use mathlib.Core.Path.{◌≡◌, refl}
use mathlib.Core.Logic.{inl, inr}
use native.Mathlib.Omega.{arith}
use lib.ListN.{length}
use Rattle.trail.specs.Trail.{no_trail}
use Rattle.trail.proofs.History.{sound_none}
use Rattle.table.specs.Problem.{net_rules}
use Rattle.table.specs.Layer.{Layered}
use Rattle.table.proofs.Colours.{problem-colouring, coloured-unlinked}
use Rattle.lists.proofs.Lists.{listed_kept}
use Rattle.problem.proofs.Sizes.{few-cells}
use Rattle.problem.proofs.Clocks.{net-bound, net-weight, net-fifos, net-sink, net-start-load, net-start-delay}
use Rattle.labels.proofs.Labels.{set-in, set_apart, exits-in, exits-apart}
use Rattle.labels.proofs.Ready.{ready-lawful, ready-cells, ready-top, ready-short}
use Rattle.search.proofs.Layers.{layer-near, layer-far, layer-came}
use Rattle.search.proofs.TakeTurn.{turn-quiet, turn-sink, turn-before, turn-watch, turn-grown}
use Rattle.search.proofs.turns.take_turn.Goals as goal
use Rattle.search.proofs.turns.take_turn.Goals.{After-next_layer-active, After-weight, Else-active-eq0}

pub overflow_mul-top : goal.overflow_mul-top
overflow_mul-top c = omega (arith, c.period.ensures, ready-top _ _ c.requires.ready c.args.side)

pub overflow_add-top : goal.overflow_add-top
overflow_add-top c = omega (arith, c.period.ensures, ready-top _ _ c.requires.ready c.args.side)

pub next_layer-active-requires : goal.next_layer-active-requires
next_layer-active-requires c =
    (c.requires.ready, (c.requires.room, (c.requires.front.waiting.standing.list.listed, (rw c.no_trail.ensures (sound_none _ _ no_trail refl refl (omega arith) (omega arith)), (coloured-unlinked (problem-colouring c.args.net c.args.plan.now) c.requires.front.waiting.standing.coloured, c.requires.costed)))))

-- the layer, made without a trail, by this side's bound
made : (c : After-next_layer-active) → Layered (net_rules c.args.net c.args.plan.now) (length c.args.plan.now) ((net_rules c.args.net c.args.plan.now).bound 0 c.args.side) no_trail c.args.scratch.now c.next_layer-active.new.scratch c.next_layer-active.result
made c =
    rw (net-bound c.args.net c.args.plan.now 0 c.args.side) (rw (c.no_trail.ensures, c.period.ensures) at c.next_layer-active.ensures)

pub after_quiet-requires : goal.after_quiet-requires
after_quiet-requires c =
    let r = c.requires.ready in
    let l = made (goal.at.after_quiet-requires c).After-next_layer-active in
    let near = layer-near (ready-lawful _ _ r) (ready-cells _ _ r) c.requires.front l in
    let far = layer-far (ready-lawful _ _ r) (ready-cells _ _ r) c.requires.front l in
    record {
      few = few-cells _ _ r.ready;
      room = omega (arith, l.same, c.requires.room);
      near = near.ordered;
      at_count = near.at_count;
      within = far.within;
      exits_in = λ h. omega (arith, l.same, c.requires.exits_in h);
      far = λ h. (far.queue h).ordered;
    }

pub returns-then-active-eq0 : goal.returns-then-active-eq0
returns-then-active-eq0 c =
    let r = c.requires.ready in
    turn-quiet (ready-lawful _ _ r) (ready-cells _ _ r) c.requires.front (made (goal.at.returns-then-active-eq0 c).After-next_layer-active) c.if-active-eq0.true _ c.after_quiet.ensures

-- a layer that grew: its weight and steps are small
short : (c : Else-active-eq0) → (c.args.f.steps < 134348800) × ((net_rules c.args.net c.args.plan.now).weight c.args.side + c.args.f.weight ≤ 61500000)
short c =
    let r = c.requires.ready in
    ready-short _ _ r c.args.side (omega (arith, c.requires.side_in, net-fifos c.args.net c.args.plan.now)) c.args.f.weight (layer-came (ready-lawful _ _ r) (ready-cells _ _ r) c.requires.front (made (goal.at.Else-active-eq0 c).After-next_layer-active) (omega (arith, c.if-active-eq0.false)))

pub overflow_add-steps : goal.overflow_add-steps
overflow_add-steps c = omega (arith, short (goal.at.overflow_add-steps c).Else-active-eq0)

pub at_sink-requires : goal.at_sink-requires
at_sink-requires c =
    (c.requires.ready.ready.valid.register, omega (arith, c.requires.ready.ready.sink, c.requires.room, (made (goal.at.at_sink-requires c).After-next_layer-active).same))

pub returns-then-at_sink : goal.returns-then-at_sink
returns-then-at_sink c =
    let r = c.requires.ready in
    let net = c.args.net in
    let marks = c.args.plan.now in
    turn-sink (ready-lawful _ _ r) (ready-cells _ _ r) c.requires.front (made (goal.at.returns-then-at_sink c).After-next_layer-active) (c.at_sink.ensures.yes c.if-at_sink.true)
    (rw (net-start-delay net marks, net-sink net marks, net-start-load net marks) (c.at_sink.ensures.comes c.if-at_sink.true (length marks) r.ready.sink))

-- the weight of the new labels
weighs : (c : After-weight) → c.args.f.weight + c.weight.result ≡ (net_rules c.args.net c.args.plan.now).weight c.args.side + c.args.f.weight
weighs c = omega (arith, c.weight.ensures, net-weight c.args.net c.args.plan.now c.args.side)

pub overflow_add-weight : goal.overflow_add-weight
overflow_add-weight c = omega (arith, weighs (goal.at.overflow_add-weight c).After-weight, short (goal.at.overflow_add-weight c).Else-active-eq0)

pub overflow_mul-n : goal.overflow_mul-n
overflow_mul-n c = omega (arith, few-cells _ _ c.requires.ready.ready)

pub label_active-count-requires : goal.label_active-count-requires
label_active-count-requires c =
    let r = c.requires.ready in
    let l = made (goal.at.label_active-count-requires c).After-next_layer-active in (
      record {
        ready = r;
        gate = inl refl;
        room = omega (arith, l.same, c.requires.room);
        ordered = (layer-near (ready-lawful _ _ r) (ready-cells _ _ r) c.requires.front l).ordered;
        last = turn-before (ready-lawful _ _ r) (ready-cells _ _ r) c.requires.front l _ (weighs (goal.at.label_active-count-requires c).After-weight);
        few = omega (arith, weighs (goal.at.label_active-count-requires c).After-weight, short (goal.at.label_active-count-requires c).Else-active-eq0);
        set_in = set-in _ _ (few-cells _ _ r.ready) (omega (arith, l.same, c.requires.room));
        apart = set_apart _;
      },
      l.listed,
    )

pub watch-watched-requires : goal.watch-watched-requires
watch-watched-requires c =
    let r = c.requires.ready in
    let l = made (goal.at.watch-watched-requires c).After-next_layer-active in
    let added = c.label_active-count.ensures in
    record {
      few = few-cells _ _ r.ready;
      label = λ h.
          let v = turn-watch (ready-lawful _ _ r) (ready-cells _ _ r) c.requires.front l _ (weighs (goal.at.watch-watched-requires c).After-weight) added h in
          record {
            ready = r;
            gate = inr (refl, omega (arith, c.requires.side_in));
            room = omega (arith, added.same, l.same, c.requires.room);
            ordered = v.0;
            last = v.1;
            few = omega (arith, weighs (goal.at.watch-watched-requires c).After-weight, short (goal.at.watch-watched-requires c).Else-active-eq0);
            set_in = exits-in _ _ (few-cells _ _ r.ready) (omega (arith, added.same, l.same, c.requires.watch_in h));
            apart = exits-apart _;
          };
      listed = listed_kept l.listed _ (λ i h. added.high _ (omega arith)) (λ i h. added.high _ (omega arith));
    }

pub returns : goal.returns
returns c =
    let r = c.requires.ready in
    let net = c.args.net in
    let marks = c.args.plan.now in
    turn-grown (ready-lawful _ _ r) (ready-cells _ _ r) c.requires.front (made (goal.at.returns c).After-next_layer-active) _ (weighs (goal.at.returns c).After-weight) (omega (arith, c.if-active-eq0.false))
    (λ e. rw (net-start-delay net marks, net-sink net marks, net-start-load net marks) (c.at_sink.ensures.not_yet c.if-at_sink.false e (length marks) r.ready.sink))
    c.label_active-count.ensures c.watch-watched.ensures
