use Prim.Native.Nat.{ℕ, ◌≤◌}
use mathlib.Core.Path.{refl, ◌∙◌}
use mathlib.Core.List.{List}
use mathlib.Core.Logic.{inl, inr}
use native.Mathlib.Omega.{arith}
use lib.Dec.{T}
use lib.ListN.{length}
use mir.Facts.{to_z-of_z}
use mir.Syntax.{w32}
use Rattle.rules.specs.Rules.{Rules, rules_of}
use Rattle.rules.specs.Crossing.{rules_between}
use Rattle.timing.specs.Formulas.{register_load, setup_delay}
use Rattle.budget.proofs.Colours.{label-in-step}
use Rattle.table.specs.Problem.{net_rules, budget_of}
use Rattle.problem.proofs.Sizes.{few-cells}
use Rattle.labels.specs.Labels.{labels_for}
use Rattle.labels.proofs.Ready.{ready-lawful}
use Rattle.choice.specs.Choice.{FirstVisit}
use Rattle.emission.specs.Emission.{RoomOrNone, Emitting}
use Rattle.emission.proofs.Visits.{emit-start, emit-next, emit-nothing, emit-done, pass-room, chosen-visit}
use Rattle.emission.proofs.emit.Goals as goal
use Rattle.emission.proofs.emit.Goals.{At-loop-at, In-Some, else-loop-at-test, then-loop-at-test+in_default}

-- the entry, and what the loop keeps at its head

abbrev R : At-loop-at → Rules
R a = net_rules a.args.net a.args.plan.now

head : (a : At-loop-at) → Emitting (R a) (length a.args.plan.now) a.args.weight a.args.steps a.args.aside a.args.scratch.now a.loop-at.scratch a.args.visits.now a.loop-at.visits a.loop-at.at a.loop-at.layers a.loop-at.i a.loop-at.left a.loop-at.tally
head a = a.loop-at.invariant a.args.visits.now a.put_visit.ensures

-- room for fewer words, or none
narrower : {m n lent : ℕ} → RoomOrNone m lent → n ≤ m → RoomOrNone n lent
narrower (inl h) k = inl (omega arith)
narrower (inr h) k = inr h

pub put_visit-requires : goal.put_visit-requires
put_visit-requires c =
    record { cell_fits = omega (arith, c.requires.ready.ready.sink, few-cells _ _ c.requires.ready.ready); place_fits = omega arith; fits = narrower c.requires.fits (omega arith) }

pub start_delay-requires : goal.start_delay-requires
start_delay-requires c = c.requires.ready.ready.valid.register

pub loop-at-init : goal.loop-at-init
unfolding net_rules rules_between rules_of register_load setup_delay
loop-at-init c = λ v q.
    let x = c.requires.reaching in
    let w = c.requires.ready.ready.valid.register in
    rw (q, c.no_layers-layers.ensures)
    (emit-start _ (ready-lawful _ _ c.requires.ready) _ _ _ _ _ v x.before _ _ refl c.load.ensures c.start_delay.ensures refl refl refl refl
    (record {
      in_plan = c.requires.ready.ready.sink;
      light = omega (arith, c.load.ensures, w.load);
      early = omega (arith, c.start_delay.ensures, w.setup);
    })
    x c.requires.ahead)

pub overflow_sub-at : goal.overflow_sub-at
overflow_sub-at c = omega (arith, c.loop-at-test.true)

pub load_layer-layers-requires : goal.load_layer-layers-requires
load_layer-layers-requires c =
    record {
      ready = c.requires.ready;
      costed = c.requires.costed;
      room = omega (arith, c.requires.room, (head (goal.at.load_layer-layers-requires c).At-loop-at).same);
      exits_in = λ h. omega (arith, ((head (goal.at.load_layer-layers-requires c).At-loop-at).ahead h).1.room);
      held = (head (goal.at.load_layer-layers-requires c).At-loop-at).held;
      in_step = label-in-step (ready-lawful _ _ c.requires.ready) (head (goal.at.load_layer-layers-requires c).At-loop-at).labels;
    }

pub choose-requires : goal.choose-requires
choose-requires c =
    let l = c.load_layer-layers.ensures in
    record {
      ready = c.requires.ready;
      room = omega (arith, c.requires.room, (head (goal.at.choose-requires c).At-loop-at).same, l.same);
      exits_in = λ h. omega (arith, ((head (goal.at.choose-requires c).At-loop-at).ahead h).1.room, l.same);
      in_range = (head (goal.at.choose-requires c).At-loop-at).in_range;
      more = omega (arith, c.loop-at-test.true);
      few = omega (arith, (head (goal.at.choose-requires c).At-loop-at).sides);
    }

-- the visit that was chosen
abbrev words : In-Some → List ℕ
words c = c.load_layer-layers.new.scratch

chosen : (c : In-Some) → FirstVisit (R (goal.at.In-Some c).At-loop-at) (length c.args.plan.now) (labels_for (length c.args.plan.now) c.loop-at.left.exits (words c)) (budget_of (length c.args.plan.now) (words c)) c.loop-at.at (λ cell. T ((R (goal.at.In-Some c).At-loop-at).linked c.loop-at.at.cell cell)) c.in-Some.visit.code c.in-Some.visit.state
chosen c =
    chosen-visit (rw c.in-Some.is at c.choose.ensures)

pub put_visit-requires-in-loop-at : goal.put_visit-requires-in-loop-at
put_visit-requires-in-loop-at c =
    let e = head (goal.at.put_visit-requires-in-loop-at c).At-loop-at in
    record {
      cell_fits = omega (arith, (chosen (goal.at.put_visit-requires-in-loop-at c).In-Some).in_range.in_plan, few-cells _ _ c.requires.ready.ready);
      place_fits = omega (arith, e.placed, e.whole, c.ranges.steps.fits);
      fits = rw e.kept (narrower c.requires.fits (omega (arith, e.placed, e.whole, c.loop-at-test.true)));
    }

pub pass-left-requires : goal.pass-left-requires
pass-left-requires c =
    record {
      few = few-cells _ _ c.requires.ready.ready;
      room = pass-room _ (ready-lawful _ _ c.requires.ready) _ _ _ _ _ _ _ _ _ _ _ _ _ (head (goal.at.pass-left-requires c).At-loop-at) (omega (arith, c.loop-at-test.true)) _ _ c.load_layer-layers.ensures _ _ (chosen (goal.at.pass-left-requires c).In-Some);
    }

pub tallied-tally-requires : goal.tallied-tally-requires
tallied-tally-requires c =
    let e = head (goal.at.tallied-tally-requires c).At-loop-at in
    omega (arith, e.counted, e.whole, c.ranges.steps.fits, c.loop-at-test.true)

pub overflow_add-i : goal.overflow_add-i
overflow_add-i c =
    let e = head (goal.at.overflow_add-i c).At-loop-at in
    omega (arith, e.placed, e.whole, c.ranges.steps.fits, c.loop-at-test.true)

pub loop-at-smaller : goal.loop-at-smaller
loop-at-smaller c =
    omega (arith, (chosen (goal.at.loop-at-smaller c).In-Some).steps, c.loop-at-test.true)

pub loop-at-preserved : goal.loop-at-preserved
loop-at-preserved c = λ v q.
    rw (c.put_visit-in-loop-at.ensures, c.pass-left.ensures.1, c.tallied-tally.ensures)
    (emit-next _ (ready-lawful _ _ c.requires.ready) _ _ _ _ _ v _ _ _ _ _ _ _ (c.loop-at.invariant v q) (omega (arith, c.loop-at-test.true)) _ _ c.load_layer-layers.ensures _ _ (chosen (goal.at.loop-at-preserved c).In-Some) _ c.pass-left.ensures.0)

pub returns : goal.returns
returns c =
    let figure = to_z-of_z {w = w32} {z = c.loop-at.at.slack} (record { sfits = c.struct_told-1.given.1.1.1.1.1.0.1 }) in
    rw figure
    (elim c.loop-at-test.branch [
      | else-loop-at-test w ↦ rw w.scratch-is (emit-done _ (ready-lawful _ _ c.requires.ready) _ _ _ _ _ _ _ _ _ _ _ _ _ (head (goal.at.returns c).At-loop-at) (omega (arith, w.loop-at-test.false)))
      | then-loop-at-test+in_default w ↦ absurd
          (emit-nothing _ (ready-lawful _ _ c.requires.ready) _ _ _ _ _ _ _ _ _ _ _ _ _ (head (goal.at.returns c).At-loop-at) (omega (arith, w.loop-at-test.true)) _ _ w.load_layer-layers.ensures (rw w.in_default.is at w.choose.ensures))
    ])
