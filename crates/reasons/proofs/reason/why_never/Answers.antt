-- Each pass is told of its own tables; the order of the tests makes the reason of what they told.
use mathlib.Core.Path.{sym, ◌∙◌}
use mathlib.Core.Bool.{true, false}
use native.Mathlib.Omega.{arith}
use lib.ListN.{length}
use Rattle.timing.specs.Relaxed.{relaxed}
use Rattle.timing.proofs.Relaxed.{relaxed-valid}
use Rattle.rules.specs.Rules.{rules_of}
use Rattle.problem.specs.Problem.{plan_for}
use Rattle.reasons.specs.Reasons.{routed}
use Rattle.reasons.specs.Probe.{Told, smallest_for, reason_of}
use Rattle.reasons.proofs.Order.{light-routed}
use Rattle.reasons.proofs.Values.{reason-walled, reason-load, reason-short}
use Rattle.reasons.proofs.reason.why_never.Goals as goal
use Rattle.reasons.proofs.reason.why_never.Goals.{After-exists_with, After-exists_with-2}

-- what each pass told, and what both left

untimed : (c : After-exists_with) → Told (routed (rules_of (plan_for c.args.p c.args.plan.now) (relaxed true c.args.p.elements) c.args.p.source c.args.p.sink)) (length c.args.plan.now) c.args.scratch.now c.exists_with.new.scratch c.exists_with.result
untimed c =
    let done = c.exists_with.ensures in
    record { told = rw c.relaxed.ensures at done.told; same = done.same; rest = done.rest }

bare : (c : After-exists_with-2) → Told (routed (rules_of (plan_for c.args.p c.args.plan.now) (relaxed false c.args.p.elements) c.args.p.source c.args.p.sink)) (length c.args.plan.now) c.args.scratch.now c.exists_with-2.new.scratch c.exists_with-2.result
bare c =
    let done = c.exists_with-2.ensures in
    let was = untimed (goal.at.After-exists_with-2 c).After-exists_with in
    record { told = rw c.relaxed-2.ensures at done.told; same = done.same ∙ was.same; rest = λ k h. done.rest k h ∙ was.rest k h }

pub exists_with-requires : goal.exists_with-requires
exists_with-requires c =
    (c.requires.0, (c.requires.1.0, rw c.relaxed.ensures (relaxed-valid true _ c.requires.0.valid)))

pub shape_of-scratch-then-exists_with : goal.shape_of-scratch-then-exists_with
shape_of-scratch-then-exists_with c = (untimed (goal.at.shape_of-scratch-then-exists_with c).After-exists_with).same

pub returns-then-exists_with : goal.returns-then-exists_with
unfolding reason_of smallest_for
returns-then-exists_with c =
    let was = untimed (goal.at.returns-then-exists_with c).After-exists_with in
    let light = sym was.told ∙ c.if-exists_with.true in
    record {
      told = sym (reason-short _ _ _ _ (light-routed _ _ _ _ c.requires.0.valid light) light c.requires.1.1);
      same = was.same;
      rest = was.rest;
    }

pub exists_with-requires-2 : goal.exists_with-requires-2
exists_with-requires-2 c =
    (c.requires.0, (omega (arith, (untimed (goal.at.exists_with-requires-2 c).After-exists_with).same, c.requires.1.0), rw c.relaxed-2.ensures (relaxed-valid false _ c.requires.0.valid)))

pub shape_of-scratch-then-exists_with-2 : goal.shape_of-scratch-then-exists_with-2
shape_of-scratch-then-exists_with-2 c = (bare (goal.at.shape_of-scratch-then-exists_with-2 c).After-exists_with-2).same

pub returns-then-exists_with-2 : goal.returns-then-exists_with-2
unfolding reason_of
returns-then-exists_with-2 c =
    let was = bare (goal.at.returns-then-exists_with-2 c).After-exists_with-2 in
    let heavy = sym (untimed (goal.at.returns-then-exists_with-2 c).After-exists_with).told ∙ c.if-exists_with.false in
    record { told = sym (reason-load _ _ _ _ (sym was.told ∙ c.if-exists_with-2.true) heavy); same = was.same; rest = was.rest }

pub shape_of-scratch : goal.shape_of-scratch
shape_of-scratch c = (bare (goal.at.shape_of-scratch c).After-exists_with-2).same

pub returns : goal.returns
unfolding reason_of
returns c =
    let was = bare (goal.at.returns c).After-exists_with-2 in
    record { told = sym (reason-walled _ _ _ _ (sym was.told ∙ c.if-exists_with-2.false)); same = was.same; rest = was.rest }
