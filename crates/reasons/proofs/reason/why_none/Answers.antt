-- The search at the longest period tells whether halving finds the smallest, or no period serves.
use mathlib.Core.Bool.{true}
use mathlib.Core.Path.{◌≡◌, sym, ◌∙◌}
use native.Mathlib.Omega.{arith}
use lib.ListN.{length}
use Rattle.timing.specs.Ranges.{period_max}
use Rattle.timing.proofs.Relaxed.{period-valid}
use Rattle.reasons.specs.Reasons.{routed_at}
use Rattle.reasons.specs.Probe.{Told, routed_for, smallest_for, reason_of}
use Rattle.reasons.proofs.Order.{timed-routed, light-routed}
use Rattle.reasons.proofs.Periods.{smallest-most, below-longest, no-smallest}
use Rattle.reasons.proofs.Values.{reason-period}
use Rattle.reasons.proofs.reason.why_none.Goals as goal
use Rattle.reasons.proofs.reason.why_none.Goals.{After-exists_with, Then-exists_with}

-- what the search told, and what it left
at-longest : (c : After-exists_with) → Told (routed_for c.args.p c.args.plan.now period_max) (length c.args.plan.now) c.args.scratch.now c.exists_with.new.scratch c.exists_with.result
unfolding routed_for routed_at
at-longest c =
    let done = c.exists_with.ensures in
    record { told = rw c.at_period.ensures at done.told; same = done.same; rest = done.rest }

pub exists_with-requires : goal.exists_with-requires
exists_with-requires c =
    (c.requires.0, (c.requires.1.0, rw c.at_period.ensures (period-valid _ _ c.requires.0.valid (omega arith) (omega arith))))

-- a route at the longest period
longest : (c : Then-exists_with) → routed_for c.args.p c.args.plan.now period_max ≡ true
longest c = sym (at-longest (goal.at.Then-exists_with c).After-exists_with).told ∙ c.if-exists_with.true

pub smallest_period-period-requires : goal.smallest_period-period-requires
unfolding routed_for
smallest_period-period-requires c =
    let long = longest (goal.at.smallest_period-period-requires c).Then-exists_with in
    let ready = c.requires.0 in
    let own = c.requires.1.1 in
    (ready, (omega (arith, (at-longest (goal.at.smallest_period-period-requires c).After-exists_with).same, c.requires.1.0), (ready.valid.least, (below-longest _ _ _ _ ready.valid _ ready.valid.most own long, (omega arith, (own, long))))))

pub shape_of-scratch-then-exists_with : goal.shape_of-scratch-then-exists_with
shape_of-scratch-then-exists_with c = c.smallest_period-period.ensures.same ∙ (at-longest (goal.at.shape_of-scratch-then-exists_with c).After-exists_with).same

pub returns-then-exists_with : goal.returns-then-exists_with
unfolding reason_of smallest_for routed_for
returns-then-exists_with c =
    let valid = c.requires.0.valid in
    let was = at-longest (goal.at.returns-then-exists_with c).After-exists_with in
    let done = c.smallest_period-period.ensures in
    let long = longest (goal.at.returns-then-exists_with c).Then-exists_with in
    let light = timed-routed _ _ _ _ valid period_max (omega arith) (omega arith) long in
    record {
      told = sym (reason-period _ _ _ _ (light-routed _ _ _ _ valid light) light _ done.told (omega (arith, done.told, smallest-most _ _ _ _ valid long)));
      same = done.same ∙ was.same;
      rest = λ k h. done.rest k h ∙ was.rest k h;
    }

pub why_never-requires : goal.why_never-requires
unfolding routed_for smallest_for
why_never-requires c =
    (c.requires.0, (omega (arith, (at-longest (goal.at.why_never-requires c).After-exists_with).same, c.requires.1.0), no-smallest _ _ _ _ c.requires.0.valid (sym (at-longest (goal.at.why_never-requires c).After-exists_with).told ∙ c.if-exists_with.false)))

pub shape_of-scratch : goal.shape_of-scratch
shape_of-scratch c =
    c.why_never.ensures.same ∙ (at-longest (goal.at.shape_of-scratch c).After-exists_with).same

pub returns : goal.returns
returns c =
    let was = at-longest (goal.at.returns c).After-exists_with in
    let done = c.why_never.ensures in
    record { told = done.told; same = done.same ∙ was.same; rest = λ k h. done.rest k h ∙ was.rest k h }
