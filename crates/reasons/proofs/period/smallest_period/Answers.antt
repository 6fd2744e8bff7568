use Prim.Native.Nat.{◌+◌, ◌*◌, ◌-◌, ◌/◌}
use mathlib.Core.Path.{◌≡◌, refl, sym, ◌∙◌}
use native.Mathlib.Omega.{arith}
use lib.ListN.{length}
use Rattle.timing.proofs.Relaxed.{period-valid}
use Rattle.rows.specs.Words.{KeptFrom}
use Rattle.router.specs.Route.{cell_words}
use Rattle.reasons.specs.Reasons.{routed_at}
use Rattle.reasons.specs.Probe.{routed_for, smallest_for}
use Rattle.reasons.proofs.Periods.{smallest-is}
use Rattle.reasons.proofs.period.smallest_period.Goals as goal
use Rattle.reasons.proofs.period.smallest_period.Goals.{After-exists_with}

pub loop-low-init : goal.loop-low-init
loop-low-init c =
    let pre = c.requires.1.1 in
    ((pre.0, (pre.1.0, pre.1.1.0)), ((pre.1.1.1.0, pre.1.1.1.1), (refl, λ k h. refl)))

pub exists_with-requires : goal.exists_with-requires
exists_with-requires c =
    (c.requires.0, (omega (arith, c.loop-low.invariant.1.1.0, c.requires.1.0), rw c.at_period.ensures (period-valid _ _ c.requires.0.valid (omega arith) (omega arith))))

-- what the search at the middle told, and what it left
at-middle : (c : After-exists_with) → (c.exists_with.result ≡ routed_for c.args.p c.args.plan.now (c.loop-low.low + (c.loop-low.high - c.loop-low.low) / 2))
    × ((length c.exists_with.new.scratch ≡ length c.args.scratch.now) × KeptFrom (length c.args.plan.now * cell_words) c.args.scratch.now c.exists_with.new.scratch)
unfolding routed_for routed_at
at-middle c =
    let inv = c.loop-low.invariant in
    let done = c.exists_with.ensures in
    (rw c.at_period.ensures at done.told, (done.same ∙ inv.1.1.0, λ k h. done.rest k h ∙ inv.1.1.1 k h))

pub loop-low-preserved-then-exists_with : goal.loop-low-preserved-then-exists_with
loop-low-preserved-then-exists_with c =
    let inv = c.loop-low.invariant in
    let middle = at-middle (goal.at.loop-low-preserved-then-exists_with c).After-exists_with in
    (omega arith, ((inv.1.0.0, sym middle.0 ∙ c.if-exists_with.true), middle.1))

pub loop-low-preserved : goal.loop-low-preserved
loop-low-preserved c =
    let inv = c.loop-low.invariant in
    let middle = at-middle (goal.at.loop-low-preserved c).After-exists_with in
    (omega arith, ((sym middle.0 ∙ c.if-exists_with.false, inv.1.0.1), middle.1))

pub shape_of-scratch : goal.shape_of-scratch
shape_of-scratch c = c.loop-low.invariant.1.1.0

pub returns : goal.returns
unfolding routed_for smallest_for
returns c =
    let inv = c.loop-low.invariant in
    record {
      told = smallest-is _ _ _ _ c.requires.0.valid c.loop-low.low c.loop-low.high inv.0.0 (omega arith) inv.0.1.1 inv.1.0.0 inv.1.0.1;
      same = inv.1.1.0;
      rest = inv.1.1.1;
    }
