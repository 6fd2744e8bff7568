-- 19 where the first search tells of a route, else what `why_none` tells.
use mathlib.Core.Path.{sym, ◌∙◌}
use native.Mathlib.Omega.{arith}
use Rattle.timing.proofs.Relaxed.{own-period}
use Rattle.reasons.specs.Reasons.{routed_at}
use Rattle.reasons.specs.Probe.{routed_for, reason_of, explained_by}
use Rattle.reasons.proofs.Values.{explained-exists, explained-because}
use Rattle.reasons.proofs.reason.searched.Goals as goal

pub exists_with-requires : goal.exists_with-requires
exists_with-requires c = (c.requires.0, (c.requires.1, c.requires.0.valid))

pub shape_of-scratch-then-exists_with : goal.shape_of-scratch-then-exists_with
shape_of-scratch-then-exists_with c = c.exists_with.ensures.same

pub returns-then-exists_with : goal.returns-then-exists_with
unfolding explained_by
returns-then-exists_with c =
    let done = c.exists_with.ensures in
    record { told = sym (explained-exists _ _ _ _ (sym done.told ∙ c.if-exists_with.true)); same = done.same; rest = done.rest }

pub why_none-requires : goal.why_none-requires
unfolding routed_for routed_at
why_none-requires c =
    let done = c.exists_with.ensures in
    (c.requires.0, (omega (arith, done.same, c.requires.1), rw (own-period c.args.p.elements) (sym done.told ∙ c.if-exists_with.false)))

pub shape_of-scratch : goal.shape_of-scratch
shape_of-scratch c =
    c.why_none.ensures.same ∙ c.exists_with.ensures.same

pub returns : goal.returns
unfolding explained_by reason_of
returns c =
    let was = c.exists_with.ensures in
    let done = c.why_none.ensures in
    record {
      told = sym (explained-because _ _ _ _ (sym was.told ∙ c.if-exists_with.false) (sym done.told));
      same = done.same ∙ was.same;
      rest = λ k h. done.rest k h ∙ was.rest k h;
    }
