-- What the pass tells, or where its turns were used up what the searches tell.
use mathlib.Core.Path.{◌∙◌}
use native.Mathlib.Omega.{arith}
use Rattle.reasons.proofs.Passes.{tells_at, tells-never, none-smallest, none-because, first-exists, first-because}
use Rattle.reasons.proofs.reason.explained.Goals as goal

pub first_period-requires : goal.first_period-requires
first_period-requires c = c.requires

pub searched-requires : goal.searched-requires
searched-requires c =
    (c.requires.0, omega (arith, c.requires.1, c.first_period.ensures.same))

pub shape_of-scratch-in-Unknown : goal.shape_of-scratch-in-Unknown
shape_of-scratch-in-Unknown c =
    c.searched.ensures.same ∙ c.first_period.ensures.same

pub returns-in-Unknown : goal.returns-in-Unknown
returns-in-Unknown c =
    let was = c.first_period.ensures in
    let done = c.searched.ensures in
    record { told = done.told; same = done.same ∙ was.same; rest = λ k h. done.rest k h ∙ was.rest k h }

pub why_never-requires : goal.why_never-requires
why_never-requires c =
    let done = c.first_period.ensures in
    (c.requires.0, (omega (arith, c.requires.1, done.same), none-smallest _ _ c.requires.0.valid (tells-never done.tells c.in-Never.is)))

pub shape_of-scratch-in-Never : goal.shape_of-scratch-in-Never
shape_of-scratch-in-Never c =
    c.why_never.ensures.same ∙ c.first_period.ensures.same

pub returns-in-Never : goal.returns-in-Never
returns-in-Never c =
    let was = c.first_period.ensures in
    let done = c.why_never.ensures in
    record {
      told = none-because _ _ c.requires.0.valid (tells-never was.tells c.in-Never.is) done.told;
      same = done.same ∙ was.same;
      rest = λ k h. done.rest k h ∙ was.rest k h;
    }

pub returns-in-At : goal.returns-in-At
returns-in-At c =
    let done = c.first_period.ensures in
    record { told = first-exists _ _ c.requires.0.valid (tells_at done.tells _ c.in-At.is) (omega arith); same = done.same; rest = done.rest }

pub shape_of-scratch-in-At : goal.shape_of-scratch-in-At
shape_of-scratch-in-At c = c.first_period.ensures.same

pub returns-in-At-2 : goal.returns-in-At-2
returns-in-At-2 c =
    let done = c.first_period.ensures in
    record { told = first-because _ _ c.requires.0.valid (tells_at done.tells _ c.in-At.is) (λ h. omega arith); same = done.same; rest = done.rest }
