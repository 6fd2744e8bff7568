-- Four steps, one after another.
use Prim.Native.Nat.{◌≤◌, ◌/◌}
use mathlib.Core.Path.{◌≡◌, ◌∙◌}
use native.Mathlib.Omega.{arith}
use lib.ListN.{get_or}
use Rattle.plan.specs.Joined.{neighbours_of}
use Rattle.costs.specs.Costs.{row_words}
use Rattle.problem.proofs.Sizes.{cells-product}
use Rattle.problem.specs.Problem.{plan_for}
use Rattle.delays.specs.Delays.{never}
use Rattle.spans.specs.Eases.{Eases}
use Rattle.spans.proofs.Eases.{eases-self}
use Rattle.spans.proofs.Stepping.{spread-idle, up-asks, left-asks, right-asks, down-asks, spread-more, spread-all}
use Rattle.spans.proofs.steps.spread.Goals as goal
use Rattle.spans.proofs.steps.spread.Goals.{After-neighbours_of-near, After-step-b, After-step-c}

-- a word has 16 bits
small : (c : After-neighbours_of-near) → let a = c.args in get_or a.scratch.now a.state 0 ≤ never
small c = omega arith

near : (c : After-neighbours_of-near) → let a = c.args in c.neighbours_of-near.result ≡ neighbours_of (plan_for a.p a.plan.now) (a.state / row_words)
unfolding plan_for
near c = c.neighbours_of-near.ensures.is

-- after two steps, and after three

after2 : (c : After-step-b) → let a = c.args in Eases a.p a.plan.now a.period a.scratch.now a.count c.step-b.new.scratch c.step-b.result
after2 c =
    let a = c.args in
    spread-more a.p a.plan.now a.period a.scratch.now a.count a.state c.requires _ _ _ _ _ c.step-a.ensures.0 c.step-b.ensures

after3 : (c : After-step-c) → let a = c.args in Eases a.p a.plan.now a.period a.scratch.now a.count c.step-c.new.scratch c.step-c.result
after3 c =
    let a = c.args in
    spread-more a.p a.plan.now a.period a.scratch.now a.count a.state c.requires _ _ _ _ _ (after2 (goal.at.After-step-c c).After-step-b) c.step-c.ensures

pub returns-then-scratch-state : goal.returns-then-scratch-state
returns-then-scratch-state c =
    let a = c.args in
    spread-idle a.p a.plan.now a.period a.scratch.now a.count a.state c.requires c.if-load-gt0.true c.if-scratch-state.true

pub neighbours_of-near-requires : goal.neighbours_of-near-requires
unfolding plan_for
neighbours_of-near-requires c =
    (c.requires.ground.ready.sized, omega (arith, c.requires.inside, cells-product _ _ c.requires.ground.ready))

pub overflow_cast-d : goal.overflow_cast-d
overflow_cast-d c = omega (arith, small (goal.at.overflow_cast-d c).After-neighbours_of-near)

pub step-a-requires : goal.step-a-requires
step-a-requires c =
    let a = c.args in
    rw (near (goal.at.step-a-requires c).After-neighbours_of-near) (up-asks a.p a.plan.now a.period a.scratch.now a.count a.state c.requires (small (goal.at.step-a-requires c).After-neighbours_of-near) _ _ (eases-self a.p a.plan.now a.period a.scratch.now a.count c.requires.ground))

pub step-b-requires : goal.step-b-requires
step-b-requires c =
    let a = c.args in
    rw (near (goal.at.step-b-requires c).After-neighbours_of-near) (left-asks a.p a.plan.now a.period a.scratch.now a.count a.state c.requires (small (goal.at.step-b-requires c).After-neighbours_of-near) _ _ c.step-a.ensures.0)

pub step-c-requires : goal.step-c-requires
step-c-requires c =
    let a = c.args in
    rw (near (goal.at.step-c-requires c).After-neighbours_of-near) (right-asks a.p a.plan.now a.period a.scratch.now a.count a.state c.requires (small (goal.at.step-c-requires c).After-neighbours_of-near) _ _ (after2 (goal.at.step-c-requires c).After-step-b))

pub step-requires : goal.step-requires
step-requires c =
    let a = c.args in
    rw (near (goal.at.step-requires c).After-neighbours_of-near) (down-asks a.p a.plan.now a.period a.scratch.now a.count a.state c.requires (small (goal.at.step-requires c).After-neighbours_of-near) _ _ (after3 (goal.at.step-requires c).After-step-c))

pub shape_of-scratch : goal.shape_of-scratch
shape_of-scratch c = c.step.ensures.0.same ∙ (after3 (goal.at.shape_of-scratch c).After-step-c).same

pub returns : goal.returns
returns c =
    let a = c.args in
    let is = near (goal.at.returns c).After-neighbours_of-near in
    spread-all a.p a.plan.now a.period a.scratch.now a.count a.state c.requires _ _ _ _ _ _ _ _ (rw is at c.step-a.ensures) (rw is at c.step-b.ensures) (rw is at c.step-c.ensures) (rw is at c.step.ensures)
