-- The span passes, the buffers drive it, and it closes where it may.
use mathlib.Core.Path.{sym, ◌∙◌}
use mathlib.Core.Logic.{⊎_elim, inl, inr}
use native.Mathlib.Omega.{arith}
use lib.Dec.{T_not}
use Rattle.plan.proofs.Truth.{of-true, of-false}
use Rattle.rules.specs.Rules.{register_code}
use Rattle.rules.specs.Legal.{may_stand}
use Rattle.problem.specs.Problem.{rules_for}
use Rattle.spans.specs.Opens.{MayClose}
use Rattle.spans.proofs.Eases.{ground-space, limit-row}
use Rattle.spans.proofs.Arriving.{source-named, passed-asks, Through, through-none, through-buffers, arrived-open, shut-asks, arrived-shut}
use Rattle.spans.proofs.arrivals.arrive.Goals as goal
use Rattle.spans.proofs.arrivals.arrive.Goals.{Joined-else-cell-p, Joined-takes_buffers, then-takes_buffers, else-takes_buffers, else-cell-p-via-then-cell-p+else-not-may_register, else-cell-p-via-else-cell-p}

-- passed and driven
through : (c : Joined-takes_buffers) → let a = c.args in Through a.p a.plan.now a.period a.scratch.now a.count a.cell a.load.0 a.delay.0 c.requires c.if-takes_buffers.scratch c.if-takes_buffers.waiting
through c =
    let a = c.args in
    let eased = c.ease-waiting.ensures in
    elim c.if-takes_buffers.branch [
      | then-takes_buffers w ↦ rw (w.scratch-is, w.waiting-is) (through-buffers a.p a.plan.now a.period a.scratch.now a.count a.cell a.load.0 a.delay.0 c.requires _ _ eased _ _ w.ease_buffers-waiting.ensures)
      | else-takes_buffers w ↦ rw (w.scratch-is, w.waiting-is) (through-none a.p a.plan.now a.period a.scratch.now a.count a.cell a.load.0 a.delay.0 c.requires _ _ eased (sym c.takes_buffers.ensures ∙ w.if-takes_buffers.false))
    ]

closes : (c : Joined-else-cell-p) → let a = c.args in MayClose (rules_for a.p a.plan.now) a.cell
closes c =
    let a = c.args in
    elim c.else-cell-p.branch [
      | else-cell-p-via-then-cell-p+else-not-may_register w ↦ inr (of-true (may_stand (rules_for a.p a.plan.now) a.cell register_code) (sym w.may_register.ensures ∙ w.if-not-may_register.false))
      | else-cell-p-via-else-cell-p w ↦ inl (w.if-cell-p.false ∙ sym (source-named a.p a.plan.now))
    ]

pub ease-waiting-requires : goal.ease-waiting-requires
ease-waiting-requires c =
    let g = c.requires.ground in
    (ground-space _ _ g, (g.queue, (g.falling, (c.requires.inside, (c.requires.light, limit-row _ _ g)))))

pub ease_buffers-waiting-requires : goal.ease_buffers-waiting-requires
ease_buffers-waiting-requires c =
    let a = c.args in
    (passed-asks a.p a.plan.now a.period a.scratch.now a.count a.cell a.load.0 a.delay.0 c.requires _ _ c.ease-waiting.ensures, sym c.takes_buffers.ensures ∙ c.if-takes_buffers.true)

pub may_register-requires : goal.may_register-requires
may_register-requires c = (c.requires.ground.ready, c.requires.inside)

pub shape_of-scratch-then-not-may_register : goal.shape_of-scratch-then-not-may_register
shape_of-scratch-then-not-may_register c = (through (goal.at.shape_of-scratch-then-not-may_register c).Joined-takes_buffers).eases.same

pub returns-then-not-may_register : goal.returns-then-not-may_register
returns-then-not-may_register c =
    let a = c.args in
    let may = may_stand (rules_for a.p a.plan.now) a.cell register_code in
    arrived-open a.p a.plan.now a.period a.scratch.now a.count a.cell a.load.0 a.delay.0 c.requires _ _ (through (goal.at.returns-then-not-may_register c).Joined-takes_buffers) (⊎_elim (λ e. c.if-cell-p.true (e ∙ source-named a.p a.plan.now)) (λ t. T_not may (of-false may (sym c.may_register.ensures ∙ c.if-not-may_register.true)) t))

pub closing-closing-requires : goal.closing-closing-requires
closing-closing-requires c =
    let v = c.requires.ground.ready.valid in
    (v.register, (omega (arith, v.skew), (omega (arith, c.requires.light, v.limit), omega (arith, c.requires.early))))

pub shut-requires : goal.shut-requires
shut-requires c =
    let a = c.args in
    rw c.closing-closing.ensures (shut-asks a.p a.plan.now a.period a.scratch.now a.count a.cell a.load.0 a.delay.0 c.requires _ _ (through (goal.at.shut-requires c).Joined-takes_buffers) (closes (goal.at.shut-requires c).Joined-else-cell-p))

pub shape_of-scratch : goal.shape_of-scratch
shape_of-scratch c = c.shut.ensures.0.same ∙ (through (goal.at.shape_of-scratch c).Joined-takes_buffers).eases.same

pub returns : goal.returns
returns c =
    let a = c.args in
    arrived-shut a.p a.plan.now a.period a.scratch.now a.count a.cell a.load.0 a.delay.0 c.requires _ _ (through (goal.at.returns c).Joined-takes_buffers) _ _ (rw c.closing-closing.ensures at c.shut.ensures)
