-- One case a kind of gate and cell.
use Rattle.std.proofs.Common.{sym, ap, ◌∙◌, not, inl, inr}
use borrow.Author.Tests.{lt-leb}
use Rattle.plan.specs.Plan.{marks_at}
use Rattle.problem.specs.Problem.{plan_for}
use Rattle.verdict.proofs.Places.{stands-none, stands-on-sink, stands-on-source, stands-register, stands-unlisted, stands-buffer}
use Rattle.verdict.proofs.sites.may_stand.Goals as goal

pub returns-then-code-eq0 : goal.returns-then-code-eq0
returns-then-code-eq0 c =
    rw c.if-code-eq0.true (sym (stands-none c.args.p c.args.plan.now c.requires.0 c.args.cell))

pub returns-then-cell-p : goal.returns-then-cell-p
returns-then-cell-p c =
    elim c.then-cell-p.either [
      | inl sink ↦ sym (stands-on-sink c.args.p c.args.plan.now c.requires.0 c.args.cell c.args.code c.if-code-eq0.false sink)
      | inr e ↦ sym (stands-on-source c.args.p c.args.plan.now c.requires.0 c.args.cell c.args.code c.if-code-eq0.false e.0 e.1)
    ]

pub returns-then-code-eq7 : goal.returns-then-code-eq7
unfolding marks_at plan_for
returns-then-code-eq7 c =
    c.takes_register.ensures ∙ sym (stands-register c.args.p c.args.plan.now c.requires.0 c.args.cell c.args.code c.if-code-eq0.false c.if-cell-p.false c.if-cell-p-2.false c.if-code-eq7.true)

pub returns-then-code-p : goal.returns-then-code-p
unfolding marks_at plan_for
returns-then-code-p c =
    ap not c.is_blocked.ensures ∙ sym (stands-buffer c.args.p c.args.plan.now c.requires.0 c.args.cell c.args.code c.if-code-eq0.false c.if-cell-p.false c.if-cell-p-2.false c.if-code-eq7.false c.if-code-p.true)

pub returns-else-code-p : goal.returns-else-code-p
returns-else-code-p c =
    lt-leb _ _ c.if-code-p.false ∙ sym (stands-unlisted c.args.p c.args.plan.now c.requires.0 c.args.cell c.args.code c.if-code-eq0.false c.if-cell-p.false c.if-cell-p-2.false c.if-code-eq7.false c.if-code-p.false)
