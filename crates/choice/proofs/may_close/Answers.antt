-- One set of labels a code; with no labels of FIFOs there is no seed for one.
use Rattle.std.proofs.Common.{◌≡◌, sym, ◌∙◌, ⊎_elim, arith, eqb, not}
use Rattle.plan.proofs.Truth.{is_false}
use Rattle.rules.specs.Rules.{fifo_code}
use Rattle.rules.proofs.View.{closing-codes}
use Rattle.labels.proofs.Labels.{labels-register, labels-fifo, labels-no-fifo, set-in, exits-in}
use Rattle.choice.proofs.Seeds.{seed-code, no-labels-seed}
use Rattle.choice.proofs.may_close.Goals as goal
use Rattle.choice.proofs.may_close.Goals.{Else-code-eq7}

-- a code that closes a span and is not 7
fifo : (c : Else-code-eq7) → c.args.code ≡ fifo_code
fifo c = ⊎_elim (λ e. absurd (c.if-code-eq7.false e)) (λ e. e) (closing-codes _ c.requires.1)

pub is_seed-requires : goal.is_seed-requires
is_seed-requires c =
    (set-in _ _ c.requires.0.small (omega (arith, c.requires.0.room)), c.requires.0.in_plan)

pub returns-then-code-eq7 : goal.returns-then-code-eq7
returns-then-code-eq7 c =
    c.is_seed.ensures
    ∙ sym (seed-code c.args.n c.args.exits c.args.scratch.now c.args.at c.args.code _ (rw c.if-code-eq7.true (labels-register c.args.n c.args.exits c.args.scratch.now)))

pub returns-then-exits-ne0 : goal.returns-then-exits-ne0
returns-then-exits-ne0 c =
    c.is_seed-then-exits-ne0.ensures
    ∙ sym (seed-code c.args.n c.args.exits c.args.scratch.now c.args.at c.args.code _ (rw (fifo (goal.at.returns-then-exits-ne0 c).Else-code-eq7) (labels-fifo c.args.n c.args.exits c.args.scratch.now (omega (arith, c.if-exits-ne0.true)))))

pub returns-else-exits-ne0 : goal.returns-else-exits-ne0
returns-else-exits-ne0 c =
    let zero = is_false (not (eqb c.args.exits 0)) (rw c.if-exits-ne0.false tt) in
    zero ∙ sym (seed-code c.args.n c.args.exits c.args.scratch.now c.args.at c.args.code _ (rw (fifo (goal.at.returns-else-exits-ne0 c).Else-code-eq7) (labels-no-fifo c.args.n c.args.exits c.args.scratch.now c.if-exits-ne0.false)) ∙ no-labels-seed c.args.at)

pub is_seed-requires-then-exits-ne0 : goal.is_seed-requires-then-exits-ne0
is_seed-requires-then-exits-ne0 c =
    (exits-in _ _ c.requires.0.small (c.requires.0.exits_in (omega (arith, c.if-exits-ne0.true))), c.requires.0.in_plan)
