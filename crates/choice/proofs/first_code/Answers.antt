-- The tests of the code, in the order of the codes, by the laws of `Codes`.
use Rattle.std.proofs.Common.{ℕ, ◌+◌, ◌<◌, ◌≤◌, ◌≡◌, sym, ◌∙◌, arith, T, ltb, length, get_or, None, rules}
use Rattle.rules.specs.Rules.{register_code, fifo_code}
use Rattle.plan.proofs.Truth.{of-true}
use Rattle.rows.specs.Rows.{view_of}
use Rattle.labels.specs.Labels.{labels_for}
use Rattle.table.specs.Problem.{net_rules, budget_of}
use Rattle.choice.specs.Choice.{delay_most}
use Rattle.choice.specs.Codes.{goes_at}
use Rattle.choice.proofs.Codes.{high-closes, code-first, code-none, code-gateless, code-buffer, no_buffer, no-site, low-more}
use Rattle.choice.proofs.first_code.Goals as goal
use Rattle.choice.proofs.first_code.Goals.{After-below, After-shared_slice_known-2-1, Else-closes, Joined-else-takes_buffers, else-takes_buffers-via-then-takes_buffers+in-None-1, else-takes_buffers-via-else-takes_buffers}

-- all words have 16 bits
bits : (c : After-shared_slice_known-2-1) → (k : ℕ) → get_or c.args.scratch.now k 0 ≤ delay_most
bits c k = omega (arith, c.shared_slice_known-2-1.given k)

-- the test of the delay against the table's word
tested : (c : After-below) → let a = c.args in ltb a.at.delay.0 (view_of a.scratch.now a.at.cell a.at.load.0) ≡ c.below.result
tested c = sym (rw c.budget_at.ensures at c.below.ensures)

-- past the buffers, no code below the register's goes on
low : (c : Joined-else-takes_buffers) → let a = c.args in (code : ℕ) → code < register_code → T (goes_at (net_rules a.net a.plan.now) (labels_for (length a.plan.now) a.exits a.scratch.now) (budget_of (length a.plan.now) a.scratch.now) a.at code) → ⊥
low c =
    elim c.else-takes_buffers.branch [
      | else-takes_buffers-via-then-takes_buffers+in-None-1 w ↦ no_buffer c.args.net c.args.plan.now c.args.exits c.args.scratch.now c.args.at c.requires (tested (goal.at.Joined-else-takes_buffers c).After-below ∙ c.if-below.false) (sym c.takes_buffers.ensures ∙ w.if-takes_buffers.true) (let no : w.first_buffer.result ≡ None = search rules in rw no at w.first_buffer.ensures)
      | else-takes_buffers-via-else-takes_buffers w ↦ no-site c.args.net c.args.plan.now c.args.exits c.args.scratch.now c.args.at c.requires (tested (goal.at.Joined-else-takes_buffers c).After-below ∙ c.if-below.false) (sym c.takes_buffers.ensures ∙ w.if-takes_buffers.false)
    ]

-- nor the register's
low-fifo : (c : Else-closes) → let a = c.args in (code : ℕ) → code < fifo_code → T (goes_at (net_rules a.net a.plan.now) (labels_for (length a.plan.now) a.exits a.scratch.now) (budget_of (length a.plan.now) a.scratch.now) a.at code) → ⊥
low-fifo c =
    low-more c.args.net c.args.plan.now c.args.exits c.args.scratch.now c.args.at c.requires register_code (low (goal.at.Else-closes c).Joined-else-takes_buffers) (sym c.closes.ensures ∙ c.if-closes.false)

pub returns-then-below : goal.returns-then-below
returns-then-below c =
    code-gateless c.args.net c.args.plan.now c.args.exits c.args.scratch.now c.args.at c.requires (bits (goal.at.returns-then-below c).After-shared_slice_known-2-1) (tested (goal.at.returns-then-below c).After-below ∙ c.if-below.true)

pub returns : goal.returns
returns c =
    code-buffer c.args.net c.args.plan.now c.args.exits c.args.scratch.now c.args.at c.requires (bits (goal.at.returns c).After-shared_slice_known-2-1) (tested (goal.at.returns c).After-below ∙ c.if-below.false) (sym c.takes_buffers.ensures ∙ c.if-takes_buffers.true) _ c.in-Some.ensures

pub closes-requires : goal.closes-requires
closes-requires c = (c.requires, high-closes _ (omega arith) (omega arith))

pub returns-then-closes : goal.returns-then-closes
returns-then-closes c =
    code-first c.args.net c.args.plan.now c.args.exits c.args.scratch.now c.args.at c.requires (bits (goal.at.returns-then-closes c).After-shared_slice_known-2-1) register_code (omega arith) (sym c.closes.ensures ∙ c.if-closes.true) (low (goal.at.returns-then-closes c).Joined-else-takes_buffers)

pub closes-requires-else-closes : goal.closes-requires-else-closes
closes-requires-else-closes c = (c.requires, high-closes _ (omega arith) (omega arith))

pub returns-then-closes-2 : goal.returns-then-closes-2
returns-then-closes-2 c =
    code-first c.args.net c.args.plan.now c.args.exits c.args.scratch.now c.args.at c.requires (bits (goal.at.returns-then-closes-2 c).After-shared_slice_known-2-1) fifo_code (omega arith) (sym c.closes-else-closes.ensures ∙ c.if-closes-2.true) (low-fifo (goal.at.returns-then-closes-2 c).Else-closes)

pub returns-else-closes-2 : goal.returns-else-closes-2
returns-else-closes-2 c =
    code-none c.args.net c.args.plan.now c.args.exits c.args.scratch.now c.args.at c.requires (bits (goal.at.returns-else-closes-2 c).After-shared_slice_known-2-1) (low-more c.args.net c.args.plan.now c.args.exits c.args.scratch.now c.args.at c.requires fifo_code (low-fifo (goal.at.returns-else-closes-2 c).Else-closes) (sym c.closes-else-closes.ensures ∙ c.if-closes-2.false))
