-- The figure from the capped delay is that of the rules, and its sign is their period test.
use mathlib.Core.Path.{◌≡◌, refl, ap₂, ◌∙◌}
use native.Mathlib.Omega.{arith}
use borrow.Author.Tests.{le-leb}
use mir.Syntax.{w32}
use mir.Val.{to_z, of_z}
use mir.Facts.{to_z-of_z}
use Rattle.timing.specs.Formulas.{setup_delay}
use Rattle.timing.specs.Slack.{smaller}
use Rattle.verdict.proofs.Passing.{close_of, gate-late, closed-step}
use Rattle.verdict.proofs.gates.closed.Goals as goal
use Rattle.verdict.proofs.gates.closed.Goals.{After-slack-close}

-- the figure of the close, as it is read back
close : (c : After-slack-close) → to_z w32 (of_z w32 c.slack-close.result) ≡ close_of c.args.elements c.args.at
close c = to_z-of_z {w = w32} {z = c.slack-close.result} (record { sfits = c.slack-close.type_inv }) ∙ c.slack-close.ensures

pub slack-close-requires : goal.slack-close-requires
slack-close-requires c = (c.requires.valid, (omega (arith, c.requires.light, c.requires.valid.limit), omega (arith, c.args.at.early)))

pub returns-then-close-lt0 : goal.returns-then-close-lt0
returns-then-close-lt0 c =
    λ last own P from to a none k.
    rw (close (goal.at.returns-then-close-lt0 c).After-slack-close)
    (gate-late P c.args.elements from to last a c.args.at.cell (rw k.load at (le-leb _ _ c.requires.light)) own c.args.at c.requires.valid k (rw (close (goal.at.returns-then-close-lt0 c).After-slack-close) at c.if-close-lt0.true))

pub start_delay-requires : goal.start_delay-requires
start_delay-requires c = c.requires.valid.register

pub invariant_of-result : goal.invariant_of-result
unfolding setup_delay
invariant_of-result c = record { early = omega (arith, c.start_delay.ensures, c.requires.valid.register.setup) }

pub returns : goal.returns
returns c =
    let own = to_z-of_z {w = w32} {z = c.args.at.slack} (record { sfits = c.struct_told-1.given.1.1.1.0.1 }) in
    let made = to_z-of_z {w = w32} {z = c.smaller_slack.result} (record { sfits = c.smaller_slack.type_inv }) in
    λ last owns P from to a none k.
    closed-step P c.args.elements from to last a c.args.at.cell (rw k.load at (le-leb _ _ c.requires.light)) owns c.args.at c.requires.valid k (rw (close (goal.at.returns c).After-slack-close) at c.if-close-lt0.false) none _ refl c.load.ensures c.start_delay.ensures (made ∙ (c.smaller_slack.ensures ∙ ap₂ smaller own (close (goal.at.returns c).After-slack-close)))
