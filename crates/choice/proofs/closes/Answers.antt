-- The seed, and then the spare figure: by `goes-closing` these are the tests of the rules.
use Rattle.std.proofs.Common.{◌≡◌, sym, ap, ◌∙◌, arith, pos, to_z-of_z, w32}
use borrow.Author.Tests.{not-true, not-false}
use lib.Signed.{le_z}
use Rattle.problem.proofs.Sizes.{few-cells}
use Rattle.problem.proofs.Clocks.{net-gate-in}
use Rattle.choice.specs.Codes.{slack_with}
use Rattle.choice.proofs.Codes.{goes-closing, period-most}
use Rattle.choice.proofs.closes.Goals as goal

pub may_close-requires : goal.may_close-requires
may_close-requires c =
    (record { small = few-cells _ _ c.requires.0.ready.ready; room = c.requires.0.room; exits_in = c.requires.0.exits_in; in_plan = c.requires.0.in_plan }, c.requires.1)

pub returns-then-not-may_close : goal.returns-then-not-may_close
returns-then-not-may_close c =
    sym (goes-closing c.args.net c.args.plan.now c.args.exits c.args.scratch.now c.args.at c.requires.0 c.args.code c.requires.1 ∙ simp (sym c.may_close.ensures ∙ not-true _ c.if-not-may_close.true-raw))

pub slack-requires : goal.slack-requires
slack-requires c =
    (rw c.gate-closer.ensures (net-gate-in c.args.net c.args.plan.now c.requires.0.ready _), (rw c.period.ensures (period-most c.args.net c.args.plan.now c.requires.0.ready c.args.at), (c.requires.0.ready.ready.valid.skew, (c.requires.0.light, omega (arith, c.requires.0.early)))))

pub returns : goal.returns
returns c =
    let figure = to_z-of_z {w = w32} {z = c.slack.result} (record { sfits = c.slack.type_inv }) in
    let is : c.slack.result ≡ slack_with c.args.net c.args.at c.args.code = rw (c.gate-closer.ensures, c.period.ensures) at c.slack.ensures in
    let seed = sym c.may_close.ensures ∙ not-false _ c.if-not-may_close.false-raw in
    ap (le_z (pos 0)) (figure ∙ is)
    ∙ sym (goes-closing c.args.net c.args.plan.now c.args.exits c.args.scratch.now c.args.at c.requires.0 c.args.code c.requires.1 ∙ simp seed)
