-- The last visit has code 7; in between a gate that may stand there.
use Rattle.std.proofs.Common.{sym}
use Rattle.rules.specs.Legal.{code_right}
use Rattle.verdict.proofs.Places.{code-last}
use Rattle.verdict.proofs.sites.code_right.Goals as goal

pub returns-then-last : goal.returns-then-last
returns-then-last c =
    rw c.if-last.true (sym (code-last c.args.p c.args.plan.now c.requires.0 c.args.cell c.args.code))

pub returns-else-last : goal.returns-else-last
unfolding code_right
returns-else-last c = rw c.if-last.false c.may_stand.ensures
