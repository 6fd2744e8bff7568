-- Between the ends the register's own load is tested too.
use Rattle.std.proofs.Common.{sym, ◌∙◌}
use borrow.Author.Tests.{le-leb}
use Rattle.verdict.proofs.Passing.{gate-own-heavy}
use Rattle.verdict.proofs.gates.close_span.Goals as goal

pub returns-then-not-at_most : goal.returns-then-not-at_most
returns-then-not-at_most c =
    let heavy = sym (rw c.load.ensures at c.at_most.ensures) ∙ c.if-not-at_most.true in
    rw c.if-not-last.true
    (λ P from to a none k. gate-own-heavy P c.args.elements from to mathlib.Core.Bool.false a c.args.at.cell (rw k.load at (le-leb _ _ c.requires.light)) heavy)
