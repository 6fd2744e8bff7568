-- The two tests of the definition.
use borrow.Author.Tests.{eq-eqb, ne_eqb}
use Rattle.verdict.specs.Verdict.{bad_list}
use Rattle.verdict.proofs.list.bad_list.Goals as goal

pub returns-then-words-eq1 : goal.returns-then-words-eq1
unfolding bad_list
returns-then-words-eq1 c = simp (eq-eqb _ _ c.if-words-eq1.true)

pub returns-else-words-eq1 : goal.returns-else-words-eq1
unfolding bad_list
returns-else-words-eq1 c = simp (ne_eqb _ _ c.if-words-eq1.false)
