use Rattle.std.proofs.Common.{add-zero}
use borrow.Author.Tests.{eq-eqb, ne_eqb}
use Rattle.emission.specs.Emission.{tallied_after}
use Rattle.emission.proofs.sides.tallied.Goals as goal

pub returns-in-7-eq0 : goal.returns-in-7-eq0
unfolding tallied_after
returns-in-7-eq0 c = simp (eq-eqb _ _ c.in-7-eq0.is-0, eq-eqb _ _ c.in-7-eq0.is-1, add-zero)

pub returns-in-7-default : goal.returns-in-7-default
unfolding tallied_after
returns-in-7-default c = simp (eq-eqb _ _ c.in-7-default.is-0, ne_eqb _ _ c.in-7-default.is-1.1, add-zero)

pub returns-in_default : goal.returns-in_default
unfolding tallied_after
returns-in_default c = simp (ne_eqb _ _ c.in_default.is-0.1, add-zero)
