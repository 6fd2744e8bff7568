-- On the sink's side by the register's state there.
use mathlib.Core.Path.{sym, ◌∙◌}
use lib.Dec.{eqb→eq}
use Rattle.plan.proofs.Truth.{of-true}
use borrow.Author.Tests.{ltb-true, ltb-false}
use Rattle.search.proofs.turns.at_sink.Goals as goal

pub returns-then-side-eq0 : goal.returns-then-side-eq0
returns-then-side-eq0 c =
    let e = c.fresh_in.ensures in
    record {
      yes = λ h. c.if-side-eq0.true;
      comes = λ h n k. ltb-true _ _ (sym (e n k) ∙ h);
      not_yet = λ h z n k. ltb-false _ _ (sym (e n k) ∙ h);
    }

pub returns-else-side-eq0 : goal.returns-else-side-eq0
returns-else-side-eq0 c =
    record {
      yes = λ h. eqb→eq _ _ (of-true _ h);
      comes = λ h. absurd (c.if-side-eq0.false (eqb→eq _ _ (of-true _ h)));
      not_yet = λ h z. absurd (c.if-side-eq0.false z);
    }
