-- Refusals 1 to 5, then 17, or the comparison.
use Rattle.std.proofs.Common.{sym, ◌∙◌}
use mathlib.Core.Bool.{or-true}
use Rattle.std.proofs.lemmas.Result.{err_from_is_err_and}
use Rattle.question.specs.Question.{passes}
use Rattle.question.specs.Asked.{asked}
use Rattle.question.proofs.Checks.{told-fails, told-passes, passed-ready, rules-asked}
use Rattle.comparison.proofs.Calls.{refused-five, refused-list, compared}
use Rattle.comparison.proofs.compare.compare_asked.Goals as goal
use Rattle.comparison.proofs.compare.compare_asked.Goals.{then-bad_list-via-then-bad_list, then-bad_list-via-else-bad_list+then-bad_list-2}

pub returns-in_err-p : goal.returns-in_err-p
returns-in_err-p c =
    let p = err_from_is_err_and c.from_residual.result c.from_residual.ensures.1 in
    rw (p.1, p.2) (sym (refused-five _ _ _ _ (told-fails _ (sym c.in_err-p.ensures))))

pub returns-then-bad_list : goal.returns-then-bad_list
returns-then-bad_list c =
    sym
    (refused-list _ _ _ (told-passes _ (sym c.in_ok-p.ensures)).0
    (elim c.then-bad_list.branch [
      | then-bad_list-via-then-bad_list w ↦ rw (sym c.bad_list.ensures ∙ w.if-bad_list.true)
      | then-bad_list-via-else-bad_list+then-bad_list-2 w ↦ simp (sym w.bad_list-else-bad_list.ensures ∙ w.if-bad_list-2.true, or-true)
    ]))

pub compare_ready-requires : goal.compare_ready-requires
compare_ready-requires c =
    let f = told-passes _ (sym c.in_ok-p.ensures) in
    (rw f.1 (passed-ready _ passes f.0), (sym c.bad_list.ensures ∙ c.if-bad_list.false, sym c.bad_list-else-bad_list.ensures ∙ c.if-bad_list-2.false))

pub returns : goal.returns
returns c =
    let f = told-passes _ (sym c.in_ok-p.ensures) in
    rw (f.1, rules-asked (asked c.args.asking.now)) at c.compare_ready.ensures ∙ sym (compared _ _ _ f.0 (sym c.bad_list.ensures ∙ c.if-bad_list.false) (sym c.bad_list-else-bad_list.ensures ∙ c.if-bad_list-2.false))
