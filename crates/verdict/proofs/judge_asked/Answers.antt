-- Refusals 1 to 5, then 17, or the verdict.
use Rattle.std.proofs.Common.{sym, ap, ◌∙◌, Ok}
use Rattle.std.proofs.lemmas.Result.{err_from_is_err_and}
use Rattle.question.specs.Question.{passes}
use Rattle.question.proofs.Checks.{told-fails, told-passes, passed-ready}
use Rattle.verdict.proofs.Refusing.{verdict-refused, verdict-bad-list, verdict-judged}
use Rattle.verdict.proofs.judge_asked.Goals as goal

pub returns-in_err-p : goal.returns-in_err-p
returns-in_err-p c =
    let p = err_from_is_err_and c.from_residual.result c.from_residual.ensures.1 in
    rw (p.1, p.2) (sym (verdict-refused _ _ _ (told-fails _ (sym c.in_err-p.ensures))))

pub returns-then-bad_list : goal.returns-then-bad_list
returns-then-bad_list c =
    sym (verdict-bad-list _ _ (told-passes _ (sym c.in_ok-p.ensures)).0 (sym c.bad_list.ensures ∙ c.if-bad_list.true))

pub judge_ready-requires : goal.judge_ready-requires
judge_ready-requires c =
    let f = told-passes _ (sym c.in_ok-p.ensures) in
    (rw f.1 (passed-ready _ passes f.0), sym c.bad_list.ensures ∙ c.if-bad_list.false)

pub returns : goal.returns
returns c =
    let f = told-passes _ (sym c.in_ok-p.ensures) in
    ap Ok (rw f.1 at c.judge_ready.ensures) ∙ sym (verdict-judged _ _ f.0 (sym c.bad_list.ensures ∙ c.if-bad_list.false))
