-- The first visit, then the others.
use Rattle.std.proofs.Common.{sym, arith}
use Rattle.verdict.proofs.Routes.{good_length}
use Rattle.verdict.proofs.Judged.{judged-first, judged-first-fault}
use Rattle.verdict.proofs.list.judge_ready.Goals as goal

pub bounds-words-0 : goal.bounds-words-0
bounds-words-0 c = omega (arith, good_length _ c.requires.1)

pub bounds-words-1 : goal.bounds-words-1
bounds-words-1 c = omega (arith, good_length _ c.requires.1)

pub returns-in-Err : goal.returns-in-Err
returns-in-Err c =
    sym (judged-first-fault c.args.p c.args.plan.now c.args.words.now c.requires.0 c.requires.1 _ c.in-Err.ensures)

pub judge_rest-requires : goal.judge_rest-requires
judge_rest-requires c =
    (c.requires.0, (c.requires.1, judged-first c.args.p c.args.plan.now c.args.words.now c.requires.0 c.requires.1 _ c.in-Ok.ensures))
