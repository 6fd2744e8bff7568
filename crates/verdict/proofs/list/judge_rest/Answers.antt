use mathlib.Core.Path.{sym, ap, ◌∙◌}
use native.Mathlib.Omega.{arith}
use native.Mathlib.Numerals.{add-one}
use mir.Syntax.{w32}
use mir.Facts.{to_z-of_z}
use Rattle.answers.specs.declared.verdicts.Finding.TheVariants.{Accepted}
use Rattle.verdict.proofs.Routes.{good-even}
use Rattle.verdict.proofs.Judged.{last-is, judged-on, judged-fault, judged-all}
use Rattle.verdict.proofs.list.judge_rest.Goals as goal

pub returns-in-Err : goal.returns-in-Err
returns-in-Err c =
    sym (judged-fault c.args.p c.args.plan.now c.args.words.now c.requires.0 c.requires.1.0 c.loop-i.i c.loop-i.at c.loop-i.invariant _ _ (last-is _ _ c.requires.1.0) (omega arith) c.in-Err.ensures)

pub loop-i-preserved : goal.loop-i-preserved
loop-i-preserved c =
    rw (← add-one c.loop-i.i) at (judged-on c.args.p c.args.plan.now c.args.words.now c.requires.0 c.requires.1.0 c.loop-i.i c.loop-i.at c.loop-i.invariant _ _ (last-is _ _ c.requires.1.0) (omega arith) c.in-Ok.ensures)

pub returns : goal.returns
returns c =
    let figure = to_z-of_z {w = w32} {z = c.loop-i.at.slack} (record { sfits = c.struct_told-1.given.1.1.1.0.1 }) in
    ap Accepted figure ∙ sym (judged-all c.args.p c.args.plan.now c.args.words.now c.requires.0 c.requires.1.0 c.loop-i.i c.loop-i.at c.loop-i.invariant (omega (arith, good-even _ c.requires.1.0)))
