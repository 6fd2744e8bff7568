use Rattle.std.proofs.Common.{◌≡◌, ◌+◌, ◌*◌, get_or, arith}
use Rattle.text.proofs.Lines.{lines_none, lines_more, visit-length}
use Rattle.text.proofs.Texts.{put-length}
use Rattle.text.proofs.answer.put_visits.Goals as goal

pub loop-i-init : goal.loop-i-init
loop-i-init c = (omega arith, lines_none _ c.args.out.now c.args.start (omega arith))

pub put_visit-at-requires : goal.put_visit-at-requires
put_visit-at-requires c = omega (arith, put-length c.loop-i.invariant.1)

pub loop-i-preserved : goal.loop-i-preserved
loop-i-preserved c =
    let visits = c.args.visits.now in
    let i = c.loop-i.i in (
      omega (arith, c.put_visit-at.ensures.next, visit-length (get_or visits (2 * i) 0) (get_or visits (2 * i + 1) 0) (omega (arith, c.type_inv.visits (2 * i))) (omega (arith, c.type_inv.visits (2 * i + 1)))),
      lines_more visits i c.loop-i.invariant.1 c.put_visit-at.ensures,
    )

pub returns : goal.returns
returns c =
    let all : c.loop-i.i ≡ c.args.n = omega arith in
    rw all at c.loop-i.invariant.1
