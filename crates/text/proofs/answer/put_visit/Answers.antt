-- `text::answer::put_visit` meets its contract: the parts of the line, one after another.
use native.Mathlib.Omega.{arith}
use Rattle.text.specs.Answers.{visit_line}
use Rattle.text.proofs.Texts.{put_then, put-length, short}
use Rattle.text.proofs.answer.put_visit.Goals as goal

pub put_decimal-a-requires : goal.put_decimal-a-requires
put_decimal-a-requires c = omega (arith, short c.args.cell (omega arith))

pub put_byte-b-requires : goal.put_byte-b-requires
put_byte-b-requires c = omega (arith, short c.args.cell (omega arith), put-length c.put_decimal-a.ensures, c.put_decimal-a.ensures.next)

pub put_decimal-c-requires : goal.put_decimal-c-requires
put_decimal-c-requires c = omega (arith, short c.args.cell (omega arith), short c.args.code (omega arith), put-length c.put_decimal-a.ensures, put-length c.put_byte-b.ensures, c.put_decimal-a.ensures.next, c.put_byte-b.ensures.next)

pub put_byte-requires : goal.put_byte-requires
put_byte-requires c = omega (arith, short c.args.cell (omega arith), short c.args.code (omega arith), put-length c.put_decimal-a.ensures, put-length c.put_byte-b.ensures, put-length c.put_decimal-c.ensures, c.put_decimal-a.ensures.next, c.put_byte-b.ensures.next, c.put_decimal-c.ensures.next)

pub returns : goal.returns
unfolding visit_line
returns c = (put_then (put_then (put_then c.put_decimal-a.ensures c.put_byte-b.ensures) c.put_decimal-c.ensures) c.put_byte.ensures)
