-- `text::answer::put_refusal` meets its contract: `none`, or `refused`, the number and a newline.
use native.Mathlib.Omega.{arith}
use Rattle.text.proofs.Lines.{refusal-none, refusal-line}
use Rattle.text.proofs.Texts.{put_then, put-length, short}
use Rattle.text.proofs.answer.put_refusal.Goals as goal

pub returns-then-number-eq-NO_ROUTE : goal.returns-then-number-eq-NO_ROUTE
returns-then-number-eq-NO_ROUTE c = refusal-none _ c.if-number-eq-NO_ROUTE.true c.put_word.ensures

pub put_decimal-b-requires : goal.put_decimal-b-requires
put_decimal-b-requires c = omega (arith, short c.args.number (omega arith), put-length c.put_word-a.ensures, c.put_word-a.ensures.next)

pub put_byte-requires : goal.put_byte-requires
put_byte-requires c = omega (arith, short c.args.number (omega arith), put-length c.put_word-a.ensures, put-length c.put_decimal-b.ensures, c.put_word-a.ensures.next, c.put_decimal-b.ensures.next)

pub returns : goal.returns
returns c = refusal-line _ c.if-number-eq-NO_ROUTE.false (put_then (put_then c.put_word-a.ensures c.put_decimal-b.ensures) c.put_byte.ensures)
