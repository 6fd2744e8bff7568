-- One digit, or the digits of n / 10 and the last one.
use Rattle.std.proofs.Common.{ap, length, arith}
use Rattle.text.proofs.Digits.{decimal-one}
use Rattle.text.proofs.Texts.{put-length, put-digit, put-digits, digits-less}
use Rattle.text.proofs.put.+put_decimal.Goals as goal

pub put_byte-requires : goal.put_byte-requires
put_byte-requires t c = omega (arith, ap length (decimal-one c.args.n c.if-n-lt10.true))

pub returns-then-n-lt10 : goal.returns-then-n-lt10
returns-then-n-lt10 t c = put-digit _ c.if-n-lt10.true c.put_byte.ensures

pub put_decimal-last-requires : goal.put_decimal-last-requires
put_decimal-last-requires t c = (omega arith, omega (arith, digits-less c.args.n c.if-n-lt10.false))

pub put_byte-requires-2 : goal.put_byte-requires-2
put_byte-requires-2 t c =
    omega (arith, digits-less c.args.n c.if-n-lt10.false, c.put_decimal-last.ensures.next, put-length c.put_decimal-last.ensures)

pub returns : goal.returns
returns t c = put-digits _ c.if-n-lt10.false c.put_decimal-last.ensures c.put_byte-2.ensures
