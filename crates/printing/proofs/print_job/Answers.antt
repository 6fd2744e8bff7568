-- A refusal while reading, or the text of the answer.
use Rattle.std.proofs.Common.{arith}
use Rattle.printing.proofs.Whole.{refused-text, asks-text, asks-small, small_count, put-prints}
use Rattle.printing.proofs.print_job.Goals as goal

pub print_asked-requires : goal.print_asked-requires
print_asked-requires c =
    let small = small_count _ _ _ _ (asks-small _ _ c.args.job.now c.in-Ok.asked c.in-Ok.count c.in-Ok.ensures) in
    (small.0, (small.1, omega (arith, c.read_job.auto.plan, c.read_job.auto.words, c.requires)))

pub returns-in-Ok : goal.returns-in-Ok
returns-in-Ok c = put-prints _ c.print_asked.ensures (asks-text _ _ _ c.in-Ok.asked c.in-Ok.count c.in-Ok.ensures)

pub returns-in-Err : goal.returns-in-Err
returns-in-Err c = put-prints _ c.put_refusal.ensures (rw c.number.ensures (refused-text _ _ _ _ c.in-Err.ensures))
