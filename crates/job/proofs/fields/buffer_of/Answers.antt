-- `job::fields::buffer_of` meets its contract: three words, or zeros past the count.
use native.Mathlib.Omega.{arith}
use Rattle.job.proofs.Records.{buffer-past, buffer-within}
use Rattle.job.proofs.fields.buffer_of.Goals as goal

pub returns-then-count-i : goal.returns-then-count-i
returns-then-count-i c = buffer-past _ _ _ c.if-count-i.true

pub returns : goal.returns
returns c = buffer-within c.args.words.now c.args.count c.args.i (omega arith)
