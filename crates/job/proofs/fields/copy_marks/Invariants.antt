-- The first i bytes are the first i words.
use Rattle.std.proofs.Common.{◌≡◌, take}
use Rattle.job.proofs.fields.copy_marks.Given as goal

abbrev pub invariant-loop-i : goal.invariant-loop-i
invariant-loop-i l = take l.i l.plan ≡ take l.i l.words
