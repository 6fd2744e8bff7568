-- The numbers read so far, before those still to be read, are the run.
use Rattle.std.proofs.Common.{length}
use Rattle.numbers.specs.Runs.{fault_number}
use Rattle.numbers.proofs.Sequence.{Going}
use Rattle.numbers.proofs.series.read_series.Given as goal

abbrev pub invariant-loop-word : goal.invariant-loop-word
invariant-loop-word l = Going (length l.initial.words) l.top (fault_number l.refusal) l.job l.words l.rest l.word-index
