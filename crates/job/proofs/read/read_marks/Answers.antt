-- The marks that were read fit a byte.
use Rattle.std.proofs.Common.{arith}
use Rattle.numbers.specs.Runs.{run_of}
use Rattle.job.specs.Job.{mark_number, marks_max}
use Rattle.job.proofs.Stages.{read-first, marks-fit}
use Rattle.job.proofs.read.read_marks.Goals as goal

pub copy_marks-requires-clause-by_index : goal.copy_marks-requires-clause-by_index
unfolding run_of
copy_marks-requires-clause-by_index c =
    λ k h. marks-fit _ _ _ _ _ (read-first _ marks_max mark_number c.args.job.now c.read_series.new.words c.in_ok-rest.rest.now c.args.words.now (omega arith) c.in_ok-rest.ensures) k
