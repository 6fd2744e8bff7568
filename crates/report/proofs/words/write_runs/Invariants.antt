-- The loop goes from run to run, within the words.
use Rattle.std.proofs.Common.{length, ◌-◌}
use Rattle.report.proofs.words.write_runs.Given as goal

abbrev pub decreases-loop-start : goal.decreases-loop-start
decreases-loop-start g l = length l.words - l.start
