-- The words from `at` up to i were later and are the delay, all others are as they were.
use Rattle.std.proofs.Common.{ℕ, ◌≤◌, ◌<◌, get_or}
use Rattle.delays.proofs.Cuts.{Stretch}
use Rattle.delays.proofs.cut_row.Given as goal

abbrev pub invariant-loop-i : goal.invariant-loop-i
invariant-loop-i l = Stretch l.delay l.at l.i l.initial.scratch l.scratch × ((k : ℕ) → l.at ≤ k → k < l.i → l.delay < get_or l.initial.scratch k 0)
