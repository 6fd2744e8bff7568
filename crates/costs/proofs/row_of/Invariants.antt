-- The words before load l are costs.
use Rattle.std.proofs.Common.{ℕ, ◌<◌, get_or}
use Rattle.costs.proofs.row_of.Given as goal

abbrev pub invariant-loop-l : goal.invariant-loop-l
invariant-loop-l g l = (k : ℕ) → k < l.l → goal.F-post g l.cost k (get_or l.word-items k 0)
