-- `grown` is the largest growth among the words before load l.
use Rattle.std.proofs.Common.{◌≡◌}
use Rattle.budget.specs.Table.{max_below}
use Rattle.rows.proofs.Rows.{growth}
use Rattle.rows.proofs.grows.Given as goal

abbrev pub invariant-loop-l : goal.invariant-loop-l
invariant-loop-l l = l.grown ≡ max_below l.l (growth l.scratch l.from l.to l.costs l.base l.step)
