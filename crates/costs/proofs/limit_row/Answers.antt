use Rattle.std.proofs.Common.{rules, of_calls}
use Rattle.costs.specs.Costs.{limit_cost}
use Rattle.costs.proofs.limit_row.Goals as goal

pub returns : goal.returns
unfolding limit_cost
returns c l h = let p = c.row_of.ensures l h in search (rules, of_calls)
