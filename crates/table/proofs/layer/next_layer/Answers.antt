-- `table::layer::next_layer` meets its contract: cleared flags, pushes and the new list, by proofs/WholeLayer.
use Rattle.std.proofs.Common.{sym, arith}
use Rattle.rules.specs.Rules.{rules_of}
use Rattle.rules.specs.Crossing.{rules_between}
use Rattle.table.specs.Problem.{net_rules}
use Rattle.problem.proofs.Sizes.{few-cells, cells_are}
use Rattle.table.proofs.Clears.{cleared-asks}
use Rattle.table.proofs.WholeLayer.{layered}
use Rattle.table.proofs.layer.next_layer.Goals as goal

pub clear_flags-requires : goal.clear_flags-requires
clear_flags-requires c =
    (few-cells _ _ c.requires.0.ready, (omega (arith, c.requires.1.0), c.requires.1.1.0))

pub spread_all-next-requires : goal.spread_all-next-requires
spread_all-next-requires c =
    cleared-asks _ _ _ _ _ _ _ c.requires.0 c.requires.1.0 c.requires.1.1.1.0 c.requires.1.1.0 c.requires.1.1.1.1.0 c.requires.1.1.1.1.1 c.clear_flags.ensures

pub take_list-requires : goal.take_list-requires
take_list-requires c =
    let f = c.clear_flags.ensures in
    let u = c.spread_all-next.ensures.raised in
    (u.listed, (few-cells _ _ c.requires.0.ready, omega (arith, u.same, f.same, c.requires.1.0)))

pub returns : goal.returns
unfolding net_rules rules_between rules_of
returns c =
    layered _ _ _ _ _ _ _ _ _ _ (sym (cells_are _ _ c.requires.0.ready)) c.requires.1.1.0 c.requires.1.1.1.0 c.clear_flags.ensures c.spread_all-next.ensures c.take_list.ensures
