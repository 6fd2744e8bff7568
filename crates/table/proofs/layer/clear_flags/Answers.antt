use Rattle.std.proofs.Common.{◌+◌, ◌*◌, ◌<◌, arith, get_or}
use Rattle.layout.specs.Layout.{active_at}
use Rattle.lists.proofs.Lists.{listed-count}
use Rattle.table.proofs.Clears.{clear-more, cell_in}
use Rattle.table.proofs.layer.clear_flags.Goals as goal
use Rattle.table.proofs.layer.clear_flags.Goals.{After-slice_known-1}

pub overflow_add-cell : goal.overflow_add-cell
overflow_add-cell c = omega (arith, listed-count c.requires.1.1)

pub offset_bounds-scratch-n : goal.offset_bounds-scratch-n
offset_bounds-scratch-n c = omega (arith, listed-count c.requires.1.1)

pub bounds-scratch-n : goal.bounds-scratch-n
bounds-scratch-n c = omega (arith, listed-count c.requires.1.1)

-- the cell read
inside : (c : After-slice_known-1) → get_or c.loop-i.scratch (c.args.n * active_at + c.loop-i.i) 0 < c.args.n
inside c =
    cell_in _ _ _ _ _ c.requires.1.1 c.requires.1.0 c.loop-i-test.true c.loop-i.invariant

pub bounds-scratch-n-in-loop-i : goal.bounds-scratch-n-in-loop-i
bounds-scratch-n-in-loop-i c = omega (arith, inside c)

pub loop-i-preserved : goal.loop-i-preserved
loop-i-preserved c =
    clear-more _ _ _ _ _ c.requires.1.1 c.requires.1.0 c.loop-i-test.true c.loop-i.invariant
