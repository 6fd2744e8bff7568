-- `ease`: where the word is later the row is cut from the load on and the state joins.
use Prim.Native.Nat.{◌+◌, ◌*◌}
use native.Mathlib.Omega.{arith}
use Rattle.costs.specs.Costs.{row_words}
use Rattle.delays.specs.Delays.{Cut}
use Rattle.delays.proofs.Easing.{eased-none, cut-queue, eased-joined}
use Rattle.delays.proofs.ease.Goals as goal
use Rattle.delays.proofs.ease.Goals.{After-cut_row}

pub returns-then-scratch-at : goal.returns-then-scratch-at
returns-then-scratch-at c =
    let pre = c.requires in
    eased-none _ _ _ _ _ _ pre.1.1.0 (omega arith) (omega arith) (omega arith) c.if-scratch-at.true pre.1.0

-- the row after `cut_row`
row : (c : After-cut_row) → let a = c.args in Cut (a.cell * row_words + a.load) (a.cell * row_words + a.limit + 1) a.delay a.scratch.now c.cut_row.new.scratch
row c = c.cut_row.ensures

pub join-requires : goal.join-requires
join-requires c =
    let pre = c.requires in (
      record { small = omega arith; room = omega (arith, (row (goal.at.join-requires c).After-cut_row).same) },
      (cut-queue _ _ _ _ _ _ pre.1.1.0 (omega arith) (omega arith) (omega arith) _ (row (goal.at.join-requires c).After-cut_row) pre.1.0, omega arith),
    )

pub returns : goal.returns
returns c =
    let pre = c.requires in
    eased-joined _ _ _ _ _ _ pre.1.1.0 (omega arith) (omega arith) (omega arith) _ (row (goal.at.returns c).After-cut_row) pre.1.0 (omega arith) c.join.ensures
