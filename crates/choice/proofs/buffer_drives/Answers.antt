-- The two tests of the code are those of `drives`, at the buffer that was copied out.
use Rattle.std.proofs.Common.{◌+◌, ◌≡◌, sym, ◌∙◌, arith, leb}
use Rattle.timing.specs.Elements.{buffer_of, driver_of}
use Rattle.timing.specs.Formulas.{gate_delay, buffer_driver, buffer_load}
use Rattle.costs.specs.Costs.{buffer_at}
use Rattle.choice.specs.Codes.{drives}
use Rattle.costs.proofs.Checked.{buffer-driver-fits, buffer-load-most}
use Rattle.choice.proofs.buffer_drives.Goals as goal
use Rattle.choice.proofs.buffer_drives.Goals.{After-at_most}

-- the test of the buffer's own load
fits : (c : After-at_most) → let a = c.args in leb (buffer_load (buffer_at a.elements a.i)) a.elements.limit.0 ≡ c.at_most.result
unfolding buffer_at buffer_of driver_of
fits c = sym (rw c.load-own.ensures at c.at_most.ensures)

pub returns-else-at_most : goal.returns-else-at_most
unfolding drives
returns-else-at_most c = let no = fits (goal.at.returns-else-at_most c).After-at_most ∙ c.if-at_most.false in simp no c.if-at_most.false

pub after-requires : goal.after-requires
unfolding buffer_at buffer_of driver_of
after-requires c =
    let driver : c.driver.result ≡ buffer_driver (buffer_at c.args.elements c.args.i) = c.driver.ensures in
    (rw driver (buffer-driver-fits c.requires.0.valid c.args.i (omega arith)), (c.requires.0.light, omega (arith, c.requires.0.early)))

pub budget_at-requires : goal.budget_at-requires
unfolding buffer_at buffer_of driver_of
budget_at-requires c =
    (omega (arith, c.load-own.ensures, buffer-load-most c.requires.0.valid c.args.i (omega arith)), c.requires.0.row)

pub returns-then-at_most : goal.returns-then-at_most
unfolding drives buffer_at buffer_of driver_of
returns-then-at_most c =
    let b = buffer_at c.args.elements c.args.i in
    let load : c.load-own.result.0 ≡ buffer_load b = c.load-own.ensures in
    let driver : c.driver.result ≡ buffer_driver b = c.driver.ensures in
    let after : c.after.result.0 ≡ c.args.at.delay.0 + gate_delay (buffer_driver b) c.args.at.load.0 = rw driver at c.after.ensures in
    simp (c.below.ensures, after, c.budget_at.ensures, load, fits (goal.at.returns-then-at_most c).After-at_most ∙ c.if-at_most.true)
