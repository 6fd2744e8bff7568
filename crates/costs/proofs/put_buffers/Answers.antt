use Rattle.std.proofs.Common.{◌≡◌, arith}
use Rattle.timing.specs.Elements.{buffer_of, driver_of}
use Rattle.timing.specs.Formulas.{buffer_driver}
use Rattle.costs.specs.Costs.{buffer_at}
use Rattle.costs.proofs.Put.{buffers-more}
use Rattle.costs.proofs.put_buffers.Goals as goal

pub gate_row-row-requires : goal.gate_row-row-requires
unfolding buffer_at buffer_of driver_of buffer_driver
gate_row-row-requires c =
    let i = c.loop-i.i in
    let driver : c.driver.result ≡ buffer_driver (buffer_at c.args.e i) = c.driver.ensures in
    rw driver (c.requires.1.buffers i (omega (arith, c.requires.1.count))).driver

pub loop-i-preserved : goal.loop-i-preserved
unfolding buffer_at buffer_of driver_of buffer_driver
loop-i-preserved c =
    let loop = c.loop-i in
    let driver : c.driver.result ≡ buffer_driver (buffer_at c.args.e loop.i) = c.driver.ensures in
    buffers-more loop.invariant (rw driver at c.gate_row-row.ensures) c.put_row-more.ensures
