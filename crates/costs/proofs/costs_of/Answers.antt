-- Row by row; what is put later lies behind.
use Rattle.std.proofs.Common.{◌≡◌, arith}
use Rattle.timing.specs.Formulas.{register_driver}
use Rattle.costs.specs.Costs.{none_at, register_at, horizontal_at, vertical_at, buffers_at}
use Rattle.costs.proofs.Put.{put-stays, put-costs, buffers-stay}
use Rattle.costs.proofs.costs_of.Goals as goal

pub gate_row-requires : goal.gate_row-requires
unfolding register_driver
gate_row-requires c =
    let driver : c.driver.result ≡ register_driver c.args.e.register = c.driver.ensures in
    rw driver c.requires.0.register.driver

pub gate_row-requires-2 : goal.gate_row-requires-2
unfolding register_driver
gate_row-requires-2 c =
    let driver : c.driver-2.result ≡ register_driver c.args.fifo = c.driver-2.ensures in
    rw driver c.requires.1.driver

pub returns : goal.returns
unfolding register_driver
returns c =
    let driver : c.driver.result ≡ register_driver c.args.e.register = c.driver.ensures in
    let own : c.driver-2.result ≡ register_driver c.args.fifo = c.driver-2.ensures in
    let put = c.put_row.ensures in
    let last = c.put_buffers-buffers.ensures in
    record {
      none =
          put-stays put none_at (omega arith)
          (buffers-stay last none_at (omega arith)
          (put-stays c.put_row-vertical.ensures none_at (omega arith)
          (put-stays c.put_row-horizontal.ensures none_at (omega arith)
          (put-stays c.put_row-register.ensures none_at (omega arith) (put-costs c.put_row-none.ensures c.limit_row.ensures)))));
      register =
          put-stays put register_at (omega arith)
          (buffers-stay last register_at (omega arith)
          (put-stays c.put_row-vertical.ensures register_at (omega arith)
          (put-stays c.put_row-horizontal.ensures register_at (omega arith) (put-costs c.put_row-register.ensures (rw driver at c.gate_row.ensures)))));
      horizontal = put-stays put horizontal_at (omega arith) (buffers-stay last horizontal_at (omega arith) (put-stays c.put_row-vertical.ensures horizontal_at (omega arith) (put-costs c.put_row-horizontal.ensures c.step_row.ensures)));
      vertical = put-stays put vertical_at (omega arith) (buffers-stay last vertical_at (omega arith) (put-costs c.put_row-vertical.ensures c.step_row-2.ensures));
      buffers = λ i h. put-stays put (buffers_at i) (omega (arith, c.requires.0.count)) (last.done i h);
      fifo = put-costs put (rw own at c.gate_row-2.ensures);
    }
