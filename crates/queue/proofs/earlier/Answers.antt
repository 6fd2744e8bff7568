-- `queue::earlier`: the two delays, compared.
use Rattle.queue.proofs.earlier.Goals as goal

pub returns : goal.returns
returns c = cc (c.delay_at.ensures, c.delay_at-2.ensures)
