use Rattle.timing.specs.Clocks.{one_clock}
use Rattle.timing.proofs.clocks.Clocks.one.Goals as goal

pub returns : goal.returns
unfolding one_clock
returns c = simp c.zero.ensures
