-- `search::idle::idle_from`: both rows, either way.
use Rattle.search.proofs.idle.idle_from.Goals as goal

pub returns : goal.returns
returns c = record { registers = c.no_less.ensures; fifos = c.no_less-2.ensures }
