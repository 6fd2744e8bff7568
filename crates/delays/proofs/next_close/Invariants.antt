-- `least` is the earliest close after the bound among the cells before c.
use Rattle.delays.proofs.Closes.{Nearest}
use Rattle.delays.proofs.next_close.Given as goal

abbrev pub invariant-loop-c : goal.invariant-loop-c
invariant-loop-c l = Nearest l.n l.scratch l.bound l.c l.least
