-- The loop keeps `Scanned`: the places looked at hold their buffers, and the first fault is among the rest.
use Rattle.answers.proofs.Scan.{Scanned}
use Rattle.answers.proofs.buffers.check_list.Given as goal

abbrev pub invariant-loop-i : goal.invariant-loop-i
invariant-loop-i l = Scanned l.list l.i l.places
