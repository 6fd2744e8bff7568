-- The lines of the first i visits are put, in at most 12 bytes each.
use Rattle.std.proofs.Common.{◌+◌, ◌*◌, ◌≤◌}
use Rattle.text.specs.Answers.{visit_lines}
use Rattle.text.specs.Put.{Put}
use Rattle.text.proofs.answer.put_visits.Given as goal

abbrev pub invariant-loop-i : goal.invariant-loop-i
invariant-loop-i l = (l.at ≤ l.start + 12 * l.i) × Put (visit_lines l.visits l.i) l.start l.at l.initial.out l.out
