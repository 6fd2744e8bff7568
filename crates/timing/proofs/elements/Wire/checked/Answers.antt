use Rattle.std.proofs.Common.{arith}
use Rattle.std.proofs.lemmas.Bool.Decides.{nat_tests}
use Rattle.timing.specs.Elements.{checked_wire, wire_in_range, wire_of}
use Rattle.timing.proofs.elements.Wire.checked.Goals as goal

pub returns-then-load-le-LOAD_MAX : goal.returns-then-load-le-LOAD_MAX
unfolding checked_wire wire_in_range wire_of
returns-then-load-le-LOAD_MAX c = grind (arith, nat_tests)

pub returns-else-resistance-le-RESISTANCE_MAX : goal.returns-else-resistance-le-RESISTANCE_MAX
unfolding checked_wire wire_in_range wire_of
returns-else-resistance-le-RESISTANCE_MAX c = grind (arith, nat_tests)
