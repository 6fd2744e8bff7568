use Rattle.std.proofs.Common.{arith}
use Rattle.std.proofs.lemmas.Bool.Decides.{nat_tests}
use Rattle.timing.specs.Elements.{checked_register, register_in_range, register_of, driver_of}
use Rattle.timing.proofs.elements.Register.checked.Goals as goal

pub returns-then-setup-le-SETUP_MAX : goal.returns-then-setup-le-SETUP_MAX
unfolding checked_register register_in_range register_of driver_of
returns-then-setup-le-SETUP_MAX c = grind (arith, nat_tests)

pub returns-else-resistance-le-RESISTANCE_MAX : goal.returns-else-resistance-le-RESISTANCE_MAX
unfolding checked_register register_in_range register_of driver_of
returns-else-resistance-le-RESISTANCE_MAX c = grind (arith, nat_tests)
