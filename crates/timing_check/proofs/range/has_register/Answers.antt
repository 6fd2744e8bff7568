-- The constructor's answer tells its range test.
use Rattle.std.proofs.Common.{arith}
use Rattle.std.proofs.lemmas.Bool.Decides.{nat_tests}
use Rattle.timing.specs.Elements.{checked_register}
use Rattle.timing_check.proofs.range.has_register.Goals as goal

pub returns : goal.returns
unfolding checked_register
returns c = grind (arith, nat_tests)
