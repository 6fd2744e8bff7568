-- The fault that `check_crossing` answers, as a number.
use Rattle.std.proofs.Common.{◌≡◌}
use Rattle.std.specs.Result.{result_err}
use Rattle.answers.specs.Crossing.{crossing_fault, crossing_elements, checked_crossing}
use Rattle.answers.proofs.Made.{fault-found}
use Rattle.timing_check.specs.Faults.{crossing_number_of}
use Rattle.timing_check.proofs.crossing.number_of.Goals as goal

pub returns : goal.returns
unfolding crossing_number_of checked_crossing
returns c =
    let a = c.args in
    let found : result_err c.check_crossing.result ≡ crossing_fault a.t a.x a.list = rw (c.check_crossing.ensures, c.read_list.ensures) (fault-found (crossing_fault a.t a.x a.list) (crossing_elements a.t a.x a.list)) in
    rw (c.number.ensures, c.err.ensures.value, found)
