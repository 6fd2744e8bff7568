-- The fault that `check_tables` answers, as a number.
use Rattle.std.proofs.Common.{◌≡◌}
use Rattle.std.specs.Result.{result_err}
use Rattle.answers.specs.Tables.{tables_fault, elements_of, checked_tables}
use Rattle.answers.proofs.Made.{fault-found}
use Rattle.timing_check.specs.Faults.{tables_with, list_with, fault_with}
use Rattle.timing_check.proofs.fault.fault.Goals as goal

pub returns : goal.returns
unfolding fault_with checked_tables
returns c =
    let a = c.args in
    let t = tables_with a.period a.skew a.limit a.horizontal a.vertical a.register in
    let l = list_with a.n a.buffer in
    let found : result_err c.check_tables-checked.result ≡ tables_fault t l = rw (c.check_tables-checked.ensures, c.read_list.ensures, c.list.ensures, c.tables.ensures) (fault-found (tables_fault t l) (elements_of t l)) in
    rw (c.number.ensures, c.err.ensures.value, found)
