use Rattle.std.proofs.Common.{◌≡◌, sym, arith, Some, None}
use Rattle.std.proofs.lemmas.Result.{err_from_is_err_and}
use Rattle.numbers.specs.Numbers.{value, number, read_of}
use Rattle.numbers.specs.Runs.{run_of}
use Rattle.numbers.specs.declared.fault.JobFault.{JobFault}
use Rattle.numbers.proofs.Sequence.{going_start, going_more, going-fault, going-above, going_done}
use Rattle.numbers.proofs.series.read_series.Goals as goal
use Rattle.numbers.proofs.series.read_series.Goals.{In_ok-value}

-- the number read
read : (c : In_ok-value) → number c.loop-word.rest.now ≡ value c.in_ok-value.value c.in_ok-value.next.now
unfolding read_of
read c =
    let some : c.read_number.result ≡ Some (c.in_ok-value.value, c.in_ok-value.next) = grind arith in
    sym (rw some at c.read_number.ensures)

pub loop-word-init : goal.loop-word-init
loop-word-init c = going_start _ _ _ _ _

pub returns-in_err-value : goal.returns-in_err-value
unfolding read_of run_of
returns-in_err-value c =
    let p = err_from_is_err_and c.from_residual.result c.from_residual.ensures.1 in
    let none : c.read_number.result ≡ None = grind arith in
    let bytes : c.in_err-value.field-0.0 ≡ JobFault.Bytes = grind arith in
    rw (p.1, p.2, bytes) (going-fault _ _ _ _ _ _ _ c.loop-word.invariant c.loop-word-test.true (sym (rw none at c.read_number.ensures)))

pub returns-then-top-value : goal.returns-then-top-value
unfolding run_of
returns-then-top-value c =
    going-above _ _ _ _ _ _ _ c.loop-word.invariant c.loop-word-test.true _ _ (read (goal.at.returns-then-top-value c).In_ok-value) c.if-top-value.true

pub loop-word-preserved : goal.loop-word-preserved
loop-word-preserved c =
    going_more _ _ _ _ _ _ _ c.loop-word.invariant c.loop-word-test.true _ _ (omega arith) (read (goal.at.loop-word-preserved c).In_ok-value) c.if-top-value.false

pub returns : goal.returns
unfolding run_of
returns c =
    going_done _ _ _ _ c.loop-word.words c.loop-word.rest.now c.loop-word.word-index c.loop-word.auto.words (omega arith) c.loop-word.invariant
