use Rattle.std.proofs.Common.{arith}
use Rattle.std.proofs.lemmas.Result.{err_from_is_err_and}
use borrow.Author.Tests.{le-leb, lt-leb}
use Rattle.answers.specs.Tables.{checked_list, list_fault, six_places}
use Rattle.answers.proofs.Made.{made, named}
use Rattle.answers.proofs.Scan.{scanned-none, scanned-more, scanned-bad, scanned-clean, scanned-all}
use Rattle.answers.proofs.buffers.check_list.Goals as goal

pub returns-then-list-gt-BUFFERS_MAX : goal.returns-then-list-gt-BUFFERS_MAX
unfolding checked_list list_fault
returns-then-list-gt-BUFFERS_MAX c = simp (lt-leb _ _ c.if-list-gt-BUFFERS_MAX.true)

pub loop-i-init : goal.loop-i-init
unfolding six_places
loop-i-init c = rw c.zero-places.ensures (scanned-none _)

pub returns-in_err-places : goal.returns-in_err-places
unfolding checked_list list_fault
returns-in_err-places c =
    let p = err_from_is_err_and c.from_residual.result c.from_residual.ensures.1 in
    let out = named _ _ c.checked.ensures c.in_err-places.ensures.value in
    rw (p.1, p.2, out.1) (simp (le-leb _ _ c.if-list-gt-BUFFERS_MAX.false, scanned-bad _ c.loop-i.i c.loop-i.places c.loop-i.invariant (omega arith) out.0))

pub loop-i-preserved : goal.loop-i-preserved
loop-i-preserved c =
    let m = made _ _ c.checked.ensures c.in_ok-places.ensures.ok_part in
    rw m.1 (scanned-more _ c.loop-i.i c.loop-i.places c.loop-i.invariant (omega arith) c.if-list-gt-BUFFERS_MAX.false m.0)

pub returns : goal.returns
unfolding checked_list list_fault
returns c =
    let s = c.loop-i.invariant in
    let l = c.args.list in
    simp (le-leb _ _ c.if-list-gt-BUFFERS_MAX.false, scanned-clean l c.loop-i.i _ s c.loop-i-test.false, scanned-all l c.loop-i.i _ s (omega arith))
