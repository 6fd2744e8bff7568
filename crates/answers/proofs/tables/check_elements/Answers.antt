-- Each test that is passed, or the element that it lets be made, rewrites the chain of tests.
use Rattle.std.proofs.Common.{sym}
use borrow.Author.Tests.{le-leb, lt-leb}
use Rattle.std.proofs.lemmas.Result.{err_from_is_err_and}
use Rattle.answers.specs.Tables.{checked_list, elements_of}
use Rattle.answers.specs.Crossing.{checked_elements, crossing_elements, clocks_of}
use Rattle.answers.proofs.Made.{made, named, found-fault, found-none}
use Rattle.answers.proofs.tables.check_elements.Goals as goal

pub returns-then-t-gt-SKEW_MAX : goal.returns-then-t-gt-SKEW_MAX
unfolding checked_elements
returns-then-t-gt-SKEW_MAX c = simp (lt-leb _ _ c.if-t-gt-SKEW_MAX.true)

pub returns-then-t-gt-LIMIT_MAX : goal.returns-then-t-gt-LIMIT_MAX
unfolding checked_elements
returns-then-t-gt-LIMIT_MAX c = simp (le-leb _ _ c.if-t-gt-SKEW_MAX.false, lt-leb _ _ c.if-t-gt-LIMIT_MAX.true)

pub returns-in_err-horizontal : goal.returns-in_err-horizontal
unfolding checked_elements
returns-in_err-horizontal c =
    let p = err_from_is_err_and c.from_residual.result c.from_residual.ensures.1 in
    let out = named _ _ c.checked.ensures c.in_err-horizontal.ensures.value in
    rw (p.1, p.2, out.1) (simp (le-leb _ _ c.if-t-gt-SKEW_MAX.false, le-leb _ _ c.if-t-gt-LIMIT_MAX.false, out.0))

pub returns-in_err-vertical : goal.returns-in_err-vertical
unfolding checked_elements
returns-in_err-vertical c =
    let p = err_from_is_err_and c.from_residual-in_err-vertical.result c.from_residual-in_err-vertical.ensures.1 in
    let out = named _ _ c.checked-2.ensures c.in_err-vertical.ensures.value in
    let h = made _ _ c.checked.ensures c.in_ok-horizontal.ensures.ok_part in
    rw (p.1, p.2, out.1) (simp (le-leb _ _ c.if-t-gt-SKEW_MAX.false, le-leb _ _ c.if-t-gt-LIMIT_MAX.false, h.0, out.0))

pub returns-in_err-register : goal.returns-in_err-register
unfolding checked_elements
returns-in_err-register c =
    let p = err_from_is_err_and c.from_residual-in_err-register.result c.from_residual-in_err-register.ensures.1 in
    let out = named _ _ c.checked-3.ensures c.in_err-register.ensures.value in
    let h = made _ _ c.checked.ensures c.in_ok-horizontal.ensures.ok_part in
    let v = made _ _ c.checked-2.ensures c.in_ok-vertical.ensures.ok_part in
    rw (p.1, p.2, out.1) (simp (le-leb _ _ c.if-t-gt-SKEW_MAX.false, le-leb _ _ c.if-t-gt-LIMIT_MAX.false, h.0, v.0, out.0))

pub returns-in_err-fifo : goal.returns-in_err-fifo
unfolding checked_elements
returns-in_err-fifo c =
    let p = err_from_is_err_and c.from_residual-in_err-fifo.result c.from_residual-in_err-fifo.ensures.1 in
    let out = named _ _ c.checked-4.ensures c.in_err-fifo.ensures.value in
    let h = made _ _ c.checked.ensures c.in_ok-horizontal.ensures.ok_part in
    let v = made _ _ c.checked-2.ensures c.in_ok-vertical.ensures.ok_part in
    let r = made _ _ c.checked-3.ensures c.in_ok-register.ensures.ok_part in
    rw (p.1, p.2, out.1) (simp (le-leb _ _ c.if-t-gt-SKEW_MAX.false, le-leb _ _ c.if-t-gt-LIMIT_MAX.false, h.0, v.0, r.0, out.0))

pub returns-in_err-buffers : goal.returns-in_err-buffers
unfolding checked_elements checked_list
returns-in_err-buffers c =
    let p = err_from_is_err_and c.from_residual-in_err-buffers.result c.from_residual-in_err-buffers.ensures.1 in
    let h = made _ _ c.checked.ensures c.in_ok-horizontal.ensures.ok_part in
    let v = made _ _ c.checked-2.ensures c.in_ok-vertical.ensures.ok_part in
    let r = made _ _ c.checked-3.ensures c.in_ok-register.ensures.ok_part in
    let x = made _ _ c.checked-4.ensures c.in_ok-fifo.ensures.ok_part in
    let out = found-fault _ _ (sym c.in_err-buffers.ensures) in
    rw (p.1, p.2) (simp (le-leb _ _ c.if-t-gt-SKEW_MAX.false, le-leb _ _ c.if-t-gt-LIMIT_MAX.false, h.0, v.0, r.0, x.0, out))

pub returns : goal.returns
unfolding checked_elements crossing_elements elements_of clocks_of checked_list
returns c =
    let h = made _ _ c.checked.ensures c.in_ok-horizontal.ensures.ok_part in
    let v = made _ _ c.checked-2.ensures c.in_ok-vertical.ensures.ok_part in
    let r = made _ _ c.checked-3.ensures c.in_ok-register.ensures.ok_part in
    let x = made _ _ c.checked-4.ensures c.in_ok-fifo.ensures.ok_part in
    let b = found-none _ _ (sym c.in_ok-buffers.ensures) in
    simp (le-leb _ _ c.if-t-gt-SKEW_MAX.false, le-leb _ _ c.if-t-gt-LIMIT_MAX.false, h.0, v.0, r.0, x.0, b.0, h.1, v.1, r.1, x.1, b.1, c.list.ensures)
