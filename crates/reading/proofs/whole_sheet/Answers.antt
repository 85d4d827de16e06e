use Rattle.std.proofs.Common.{sym, arith}
use Rattle.std.proofs.lemmas.List.{take_rest}
use Rattle.reading.proofs.Going.{start, start_err, size_fits, size_some, record_err, put_err, put_more, ended, refuses}
use Rattle.reading.proofs.whole_sheet.Goals as goal

pub loop-item-init : goal.loop-item-init
loop-item-init c = start _ _ (sym c.in_ok-sheet.ensures)

pub loop-item-smaller : goal.loop-item-smaller
loop-item-smaller c =
    let item = c.in_ok-item.item in
    let fits = size_fits c.args.bytes.now c.loop-item.place item (rw take_rest at (sym c.in_ok-item.ensures)) in
    omega (arith, fits, size_some item, c.size-place.ensures)

pub loop-item-preserved : goal.loop-item-preserved
loop-item-preserved c =
    rw (c.in_ok-put.ensures.after, c.size-place.ensures)
    (put_more _ _ _ c.loop-item.invariant _ (rw take_rest at (sym c.in_ok-item.ensures)) c.in_default.not-End (sym c.in_ok-put.ensures.answer))

pub returns-in_err-sheet : goal.returns-in_err-sheet
returns-in_err-sheet c =
    refuses _ _ _ c.from_residual.ensures.1 (sym (start_err c.args.bytes.now _ (sym c.in_err-sheet.ensures)))

pub returns-in_err-item : goal.returns-in_err-item
returns-in_err-item c =
    refuses _ _ _ c.from_residual-in_err-item.ensures.1 (record_err _ _ _ c.loop-item.invariant _ (rw take_rest at (sym c.in_err-item.ensures)))

pub returns-in_err-put : goal.returns-in_err-put
returns-in_err-put c =
    refuses _ _ _ c.from_residual-in_err-put.ensures.1 (put_err _ _ _ c.loop-item.invariant _ (rw take_rest at (sym c.in_ok-item.ensures)) c.in_default.not-End _ (sym c.in_err-put.ensures.answer))

pub returns-in_err-close : goal.returns-in_err-close
returns-in_err-close c =
    refuses _ _ _ c.from_residual-in_err-close.ensures.1 (ended _ _ _ c.loop-item.invariant _ (rw take_rest at (sym c.in_ok-item.ensures)) c.in-End.is _ (sym c.in_err-close.ensures))

pub returns : goal.returns
returns c =
    ended _ _ _ c.loop-item.invariant _ (rw take_rest at (sym c.in_ok-item.ensures)) c.in-End.is _ (sym c.in_ok-close.ensures)
