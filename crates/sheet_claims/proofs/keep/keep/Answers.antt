-- The effect is that of the two calls one after the other, and the claim follows from it.
use Rattle.std.proofs.Common.{sym, length-take-le}
use Rattle.sheet_claims.proofs.keep.Keeping.{sheet-room, then-refused, then-read, promised}
use Rattle.sheet_claims.proofs.keep.keep.Goals as goal

pub returns-then-a-ne0 : goal.returns-then-a-ne0
returns-then-a-ne0 c =
    let both = promised _ _ _ _ _ _ _ (then-refused _ _ _ _ _ _ _ _ c.write-a.ensures c.if-a-ne0.true) in
    record { effect = both.0; values_kept = both.1 }

pub slice_bounds-read-end : goal.slice_bounds-read-end
slice_bounds-read-end c =
    let args = c.args in
    sheet-room args.slots.now args.area.now args.sheet.now args.table.now args.values.now args.mark _ _ c.write-a.ensures c.if-a-ne0.false

pub slice_bounds-read-end-2 : goal.slice_bounds-read-end-2
slice_bounds-read-end-2 c =
    let args = c.args in
    sym (length-take-le _ _
    (sheet-room args.slots.now args.area.now args.sheet.now args.table.now args.values.now args.mark _ _ c.write-a.ensures c.if-a-ne0.false))

pub returns : goal.returns
returns c =
    let both = promised _ _ _ _ _ _ _
    (then-read _ _ _ _ _ _ _ _ c.write-a.ensures c.if-a-ne0.false _ _ _ c.read.ensures) in
    record { effect = both.0; values_kept = both.1 }
