-- Header and entries, stored side by side, are the sheet.
use Rattle.std.proofs.Common.{arith}
use Rattle.sheet.specs.inside.Steps.{byte_of, width}
use Rattle.sheet_write.proofs.store.Writing.{sheet-stored}
use Rattle.sheet_write.proofs.store.fill.Goals as goal

pub returns : goal.returns
returns c =
    let p = c.put_number.ensures in
    sheet-stored (byte_of c.args.v) (width c.args.v) c.args.slots.now c.args.area.now c.args.out.now _ _ _ (omega (arith, c.requires.1, c.header.ensures)) c.requires.0.room
    (rw (c.byte.ensures, c.width.ensures.0) at p) c.put_body.ensures
