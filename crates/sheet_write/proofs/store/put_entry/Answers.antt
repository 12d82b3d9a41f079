-- Length, kind and value are stored side by side.
use Rattle.std.proofs.Common.{arith, length-set}
use Rattle.sheet.specs.Sheet.{entry_of}
use Rattle.sheet.specs.inside.Steps.{width}
use Rattle.sheet.proofs.Entries.{length-entry}
use Rattle.sheet.proofs.Tables.{length-value}
use Rattle.sheet_write.proofs.store.Writing.{entry-stored}
use Rattle.sheet_write.proofs.store.put_entry.Goals as goal

pub put_value-requires : goal.put_value-requires
put_value-requires c =
    let v = length-value c.args.area.now c.args.a c.requires.fits in
    (c.requires.fits, c.value_size-size.ensures, simp length-set (omega (arith, c.put_number.auto.out, c.value_size-size.ensures, c.header.ensures, v, c.requires.room)))

pub returns : goal.returns
returns c =
    let size = c.value_size-size.ensures in
    let p = c.put_number.ensures in
    let q = c.put_value.ensures in
    let v = length-value c.args.area.now c.args.a c.requires.fits in (
      entry-stored c.args.area.now c.args.a c.requires.fits (width c.args.v) c.args.out.now _ _ c.args.at _ size c.requires.room (rw c.width.ensures.0 at p)
          (rw (c.width-2.ensures.0, c.header.ensures.0) at q),
      omega (arith, length-entry (width c.args.v) (entry_of c.args.area.now c.args.a), v, size, c.header-2.ensures),
    )
