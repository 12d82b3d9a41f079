-- Version and length are chosen by numbers, and each way out is one law of the definition.
use Rattle.std.proofs.Common.{arith}
use Rattle.sheet.proofs.Calls.{write-full, write-stored}
use Rattle.sheet_write.proofs.Versions.{is-long, is-size, has_room, is-stored}
use Rattle.sheet_write.proofs.write_sheet.Goals as goal

pub returns-then-sheet-size : goal.returns-then-sheet-size
returns-then-sheet-size c =
    rw c.refused.ensures (write-full _ _ _ c.requires.sizes c.requires.measured.0
    (omega (arith, c.if-sheet-size.true, is-long c.requires c.version_for-v.ensures c.length_in-size.ensures)))

pub fill-requires : goal.fill-requires
fill-requires c =
    (has_room c.requires c.version_for-v.ensures c.length_in-size.ensures c.if-sheet-size.false, is-size c.requires c.version_for-v.ensures c.length_in-size.ensures)

pub returns : goal.returns
returns c =
    rw c.accepted.ensures
    (write-stored _ _ _ c.requires.sizes c.requires.measured.0 _ _ (is-long c.requires c.version_for-v.ensures c.length_in-size.ensures) c.if-sheet-size.false
    (is-stored c.requires c.version_for-v.ensures c.length_in-size.ensures c.fill.ensures))
