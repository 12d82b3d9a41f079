-- The premises of the claims can be met: the table and the sheet of 02's example, and what a rescue of that sheet, cut
-- inside its last entry, left.
use native.Mathlib.Omega.{arith}
use mathlib.Core.Path.{◌≡◌, refl}
use lib.ListN.{take, replicate}
use Rattle.record.specs.Table.{slots_of}
use Rattle.sheet.specs.Entries.{entry_values}
use Rattle.sheet.specs.Sheet.{entries_of, write_sheet, read_sheet}
use Rattle.sheet.specs.Examples.{ok_table, ok_area, ok_sheet}
use Rattle.sheet.specs.Claims.{Stored}
use Rattle.rescue.specs.Rescue.{rescue}
use Rattle.rescue.specs.Claims.{RescuedAgain, end_by, CutStored}

reading : (read_sheet ok_sheet (replicate 16 9) (replicate 20 170) 5).answer.number ≡ 0
unfolding ok_sheet read_sheet
reading = refl

stored : Stored ok_table ok_area (replicate 30 170) (replicate 16 9) (replicate 20 170) 5
unfolding ok_table ok_area write_sheet slots_of entries_of entry_values
stored = record { writing = refl; sizes = tt; enough-slots = omega arith; room = omega arith }

again : RescuedAgain (take 21 ok_sheet) 3 (replicate 16 9) (replicate 20 170) 5 (replicate 30 170) (replicate 12 9) (replicate 2 170) 0
unfolding ok_sheet rescue write_sheet slots_of entries_of entry_values
again = record {
  rescuing = refl;
  stored = record { writing = refl; sizes = tt; enough-slots = omega arith; room = omega arith };
}

-- cut after its second entry, with room for that entry's value alone
cut-stored : CutStored ok_table ok_area (replicate 30 170) (replicate 16 9) (replicate 7 170) 5 11
unfolding ok_table ok_area write_sheet slots_of entries_of entry_values end_by
cut-stored = record { writing = refl; sizes = tt; enough-slots = omega arith; room = omega arith }
