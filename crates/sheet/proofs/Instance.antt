-- The premises of both claims can be met: the table and the sheet of 02's example.
use native.Mathlib.Omega.{arith}
use mathlib.Core.Path.{refl}
use lib.ListN.{replicate}
use Rattle.record.specs.Table.{slots_of}
use Rattle.sheet.specs.Entries.{entry_values}
use Rattle.sheet.specs.Sheet.{entries_of, write_sheet, read_sheet}
use Rattle.sheet.specs.Examples.{ok_table, ok_area, ok_sheet}
use Rattle.sheet.specs.Claims.{Stored, Loaded}
use Rattle.sheet.proofs.Bounds.{all-bytes}

stored : Stored ok_table ok_area (replicate 30 170) (replicate 16 9) (replicate 20 170) 5
unfolding ok_table ok_area write_sheet slots_of entries_of entry_values
stored = record { writing = refl; sizes = tt; enough-slots = omega arith; room = omega arith }

loaded : Loaded ok_sheet (replicate 16 9) (replicate 20 170) 5 (replicate 22 170)
unfolding ok_sheet read_sheet
loaded = record { bytes = all-bytes ok_sheet tt; reading = refl; size = omega arith; room = omega arith }
