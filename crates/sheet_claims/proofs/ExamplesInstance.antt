-- The premises of both round trips can be met by version 2 sheets: one string of 65,533 bytes, a byte more than version
-- 1 has room for.
use native.Mathlib.Omega.{arith}
use mathlib.Core.Path.{◌≡◌, refl}
use mathlib.Core.List.{List, [], ◌∷◌}
use Prim.Native.Nat.{ℕ}
use lib.ListN.{replicate}
use Rattle.record.specs.Table.{slots_of}
use Rattle.sheet.specs.Entries.{entry_values}
use Rattle.sheet.specs.Sheet.{version2, entries_of, version_of, write_sheet}
use Rattle.sheet.specs.Claims.{sheet_of, Stored, Loaded}
use Rattle.sheet.specs.Examples.{long_sheet}
use Rattle.sheet.proofs.Bounds.{all-bytes}
use Rattle.sheet_claims.proofs.Examples.{long-read}

loaded : Loaded long_sheet (replicate 4 9) (replicate 65533 170) 0 (replicate 65543 170)
unfolding long_sheet
loaded = record { bytes = all-bytes long_sheet tt; reading = long-read; size = omega arith; room = omega arith }

-- the table: one slot, over an area of 65,533 bytes 65
abbrev long_table : List ℕ
long_table = 1 ∷ 0 ∷ 65533 ∷ 9 ∷ []

stored : Stored long_table (replicate 65533 65) (replicate 65543 170) (replicate 4 9) (replicate 65533 170) 0
unfolding write_sheet slots_of entries_of entry_values
stored = record { writing = refl; sizes = tt; enough-slots = omega arith; room = omega arith }

second : version_of (sheet_of (write_sheet long_table (replicate 65533 65) (replicate 65543 170))) ≡ version2
unfolding write_sheet
second = refl
