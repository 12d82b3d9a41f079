-- The premises can be met: the sheet of 02's example, a version 2 sheet of one string, and a sheet with a string and a
-- real.
use Prim.Native.Nat.{ℕ}
use native.Mathlib.Omega.{arith}
use mathlib.Core.Path.{◌≡◌, refl}
use mathlib.Core.Bool.{true}
use mathlib.Core.List.{List, [], ◌∷◌}
use lib.ListN.{replicate}
use Rattle.sheet.specs.Entries.{Entry, entries_in}
use Rattle.sheet.specs.Sheet.{header_fits, entries_at, entries_end}
use Rattle.sheet.specs.Examples.{ok_sheet, long_sheet}
use Rattle.sheet_claims.proofs.Examples.{long-read}
use Rattle.sheet_claims.specs.Older.{older_read, older_known, older_width}
use Rattle.sheet_claims.specs.OlderClaims.{Newer}
use Rattle.sheet_claims.specs.OlderKinds.{AllKnown, FirstReal, HoldsEntries}
use Rattle.sheet_claims.proofs.Older.{accepted-newer}

older : (older_read ok_sheet (replicate 16 9) (replicate 20 170) 5).answer.number ≡ 0
unfolding ok_sheet older_read
older = refl

newer : Newer long_sheet
unfolding long_sheet
newer = accepted-newer long_sheet (replicate 4 9) (replicate 65533 170) 0 long-read refl

-- "A" and 1.5
abbrev real_sheet : List ℕ
real_sheet = 1 ∷ 0 ∷ 15 ∷ 0 ∷ 2 ∷ 1 ∷ 65 ∷ 0 ∷ 9 ∷ 4 ∷ 0x3f ∷ 0xf8 ∷ 0 ∷ 0 ∷ 0 ∷ 0 ∷ 0 ∷ 0 ∷ []

abbrev text : Entry
text = record { kind = 1; value = 65 ∷ [] }

abbrev number : Entry
number = record { kind = 4; value = 0x3f ∷ 0xf8 ∷ 0 ∷ 0 ∷ 0 ∷ 0 ∷ 0 ∷ 0 ∷ [] }

held : (older_known real_sheet ≡ true) × HoldsEntries older_width real_sheet (text ∷ number ∷ [])
unfolding older_known header_fits entries_in entries_end
held = (refl, record { header = refl; entries = refl; whole = refl })

real-there : FirstReal (text ∷ number ∷ []) (text ∷ [])
real-there = record { entry = number; after = []; split = refl; known = (omega arith, tt); is_real = refl }

-- and the sheet of 02's example has no real
none-there : AllKnown (entries_at older_width ok_sheet)
unfolding ok_sheet entries_in
none-there = (omega arith, (omega arith, (omega arith, tt)))
