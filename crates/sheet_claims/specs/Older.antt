-- The reader of sheets as it was defined before M-111, with the limits that it had.
use Rattle.std.specs.Prelude.{ℕ, ◌+◌, ◌*◌, ◌%◌, Bool, true, ◌&&◌, List, [], ◌∷◌, length, eqb, leb}
use Rattle.layout.specs.declared.Refusal.TheVariants.{BadSize, BadSlots, NoRoom, BadSheet, BadVersion}
use Rattle.layout.specs.Refusals.{Result, ok, ◌>>=◌, demand}
use Rattle.record.specs.Table.{slots_of, slot_width, max_slots}
use Rattle.record.specs.Reading.{Read}
use Rattle.sheet.specs.Entries.{Entry, entry_values, entries_in}
use Rattle.sheet.specs.Sheet.{header_fits, entries_at, entries_end, put_entries, sheet_read_effect}

-- ---- sizes (number 1)

abbrev pub older_area : ℕ
older_area = 65536

abbrev pub older_sheet : ℕ
older_sheet = 65538

-- slots, area and mark keep to the sizes of that time, by their lengths
abbrev pub older_table : ℕ → ℕ → ℕ → Bool
older_table slots area mark =
    leb slots (slot_width * max_slots) && eqb (slots % slot_width) 0 && leb area older_area && leb mark area

-- number 1 is not given: slots, area and mark keep to the sizes of that time, and so does the sheet
abbrev pub older_lent : ℕ → ℕ → ℕ → ℕ → Bool
older_lent sheet slots area mark = leb sheet older_sheet && older_table slots area mark

-- ---- the call

-- the one version, and the bytes of its lengths
abbrev pub older_version : ℕ
older_version = 1

abbrev pub older_width : ℕ
older_width = 2

-- the version is the one that was known, or number 13 applies
unfoldable pub older_known : List ℕ → Bool
older_known [] = true
older_known (b ∷ bs) = eqb b older_version

unfoldable pub older_reads : List ℕ → List ℕ → List ℕ → ℕ → Result (List Entry)
unfolding older_known header_fits entries_in entries_end slots_of entry_values
older_reads sheet slots area mark = do
  _ ← demand (older_lent (length sheet) (length slots) (length area) mark) BadSize 0
  _ ← demand (older_known sheet) BadVersion 0
  _ ← demand (header_fits older_width sheet) BadSheet 0
  let es = entries_at older_width sheet
  _ ← demand (eqb (entries_end older_width es) (length sheet)) BadSheet (entries_end older_width es)
  _ ← demand (leb (length es) (length (slots_of slots))) BadSlots 0
  _ ← demand (leb (mark + length (entry_values es)) (length area)) NoRoom 0
  ok es

unfoldable pub older_read : List ℕ → List ℕ → List ℕ → ℕ → Read
unfolding older_reads put_entries
older_read sheet slots area mark = sheet_read_effect slots area mark (older_reads sheet slots area mark)
