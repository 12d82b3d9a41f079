-- What the older reader and the reader of today make of each other's sheets (02, M-111): claims for all sheets, tables,
-- areas, marks and cuts. The proofs are in proofs/Older.antt, and proofs/OlderInstance.antt meets the premises.
use Rattle.std.specs.Prelude.{ℕ, ◌≤◌, ◌≡◌, true, false, List, length, take}
use Rattle.layout.specs.declared.Refusal.{Refusal}
use Rattle.layout.specs.declared.Refusal.TheVariants.{BadSize, BadVersion}
use Rattle.record.specs.Packing.{refusal}
use Rattle.record.specs.Reading.{Read}
use Rattle.sheet.specs.Sheet.{version2, width_of, fits_version1, version_of, entries_at, entries_end, write_sheet, read_sheet}
use Rattle.sheet.specs.Claims.{sheet_of}
use Rattle.sheet_claims.specs.Older.{older_sheet, older_table, older_lent, older_read}

-- ---- old sheets

-- Old sheets read as before, accepted and refused: to every sheet that does not begin with a 2 both readers give the
-- same answer, slots and area, where the older one is lent nothing over its sizes.
abbrev pub ReadAsBefore : Type 0
ReadAsBefore =
    (sheet slots area : List ℕ) (mark : ℕ) → older_lent (length sheet) (length slots) (length area) mark ≡ true
    → (version_of sheet ≡ version2 → ⊥)
    → read_sheet sheet slots area mark ≡ older_read sheet slots area mark

-- Every sheet that the older reader accepted is read as before.
abbrev pub AcceptedAsBefore : Type 0
AcceptedAsBefore =
    (sheet slots area : List ℕ) (mark : ℕ) → (older_read sheet slots area mark).answer.number ≡ 0
    → read_sheet sheet slots area mark ≡ older_read sheet slots area mark

-- ---- version 2 sheets

-- a whole version 2 sheet, by its bytes alone: it begins with a 2, its entries take all that follows the header, and
-- version 1 has no room for them
pub record Newer (sheet : List ℕ) : Type 0 where
  pub version : version_of sheet ≡ version2
  pub whole : entries_end (width_of version2) (entries_at (width_of version2) sheet) ≡ length sheet
  pub needed : fits_version1 (entries_at (width_of version2) sheet) ≡ false

-- every sheet of version 2 that the writer leaves is whole, and so is every one that the reader accepts
abbrev pub WrittenNewer : Type 0
WrittenNewer =
    (slots area buffer : List ℕ) → (write_sheet slots area buffer).answer.number ≡ 0
    → version_of (sheet_of (write_sheet slots area buffer)) ≡ version2
    → Newer (sheet_of (write_sheet slots area buffer))

abbrev pub AcceptedNewer : Type 0
AcceptedNewer =
    (sheet slots area : List ℕ) (mark : ℕ) → (read_sheet sheet slots area mark).answer.number ≡ 0
    → version_of sheet ≡ version2 → Newer sheet

-- the older reader refuses, and leaves slots and area
abbrev pub refuses : List ℕ → List ℕ → Refusal → Read
refuses slots area why = record { answer = refusal why 0; slots = slots; area = area }

-- A version 2 sheet that is whole the older reader refuses with 1, whatever else it is lent.
abbrev pub WholeRefused : Type 0
WholeRefused =
    (sheet : List ℕ) → Newer sheet → (slots area : List ℕ) (mark : ℕ)
    → older_read sheet slots area mark ≡ refuses slots area BadSize

-- The older reader answers 13 to a version 2 sheet that was cut, if a byte is left and the limit of its own sheets is
-- kept, where it is lent slots, area and mark that keep to their limits.
abbrev pub CutRefused : Type 0
CutRefused =
    (sheet : List ℕ) → Newer sheet → (k : ℕ) → 1 ≤ k → k ≤ older_sheet → (slots area : List ℕ) (mark : ℕ)
    → older_table (length slots) (length area) mark ≡ true
    → older_read (take k sheet) slots area mark ≡ refuses slots area BadVersion
