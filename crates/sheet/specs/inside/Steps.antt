-- What the functions of the writer and of the reader promise each other in common.
use Rattle.std.specs.Prelude.{ℕ, ◌≡◌, Bool, true, ◌&&◌, List, length, leb}
use Rattle.record.specs.Table.{slots_of}
use Rattle.sheet.specs.Entries.{body_bytes}
use Rattle.sheet.specs.declared.lengths.Version.{Version}
use Rattle.sheet.specs.declared.lengths.Version.TheVariants.{One, Two}
use Rattle.sheet.specs.Sheet.{version1, version2, width_of, sheet_bytes, version_for, sheet_sizes_fit, entries_of, version_of, version_known, width_in, header_fits}

-- ---- versions

-- the byte that names a version, and how many bytes its lengths have
abbrev pub byte_of : Version → ℕ
byte_of One = version1
byte_of Two = version2

abbrev pub width : Version → ℕ
width v = width_of (byte_of v)

-- ---- writing

-- the entries of a table, and its sheet; w is the width of a length
abbrev pub body_for : ℕ → List ℕ → List ℕ → List ℕ
body_for w slots area = body_bytes w (entries_of area (slots_of slots))

abbrev pub sheet_for : ℕ → ℕ → List ℕ → List ℕ → List ℕ
sheet_for v w slots area = sheet_bytes v w (entries_of area (slots_of slots))

-- the version that a table is written as, and its sheet in that version
abbrev pub version_of_table : List ℕ → List ℕ → ℕ
version_of_table slots area = version_for (entries_of area (slots_of slots))

abbrev pub table_sheet : List ℕ → List ℕ → List ℕ
table_sheet slots area = sheet_for (version_of_table slots area) (width_of (version_of_table slots area)) slots area

-- ---- reading

-- number 1 is not given in reading, by the lengths
abbrev pub sheet_lent_fits : ℕ → ℕ → ℕ → ℕ → Bool
sheet_lent_fits slots area sheet mark = sheet_sizes_fit slots area sheet && leb mark area

-- number 1 is not given, the version is known, and the header is sound
pub record SheetOpened (sheet slots area : List ℕ) (mark : ℕ) : Type 0 where
  pub sizes : sheet_lent_fits (length slots) (length area) (length sheet) mark ≡ true
  pub versions : version_known (version_of sheet) ≡ true
  pub header : header_fits (width_in sheet) sheet ≡ true
