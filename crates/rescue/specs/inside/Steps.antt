-- What the functions of a rescue promise each other.
use Rattle.std.specs.Prelude.{ℕ, ◌*◌, ◌+◌, ◌≤◌, ◌≡◌, Bool, true, ◌&&◌, List, length, replicate, leb}
use Rattle.record.specs.Table.{slots_of, slot_width, max_slots}
use Rattle.sheet.specs.Sheet.{entries_numbers, version_of, version_known}
use Rattle.sheet.specs.inside.Steps.{sheet_lent_fits}
use Rattle.rescue.specs.Rescue.{cleared_entry}

-- number 1 is not given, by the lengths
abbrev pub rescue_sizes_fit : ℕ → ℕ → ℕ → ℕ → ℕ → Bool
rescue_sizes_fit slots area sheet mark legs = sheet_lent_fits slots area sheet mark && leb legs max_slots

-- none of the numbers 1, 13 and 5 is given
pub record RescueReady (sheet : List ℕ) (legs : ℕ) (slots area : List ℕ) (mark : ℕ) : Type 0 where
  pub sizes : rescue_sizes_fit (length slots) (length area) (length sheet) mark legs ≡ true
  pub versions : version_known (version_of sheet) ≡ true
  pub rows : legs ≤ length (slots_of slots)

-- the numbers of n slots that are not set
abbrev pub cleared_numbers : ℕ → List ℕ
cleared_numbers n = entries_numbers 0 (replicate n cleared_entry)

-- n slots from number k on are there
pub record Clearable (slots : List ℕ) (k n : ℕ) : Type 0 where
  pub there : slot_width * (k + n) ≤ length slots
  pub table : length slots ≤ slot_width * max_slots
