-- What the functions of this crate promise each other.
use Rattle.std.specs.Prelude.{ℕ, ◌+◌, ◌*◌, ◌≤◌, ◌≡◌, List, length}
use Rattle.record.specs.Bytes.{store_at}
use Rattle.record.specs.Table.{slot_width, max_slots, max_area}
use Rattle.record.specs.Reading.{Read}
use Rattle.sheet.specs.Entries.{Entry, entry_values}
use Rattle.sheet.specs.Sheet.{entry_numbers, put_entries}
use Rattle.sheet_read.specs.inside.check.{front_of}

-- a table and an area with the first of a sheet's whole entries put in, at most `most`
abbrev pub put_front : ℕ → ℕ → List ℕ → List ℕ → List ℕ → ℕ → Read
put_front w most sheet slots area mark = put_entries slots area mark (front_of w most sheet)

-- there is room for the entries es, and table and area keep to their sizes
pub record Room (es : List Entry) (slots area : List ℕ) (mark : ℕ) : Type 0 where
  pub rows : slot_width * length es ≤ length slots
  pub table : length slots ≤ slot_width * max_slots
  pub room : mark + length (entry_values es) ≤ length area
  pub limit : length area ≤ max_area

-- there is room for the entry e in slot k and in the area from the place `to` on
pub record PutRoom (e : Entry) (slots : List ℕ) (k : ℕ) (area : List ℕ) (to : ℕ) : Type 0 where
  pub row : slot_width * k + slot_width ≤ length slots
  pub table : length slots ≤ slot_width * max_slots
  pub room : to + length e.value ≤ length area
  pub limit : length area ≤ max_area

-- slot k and the area have the entry e, and r is how many bytes its value has
pub record PutAs (e : Entry) (slots : List ℕ) (k : ℕ) (area : List ℕ) (to r : ℕ) (slots' area' : List ℕ) : Type 0 where
  pub size : r ≡ length e.value
  pub table : slots' ≡ store_at slots (slot_width * k) (entry_numbers to e)
  pub values : area' ≡ store_at area to e.value
