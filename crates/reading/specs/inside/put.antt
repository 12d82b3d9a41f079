-- The slot and the area that one value is put into: the room that it needs, and what it changes.
use Rattle.std.specs.Prelude.{ℕ, ◌+◌, ◌*◌, ◌≤◌, ◌≡◌, List, [], ◌∷◌, length}
use Rattle.record.specs.Bytes.{store_at}
use Rattle.record.specs.Table.{slot_width, max_slots, max_area, Value, area_bytes, slot_numbers}

-- there is room for one value in slot k and in the area from the place `to` on
pub record PutRoom (v : Value) (slots : List ℕ) (k : ℕ) (area : List ℕ) (to : ℕ) : Type 0 where
  pub row : slot_width * k + slot_width ≤ length slots
  pub table : length slots ≤ slot_width * max_slots
  pub room : to + length (area_bytes v) ≤ length area
  pub limit : length area ≤ max_area

-- slot k and the area have the value v of a field that began at `at`, and r is the place after it
pub record PutAs (v : Value) (at : ℕ) (slots : List ℕ) (k : ℕ) (area : List ℕ) (to r : ℕ) (slots' area' : List ℕ) :
    Type 0 where
  pub next : r ≡ to + length (area_bytes v)
  pub table : slots' ≡ store_at slots (slot_width * k) (slot_numbers to (at ∷ []) (v ∷ []))
  pub values : area' ≡ store_at area to (area_bytes v)
