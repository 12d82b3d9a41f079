-- What becomes of the values that a table showed before a reading (document 01, Reading, on bytes below the mark): a
-- claim for all layouts, records, tables, areas and marks, accepted or refused. The proof is in proofs/OldValues.antt.
use Rattle.std.specs.Prelude.{ℕ, ◌≤◌, ◌≡◌, List, eqb, if◌then◌else◌}
use Rattle.record.specs.Table.{shown}
use Rattle.record.specs.Slots.{slot_at, value_end}
use Rattle.record.specs.Reading.{Read, read}

-- how many slots a reading set: as many as its answer says, and none where it was refused
abbrev pub slots_set : Read → ℕ
slots_set r = if eqb r.answer.number 0 then r.answer.first else 0

-- what stays of slot number i of a table, where the reading left r
pub record Old (slots area : List ℕ) (mark i : ℕ) (r : Read) : Type 0 where
  -- the slot's four numbers are as they were
  pub slot : slot_at r.slots i ≡ slot_at slots i
  -- where the slot's value ends at or before the mark, it shows in the area that is left what it showed in the one lent
  pub value : value_end (slot_at slots i) ≤ mark → shown r.area (slot_at r.slots i) ≡ shown area (slot_at slots i)

-- A SLOT THAT A READING LEAVES ALONE goes on showing its value, if that ends at or before the mark.
abbrev pub OldValues : Type 0
OldValues =
    (layout bs slots area : List ℕ) (mark i : ℕ) → slots_set (read layout bs slots area mark) ≤ i
    → Old slots area mark i (read layout bs slots area mark)
