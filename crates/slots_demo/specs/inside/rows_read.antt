-- Reading over a part of a table of slot records.
use Rattle.std.specs.Prelude.{ℕ, ◌≡◌, List, ◌++◌, take, drop}
use Rattle.slots.specs.declared.SlotRecord.{SlotRecord}
use Rattle.slots.specs.Reading.{ReadSlots, read_slots}
use Rattle.slots_demo.specs.declared.rows_read.Outcome.{Outcome}

-- what a reading leaves with the slots that it was not lent (`rest`); and a reading into the first n slots, where the
-- others stay
abbrev pub with_rest : List SlotRecord → ReadSlots → ReadSlots
with_rest rest e = record { answer = e.answer; slots = e.slots ++ rest; area = e.area }

unfoldable pub read_part : List ℕ → List ℕ → List SlotRecord → ℕ → List ℕ → ℕ → ReadSlots
unfolding read_slots
read_part layout bs slots n area mark = with_rest (drop n slots) (read_slots layout bs (take n slots) area mark)

-- what `read_part` leaves, as an outcome and the area
abbrev pub ReadsRows : List ℕ → List ℕ → List SlotRecord → ℕ → List ℕ → List ℕ → ℕ → Outcome → Type 0
ReadsRows layout bytes slots n area area' mark r =
    record { answer = r.answer; slots = r.slots; area = area' }
    ≡ read_part layout bytes slots n area mark
