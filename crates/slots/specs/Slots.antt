-- Slot records (01, Slot tables): a slot's numbers, and the slots that a run of numbers makes.
use Rattle.std.specs.Prelude.{ℕ, suc, ◌+◌, ◌*◌, List, [], ◌∷◌, get_or, leb, if◌then◌else◌}
use Rattle.record.specs.Table.{max_slots, slot_width}
use Rattle.slots.specs.declared.SlotRecord.{SlotRecord}

-- the numbers of slots, of each in the order of 01, Slot tables
unfoldable pub slots_numbers : List SlotRecord → List ℕ
slots_numbers [] = []
slots_numbers (s ∷ ss) = s.kind ∷ s.start ∷ s.length ∷ s.position ∷ slots_numbers ss

-- the slots that a run of numbers makes
unfoldable pub slots_from : List ℕ → List SlotRecord
slots_from [] = []
slots_from (k ∷ []) = []
slots_from (k ∷ s ∷ []) = []
slots_from (k ∷ s ∷ n ∷ []) = []
slots_from (k ∷ s ∷ n ∷ p ∷ rest) = record { kind = k; start = s; length = n; position = p } ∷ slots_from rest

-- how many numbers the most slots have
abbrev pub max_numbers : ℕ
max_numbers = slot_width * max_slots

-- how many slots a table by value has: the most, and one more
abbrev pub table_rows : ℕ
table_rows = suc max_slots

-- ---- the steps of a call

-- the slot at a place in the numbers
abbrev pub slot_from : List ℕ → ℕ → SlotRecord
slot_from ns at =
    record
    { kind = get_or ns at 0; start = get_or ns (at + 1) 0; length = get_or ns (at + 2) 0; position = get_or ns (at + 3) 0 }

-- a slot's numbers
abbrev pub numbers_of : SlotRecord → List ℕ
numbers_of s = s.kind ∷ s.start ∷ s.length ∷ s.position ∷ []

-- how many of n slots are taken apart: more than a table may have are refused with number 1
unfoldable pub taken : ℕ → ℕ
taken n = if leb n max_slots then n else 0
