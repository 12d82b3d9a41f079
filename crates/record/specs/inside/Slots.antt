-- Slots as code reads and sets them.
use Rattle.std.specs.Prelude.{ℕ, ◌*◌, Bool, List, [], ◌∷◌, length, leb}
use Rattle.record.specs.declared.slots.Slot.{Slot}
use Rattle.record.specs.Slots.{value_end}
use Rattle.record.specs.Bytes.{store_at}
use Rattle.record.specs.Table.{slot_width}

-- the value of a slot ends within the area
abbrev pub inside_area : List ℕ → Slot → Bool
inside_area area a = leb (value_end a) (length area)

abbrev pub slot_set : List ℕ → ℕ → Slot → List ℕ
slot_set ns k s = store_at ns (slot_width * k) (s.kind ∷ s.start ∷ s.len ∷ s.position ∷ [])
