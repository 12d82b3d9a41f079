-- Slots in a run of numbers.
use Rattle.std.specs.Prelude.{ℕ, ◌+◌, ◌*◌, Bool, ◌&&◌, List, get_or, leb}
use Rattle.record.specs.declared.slots.Slot.{Slot}
use Rattle.record.specs.Table.{slot_width, max_kind, item_size}

-- slot number k, as the numbers have it
unfoldable pub slot_at : List ℕ → ℕ → Slot
slot_at ns k =
    record {
      kind = get_or ns (slot_width * k) 0;
      start = get_or ns (slot_width * k + 1) 0;
      len = get_or ns (slot_width * k + 2) 0;
      position = get_or ns (slot_width * k + 3) 0;
    }

-- the place after a slot's value
abbrev pub value_end : Slot → ℕ
value_end s = s.start + s.len * item_size s.kind

-- the kind is known, and the value lies inside an area of `area` bytes; where this does not hold, the slot is refused
-- with 7
abbrev pub is_inside : Slot → ℕ → Bool
is_inside s area = leb s.kind max_kind && leb (value_end s) area
