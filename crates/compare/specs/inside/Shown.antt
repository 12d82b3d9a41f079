-- What a table shows of its first slots, as the code finds it there.
use Rattle.std.specs.Prelude.{ℕ, ◌*◌, ◌≤◌, ◌<◌, ◌≡◌, List, [], ◌∷◌, map, length, take, drop, Option, None, Some}
use Rattle.std.specs.Borrow.{Bor}
use Rattle.record.specs.Bytes.{part}
use Rattle.record.specs.declared.slots.Slot.{Slot}
use Rattle.record.specs.Table.{slot_width, max_area, slots_of, item_size}
use Rattle.record.specs.Packing.{next_slot}
use Rattle.record.specs.Slots.{value_end}

-- how many bytes of the area a slot's value takes, and which they are
abbrev pub size_of : Slot → ℕ
size_of s = s.len * item_size s.kind

abbrev pub bytes_shown : List ℕ → Slot → List ℕ
bytes_shown area s = part area s.start (size_of s)

-- the bytes that the first n slots show
unfoldable pub shown_bytes : List ℕ → List ℕ → ℕ → List (List ℕ)
unfolding slots_of
shown_bytes slots area n = map (bytes_shown area) (take n (slots_of slots))

-- what stands at the front of a list of values, if any does; it has no more bytes than an area
abbrev pub IsValue : List (List ℕ) → Option (Bor (List ℕ)) → Type 0
IsValue vs None = vs ≡ []
IsValue vs (Some v) = (length v.now ≤ max_area) × ((ws : List (List ℕ)) × (vs ≡ v.now ∷ ws))

-- the first n slots are there, and their values lie in the area
pub record Shows (slots area : List ℕ) (n : ℕ) : Type 0 where
  pub lent : slot_width * n ≤ length slots
  pub values : (i : ℕ) → i < n → value_end (next_slot (drop i (slots_of slots))) ≤ length area
  pub limit : length area ≤ max_area
