-- What the functions of the writer's two passes promise each other.
use Rattle.std.specs.Prelude.{ℕ, suc, ◌+◌, ◌≤◌, ◌<◌, ◌≡◌, true, List, length, Result, Ok, Err}
use Rattle.layout.specs.declared.Refusal.TheVariants.{BadSlot}
use Rattle.layout.specs.Refusals.{ok, refused}
use Rattle.record.specs.declared.slots.Slot.{Slot}
use Rattle.record.specs.Table.{slots_of, number_limit}
use Rattle.sheet.specs.Entries.{entry_bytes}
use Rattle.sheet.specs.Sheet.{header_size, max_sheet, entry_of, slot_writable, slots_writable}
use Rattle.sheet.specs.inside.Steps.{body_for}
use Rattle.record.specs.declared.Answer.{Answer}
use Rattle.record.specs.Packing.{refusal}

-- the slots are checked: either all fit, and header and entries take n bytes, or a refuses slot k, the first bad one
abbrev pub MeasuredAs : ℕ → List ℕ → List ℕ → Result ℕ Answer → Type 0
MeasuredAs w slots area (Ok n) =
    (slots_writable area 0 (slots_of slots) ≡ ok tt) × (n ≡ header_size w + length (body_for w slots area))
    × (n < number_limit)
MeasuredAs w slots area (Err a) =
    (k : ℕ) × (slots_writable area 0 (slots_of slots) ≡ refused BadSlot k) × (a ≡ refusal BadSlot k)

-- the bytes of a slot's entry
abbrev pub entry_for : ℕ → List ℕ → Slot → List ℕ
entry_for w area s = entry_bytes w (entry_of area s)

-- a slot fits, and its entry has room in a sheet of `size` bytes from the place `at` on
pub record EntryRoom (w : ℕ) (area : List ℕ) (s : Slot) (at size : ℕ) : Type 0 where
  pub fits : slot_writable (length area) s ≡ true
  pub room : at + (suc w + length (entry_of area s).value) ≤ size
  pub small : size ≤ max_sheet

-- all slots fit, and their entries have room after the header of a sheet of `size` bytes
pub record BodyRoom (w : ℕ) (slots area : List ℕ) (size : ℕ) : Type 0 where
  pub fits : slots_writable area 0 (slots_of slots) ≡ ok tt
  pub room : header_size w + length (body_for w slots area) ≤ size
  pub small : size ≤ max_sheet
