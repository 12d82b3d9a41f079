-- What packing and reading share: how many items a field has, how many bytes those fill, and how the cursor moves.
use Rattle.std.specs.Prelude.{ℕ, ◌+◌, ◌-◌, ◌*◌, ◌/◌, ◌%◌, min, Bool, true, false, ◌&&◌, List, length, eqb, leb}
use Rattle.layout.specs.declared.Shape.{Shape}
use Rattle.layout.specs.declared.Shape.TheVariants.{Text, Digits, Integers, Reals}
use Rattle.layout.specs.declared.Motion.{Motion}
use Rattle.layout.specs.declared.Motion.TheVariants.{Skip, Back, Goto}
use Rattle.layout.specs.declared.Count.{Count}
use Rattle.layout.specs.declared.Count.TheVariants.{Absent, Star, Times}
use Rattle.layout.specs.Layout.{max_layout, real_size}
use Rattle.record.specs.Bytes.{ceil_div}
use Rattle.record.specs.Table.{slot_width, max_slots, max_record, max_area}

-- how many a count asks for where there are `all` in all: 1 without a count (`@` is refused without one), all for `*`
abbrev pub amount : Count → ℕ → ℕ
amount Absent all = 1
amount Star all = all
amount (Times n) all = n

-- ---- items and bytes

-- binary and hex digits: their base, and how many fill a byte
abbrev pub base : Bool → ℕ
base true = 16
base false = 2

abbrev pub per_byte : Bool → ℕ
per_byte true = 2
per_byte false = 8

-- the bytes that n items of a field fill (01, Packing): eight binary or two hex digits to a byte, the last of which may
-- be spare
abbrev pub bytes_for : Shape → ℕ → ℕ
bytes_for (Text pad) n = n
bytes_for (Digits hex high) n = ceil_div n (per_byte hex)
bytes_for (Integers w big) n = n * w
bytes_for (Reals single big) n = n * real_size single

-- the items that `left` bytes hold (01, Reading, `*`): all digits, and of integers and reals the whole ones
abbrev pub items_in : Shape → ℕ → ℕ
items_in (Text pad) left = left
items_in (Digits hex high) left = left * per_byte hex
items_in (Integers w big) left = left / w
items_in (Reals single big) left = left / real_size single

-- the items of a field where `left` bytes are left
abbrev pub items_of : Shape → Count → ℕ → ℕ
items_of s n left = amount n (items_in s left)

-- ---- moves of the cursor

-- `X` in packing and in reading: back, and no further than to the start
abbrev pub back_from : ℕ → Count → ℕ
back_from at n = at - amount n at

-- `x X @` in reading, in a record of `size` bytes: no further than to the end
abbrev pub moved_in : ℕ → Motion → Count → ℕ → ℕ
moved_in size Skip n at = min (at + amount n size) size
moved_in size Back n at = back_from at n
moved_in size Goto n at = min (amount n size) size

-- `@` in packing, where `highest` is the highest position reached
abbrev pub goto_in : ℕ → Count → ℕ
goto_in highest n = amount n highest

-- ---- what is lent keeps to its size, by lengths; where this does not hold, a call is refused with 1

-- the layout, and the record or the output buffer
abbrev pub record_fits : ℕ → ℕ → Bool
record_fits layout bytes = leb layout max_layout && leb bytes max_record

-- the numbers of the slots, which are whole, and the area
abbrev pub table_fits : ℕ → ℕ → Bool
table_fits slots area = leb slots (slot_width * max_slots) && eqb (slots % slot_width) 0 && leb area max_area

abbrev pub lengths_fit : ℕ → ℕ → ℕ → ℕ → Bool
lengths_fit layout slots bytes area = record_fits layout bytes && table_fits slots area

abbrev pub sizes_fit : List ℕ → List ℕ → List ℕ → List ℕ → Bool
sizes_fit layout slots bytes area = lengths_fit (length layout) (length slots) (length bytes) (length area)
