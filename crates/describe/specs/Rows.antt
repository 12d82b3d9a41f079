-- The fields of a layout as rows of eight numbers, for a program that shows or goes by them (document 01, Layout text
-- and Packing). THE EFFECT OF A CALL is `listed`, at the end. The types Track and Row are the source's.
use Rattle.std.specs.declared.option.Option.{Option}
use Rattle.std.specs.declared.option.Option.TheVariants.{Some, None}
use Rattle.std.specs.Prelude.{ℕ, ◌+◌, ◌-◌, ◌*◌, max, false, List, [], ◌∷◌, ◌++◌, length, drop, leb}
use Rattle.layout.specs.declared.Role.{Role}
use Rattle.layout.specs.declared.Role.TheVariants.{Data, Move}
use Rattle.layout.specs.declared.Motion.TheVariants.{Skip, Back, Goto}
use Rattle.layout.specs.declared.Shape.{Shape}
use Rattle.layout.specs.declared.Count.{Count}
use Rattle.layout.specs.declared.Count.TheVariants.{Absent, Star, Times}
use Rattle.layout.specs.declared.Refusal.TheVariants.{BadSize, NoRoom}
use Rattle.layout.specs.Refusals.{Result, ok, refused, ◌>>=◌, demand}
use Rattle.layout.specs.Layout.{max_layout, to_nat, slots_taken}
use Rattle.record.specs.Bytes.{big_endian}
use Rattle.record.specs.Geometry.{bytes_for}
use Rattle.record.specs.Packing.{accepted, refusal, Packed}
use Rattle.describe.specs.Placed.{Placed, placed_fields}
use Rattle.describe.specs.declared.fields.Track.{Track}
use Rattle.describe.specs.declared.fields.Row.{Row}

-- ---- numbers that the layout alone fixes, or that are open (None), since a starred value decides them

abbrev pub Extent : Type 0
Extent = Option ℕ

abbrev pub plus : Extent → Extent → Extent
plus (Some a) (Some b) = Some (a + b)
plus (Some a) None = None
plus None b = None

abbrev pub highest : Extent → Extent → Extent
highest (Some a) (Some b) = Some (max a b)
highest (Some a) None = None
highest None b = None

abbrev pub less : Extent → ℕ → Extent
less (Some a) n = Some (a - n)
less None n = None

-- what a count asks for, where a star asks for all (`amount` in crates/record/specs/Geometry.antt)
abbrev pub asked : Count → Extent → Extent
asked Absent all = Some 1
asked Star all = all
asked (Times n) all = Some n

-- ---- how packing moves over a field

-- the bytes that a field fills: of a starred value they are open, and of `x*`, which packing refuses
abbrev pub extent_of : Shape → Extent → Extent
extent_of s (Some n) = Some (bytes_for s n)
extent_of s None = None

abbrev pub filling : Role → Count → Extent
filling (Data s) n = extent_of s (asked n None)
filling (Move Skip) n = asked n None
filling (Move Back) n = Some 0
filling (Move Goto) n = Some 0

-- `X`: back, and `X*` to 0 from anywhere
abbrev pub back : Extent → Count → Extent
back at Absent = less at 1
back at Star = Some 0
back at (Times n) = less at n

-- the position after a field: values and `x` go forward, `@` goes to its count and `@*` to the highest position so far
abbrev pub position_after : Track → Role → Count → Extent
position_after t (Data s) n = plus t.at (filling (Data s) n)
position_after t (Move Skip) n = plus t.at (filling (Move Skip) n)
position_after t (Move Back) n = back t.at n
position_after t (Move Goto) n = asked n t.highest

-- the track of the cursor, its position and the highest one so far: where packing begins, and after a field
abbrev pub track_start : Track
track_start = record { at = Some 0; highest = Some 0 }

abbrev pub onward : Track → Role → Count → Track
onward t k n = record { at = position_after t k n; highest = highest t.highest (position_after t k n) }

-- ---- the row of a field

-- what stands for no count, no slot and an open number, and what stands for a star; no other number of a row is as
-- large
abbrev pub none : ℕ
none = 4294967295

abbrev pub star : ℕ
star = 4294967294

abbrev pub count_shown : Count → ℕ
count_shown Absent = none
count_shown Star = star
count_shown (Times n) = n

-- the slot of a field before which k slots are taken
abbrev pub slot_shown : Role → ℕ → ℕ
slot_shown (Data s) k = k
slot_shown (Move m) k = none

abbrev pub number_shown : Extent → ℕ
number_shown (Some n) = n
number_shown None = none

-- the row of a field before which k slots are taken and the cursor has the track t
abbrev pub row_of : ℕ → Track → Placed → Row
row_of k t p =
    record {
      place = p.place;
      size = p.size;
      letter = p.letter;
      flag = to_nat p.what.unsigned;
      count = count_shown p.what.count;
      slot = slot_shown p.what.role k;
      position = number_shown t.at;
      bytes = number_shown (filling p.what.role p.what.count);
    }

unfoldable pub rows_from : ℕ → Track → List Placed → List Row
rows_from k t [] = []
rows_from k t (p ∷ ps) = row_of k t p ∷ rows_from (k + slots_taken p.what) (onward t p.what.role p.what.count) ps

-- THE ROWS of a layout's fields
unfoldable pub rows_of : List Placed → List Row
unfolding rows_from
rows_of ps = rows_from 0 track_start ps

-- ---- rows as bytes: eight numbers of four bytes, the highest byte first

abbrev pub number_size : ℕ
number_size = 4

abbrev pub row_size : ℕ
row_size = 8 * number_size

abbrev pub row_numbers : Row → List ℕ
row_numbers r = r.place ∷ r.size ∷ r.letter ∷ r.flag ∷ r.count ∷ r.slot ∷ r.position ∷ r.bytes ∷ []

unfoldable pub row_bytes : List Row → List ℕ
unfolding big_endian
row_bytes [] = []
row_bytes (r ∷ rs) = big_endian number_size (row_numbers r) ++ row_bytes rs

-- ---- the call

-- the rows, where they have room in `room` bytes; or the refusal that reading by the layout would give to its text, and
-- then 11
unfoldable pub listing : List ℕ → ℕ → Result (List Row)
unfolding placed_fields rows_of
listing layout room = do
  _ ← demand (leb (length layout) max_layout) BadSize 0
  ps ← placed_fields false layout
  _ ← demand (leb (length ps * row_size) room) NoRoom 0
  ok (rows_of ps)

-- the rows at the front of the run, whose other bytes stay; a refusal changes nothing
abbrev pub list_effect : List ℕ → Result (List Row) → Packed
list_effect output (ok rs) =
    record { answer = accepted (length rs) 0; output = row_bytes rs ++ drop (length rs * row_size) output }
list_effect output (refused why place) = record { answer = refusal why place; output = output }

unfoldable pub listed : List ℕ → List ℕ → Packed
unfolding listing row_bytes
listed layout output = list_effect output (listing layout (length output))
