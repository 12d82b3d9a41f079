-- Slot tables (document 01, Slot tables): a run of slots, `slot_width` numbers to each, and a value area of bytes.
use Rattle.std.specs.Prelude.{ℕ, ◌+◌, Bool, ◌||◌, List, [], ◌∷◌, map, length, get_or, take, drop, eqb, if◌then◌else◌}
use Rattle.record.specs.declared.slots.Slot.{Slot}
use Rattle.record.specs.Bytes.{join, big_endian, big_endian_in}

-- ---- sizes (the layout's and the count's stand in the crate `layout`)

abbrev pub max_slots : ℕ
max_slots = 64

-- the most bytes of a record, and of the packer's output buffer
abbrev pub max_record : ℕ
max_record = 32768

abbrev pub max_area : ℕ
max_area = 524288

-- the numbers of a slot: kind, start, length, position; each has 32 bits
abbrev pub slot_width : ℕ
slot_width = 4

abbrev pub number_limit : ℕ
number_limit = 4294967296

-- the position in a slot that no record was read into (02, M-110)
abbrev pub no_position : ℕ
no_position = 4294967295

-- ---- slots

-- the kinds: nothing set, a string, signed integers, unsigned integers, reals (02, M-108); and the highest
abbrev pub unset : ℕ
unset = 0

abbrev pub string : ℕ
string = 1

abbrev pub signed : ℕ
signed = 2

abbrev pub unsigned : ℕ
unsigned = 3

abbrev pub real : ℕ
real = 4

abbrev pub max_kind : ℕ
max_kind = real

abbrev pub is_integers : ℕ → Bool
is_integers kind = eqb kind signed || eqb kind unsigned

-- the kind of integers that are read, with the flag `u` or without
abbrev pub integer_kind : Bool → ℕ
integer_kind u = if u then unsigned else signed

-- the slots of a lent run of numbers (a slot is declared in src/slots.rt; its `len` counts bytes, integers or reals)
unfoldable pub slots_of : List ℕ → List Slot
slots_of [] = []
slots_of (k ∷ []) = []
slots_of (k ∷ s ∷ []) = []
slots_of (k ∷ s ∷ n ∷ []) = []
slots_of (k ∷ s ∷ n ∷ p ∷ rest) = record { kind = k; start = s; len = n; position = p } ∷ slots_of rest

-- ---- values

-- What a set slot shows. Of kind 1 the items are the bytes of a string. Of kinds 2 and 3 each item is an integer, as
-- the number below 2 ^ 64 that its eight bytes make: a negative one is its two's complement. Of kind 4 each item is a
-- double, by the number that its eight bytes make (the crate `real`).
pub record Value : Type 0 where
  pub kind : ℕ
  pub items : List ℕ

-- the bytes of an integer or a double, and of an item of a kind, in the area
abbrev pub integer_size : ℕ
integer_size = 8

abbrev pub item_size : ℕ → ℕ
item_size kind = if eqb kind string then 1 else integer_size

-- integers, or the numbers of doubles, as the area holds them; and the n of them that stand at the front of bs
abbrev pub integer_bytes : List ℕ → List ℕ
integer_bytes xs = big_endian integer_size xs

abbrev pub integers_in : ℕ → List ℕ → List ℕ
integers_in n bs = big_endian_in integer_size n bs

-- a value's bytes in the area
unfoldable pub area_bytes : Value → List ℕ
unfolding big_endian
area_bytes v = if eqb v.kind string then v.items else integer_bytes v.items

-- the value that a slot shows
unfoldable pub shown : List ℕ → Slot → Value
unfolding big_endian_in
shown area s =
    let bs = drop s.start area in
    record { kind = s.kind; items = if eqb s.kind string then take s.len bs else integers_in s.len bs }

-- ---- values put into a table: one after the other in the area, from the place `start` on, without gaps

-- the numbers of the slots of values, each with the position at which its field began, the next of `at` (02, M-110)
unfoldable pub slot_numbers : ℕ → List ℕ → List Value → List ℕ
unfolding area_bytes
slot_numbers start at [] = []
slot_numbers start at (v ∷ vs) =
    v.kind ∷ start ∷ length v.items ∷ get_or at 0 no_position
    ∷ slot_numbers (start + length (area_bytes v)) (drop 1 at) vs

unfoldable pub value_bytes : List Value → List ℕ
unfolding area_bytes join
value_bytes vs = join (map area_bytes vs)
