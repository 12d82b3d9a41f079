-- The reader (document 01, Reading, and Numbers that come back): THE EFFECT OF A CALL is `read`, with its steps
-- `read_all`, at the end.
use Rattle.std.specs.Prelude.{ℕ, suc, ◌+◌, ◌-◌, ◌*◌, ◌^◌, ◌≤◌, Bool, true, false, ◌&&◌, ◌||◌, List, [], ◌∷◌, ◌++◌, map, length, take, drop, eqb, leb, ltb, if◌then◌else◌}
use Rattle.layout.specs.declared.Role.TheVariants.{Data, Move}
use Rattle.layout.specs.declared.Shape.{Shape}
use Rattle.layout.specs.declared.Shape.TheVariants.{Text, Digits, Integers, Reals}
use Rattle.layout.specs.declared.Field.{Field}
use Rattle.layout.specs.declared.Refusal.TheVariants.{BadSize, BadSlots, NoRoom}
use Rattle.layout.specs.Refusals.{Result, ok, refused, ◌>>=◌, demand}
use Rattle.layout.specs.Layout.{fields_of, slot_count, real_size}
use Rattle.real.specs.Widening.{double_of}
use Rattle.record.specs.declared.Answer.{Answer}
use Rattle.record.specs.declared.ReadAnswer.{ReadAnswer}
use Rattle.record.specs.Bytes.{part, store_at, pieces, join, digits, number, ordered}
use Rattle.record.specs.Table.{string, real, integer_kind, slots_of, Value, slot_width, slot_numbers, value_bytes}
use Rattle.record.specs.Geometry.{base, per_byte, bytes_for, items_of, moved_in, lengths_fit}
use Rattle.record.specs.Packing.{accepted, refusal}

-- ---- the value that a field's bytes show

-- `A`: a value ends with neither a space nor a zero byte
abbrev pub is_blank : ℕ → Bool
is_blank c = eqb c 0 || eqb c 32

unfoldable pub trimmed : List ℕ → List ℕ
trimmed [] = []
trimmed (c ∷ cs) = onto c (trimmed cs)
  where
    onto : ℕ → List ℕ → List ℕ
    onto c [] = if is_blank c then [] else (c ∷ [])
    onto c (d ∷ ds) = c ∷ d ∷ ds

-- the character of a digit's value, hex in small letters
unfoldable pub digit_char : ℕ → ℕ
digit_char d = if ltb d 10 then d + 48 else (d + 87)

-- the number below 2 ^ 64 for the w bytes that make u: u itself, or the two's complement of the negative number that u
-- stands for
unfoldable pub widened : ℕ → Bool → ℕ → ℕ
widened w unsigned u = if unsigned || ltb (2 * u) (256 ^ w) then u else (u + (2 ^ 64 - 256 ^ w))

-- `r R q Q` (02, M-108): the doubles of the numbers in a field, which are those of singles or the doubles' own
abbrev pub doubles : Bool → List ℕ → List ℕ
doubles true xs = map double_of xs
doubles false xs = xs

-- the value of n items in a field's bytes bs
unfoldable pub loaded : Shape → Bool → ℕ → List ℕ → Value
unfolding trimmed digit_char widened join digits pieces number
loaded (Text pad) u n bs = record { kind = string; items = if eqb pad 32 then trimmed bs else bs }
loaded (Digits hex high) u n bs =
    record {
      kind = string;
      items = take n
          (map digit_char (join (map (λ b. ordered high (digits (base hex) (per_byte hex) b)) bs)));
    }
loaded (Integers w big) u n bs =
    record {
      kind = integer_kind u;
      items = map (λ p. widened w u (number 256 (ordered big p))) (pieces w n bs);
    }
loaded (Reals single big) u n bs =
    record
    { kind = real; items = doubles single (map (λ p. number 256 (ordered big p)) (pieces (real_size single) n bs)) }

-- ---- the run over the fields

-- the value of n items of a field whose bytes start at the place `at`
abbrev pub value_at : List ℕ → ℕ → Shape → Bool → ℕ → Value
value_at bs at s u n = loaded s u n (part bs at (bytes_for s n))

-- the values of the fields from the place `at` on, up to the first that needs more bytes than remain
unfoldable pub values_from : List ℕ → ℕ → List Field → List Value
unfolding loaded
values_from bs at [] = []
values_from bs at (f ∷ fs) = elim f.role [
  | Data s ↦
      let left = length bs - at in
      let n = items_of s f.count left in
      let need = bytes_for s n in
      if leb need left then value_at bs at s f.unsigned n ∷ values_from bs (at + need) fs else []
  | Move m ↦ values_from bs (moved_in (length bs) m f.count at) fs
]

-- The positions at which the fields that take a slot begin, from the place `at` on, in a record of `size` bytes: the
-- cursor before each (02, M-110). (A field that comes up short ends the run: there is no slot for its position, nor for
-- those after it.)
unfoldable pub positions_from : ℕ → ℕ → List Field → List ℕ
positions_from size at [] = []
positions_from size at (f ∷ fs) = elim f.role [
  | Data s ↦ at ∷ positions_from size (at + bytes_for s (items_of s f.count (size - at))) fs
  | Move m ↦ positions_from size (moved_in size m f.count at) fs
]

-- the steps of the run: the fields that are carried out, moves included, and the one that comes up short (02, M-112)
unfoldable pub steps_from : ℕ → ℕ → List Field → ℕ
steps_from size at [] = 0
steps_from size at (f ∷ fs) = elim f.role [
  | Data s ↦
      let need = bytes_for s (items_of s f.count (size - at)) in
      if leb need (size - at) then suc (steps_from size (at + need) fs) else 1
  | Move m ↦ suc (steps_from size (moved_in size m f.count at) fs)
]

-- ---- the call

-- the values that fields show of a record, or the first refusal in 01's order, where they, or their refusal, stand in a
-- run of `size` bytes or numbers
unfoldable pub reads_fields : ℕ → Result (List Field) → List ℕ → List ℕ → List ℕ → ℕ → Result (List Value)
unfolding slots_of slot_count values_from value_bytes
reads_fields size fields bs slots area mark = do
  _ ← demand (lengths_fit size (length slots) (length bs) (length area) && leb mark (length area)) BadSize 0
  fs ← fields
  _ ← demand (leb (slot_count fs) (length (slots_of slots))) BadSlots 0
  let vs = values_from bs 0 fs
  _ ← demand (leb (mark + length (value_bytes vs)) (length area)) NoRoom 0
  ok vs

-- the values that the fields of a layout show of a record, or the first refusal
unfoldable pub reads : List ℕ → List ℕ → List ℕ → List ℕ → ℕ → Result (List Value)
unfolding fields_of reads_fields
reads layout bs slots area mark = reads_fields (length layout) (fields_of false layout) bs slots area mark

-- all that a call of the reader leaves: its answer, the slots and the area
pub record Read : Type 0 where
  pub answer : Answer
  pub slots : List ℕ
  pub area : List ℕ

-- values, with the positions of their fields, put into a table and an area, from the start mark on; what they do not
-- cover stays as lent
unfoldable pub put_into : List ℕ → List ℕ → ℕ → List ℕ → List Value → Read
unfolding slot_numbers value_bytes
put_into slots area mark at vs =
    record {
      answer = accepted (length vs) (mark + length (value_bytes vs));
      slots = slot_numbers mark at vs ++ drop (slot_width * length vs) slots;
      area = store_at area mark (value_bytes vs);
    }

-- what a call leaves: the values put in; a refusal changes nothing
abbrev pub read_effect : List ℕ → List ℕ → ℕ → List ℕ → Result (List Value) → Read
read_effect slots area mark at (ok vs) = put_into slots area mark at vs
read_effect slots area mark at (refused why place) = record { answer = refusal why place; slots = slots; area = area }

-- the positions of the fields, in a record of `size` bytes; none where the fields are refused
abbrev pub positions_of : ℕ → Result (List Field) → List ℕ
positions_of size (ok fs) = positions_from size 0 fs
positions_of size (refused why place) = []

unfoldable pub read : List ℕ → List ℕ → List ℕ → List ℕ → ℕ → Read
unfolding reads positions_from put_into
read layout bs slots area mark =
    read_effect slots area mark (positions_of (length bs) (fields_of false layout)) (reads layout bs slots area mark)

-- the steps of a call: those of the layout's fields, and none where it is refused
abbrev pub steps_in : ℕ → Result (List Field) → ℕ
steps_in size (ok fs) = steps_from size 0 fs
steps_in size (refused why place) = 0

abbrev pub steps_of : ℕ → Result (List Field) → Result (List Value) → ℕ
steps_of size fields (ok vs) = steps_in size fields
steps_of size fields (refused why place) = 0

unfoldable pub read_steps : List ℕ → List ℕ → List ℕ → List ℕ → ℕ → ℕ
unfolding reads steps_from
read_steps layout bs slots area mark = steps_of (length bs) (fields_of false layout) (reads layout bs slots area mark)

-- the steps are never more than the layout has bytes (proved in proofs/Steps.antt)
abbrev pub StepsWithin : Type 0
StepsWithin = (layout bs slots area : List ℕ) (mark : ℕ) → read_steps layout bs slots area mark ≤ length layout

-- ALL OF A CALL of the reader: the answer with its fourth number, the slots and the area
pub record ReadAll : Type 0 where
  pub answer : ReadAnswer
  pub slots : List ℕ
  pub area : List ℕ

abbrev pub with_steps : Read → ℕ → ReadAll
with_steps r steps = record { answer = record { answer = r.answer; steps = steps }; slots = r.slots; area = r.area }

-- what a call leaves without the fourth number of its answer
abbrev pub left_of : ReadAll → Read
left_of x = record { answer = x.answer.answer; slots = x.slots; area = x.area }

abbrev pub read_all : List ℕ → List ℕ → List ℕ → List ℕ → ℕ → ReadAll
read_all layout bs slots area mark = with_steps (read layout bs slots area mark) (read_steps layout bs slots area mark)

-- all of a call for fields, or their refusal, that stand in a run of `size` bytes or numbers (`read_all` is this for the
-- layout's fields: proved in proofs/ByFields.antt)
unfoldable pub read_fields : ℕ → Result (List Field) → List ℕ → List ℕ → List ℕ → ℕ → ReadAll
unfolding reads_fields positions_from put_into steps_from
read_fields size fields bs slots area mark =
    let vs = reads_fields size fields bs slots area mark in
    with_steps (read_effect slots area mark (positions_of (length bs) fields) vs) (steps_of (length bs) fields vs)
