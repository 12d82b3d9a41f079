-- The packer (document 01, Packing, and Numbers that come back): THE EFFECT OF A CALL is `pack`, at the end.
use Rattle.std.specs.Prelude.{ℕ, suc, ◌+◌, ◌-◌, ◌*◌, Bool, true, false, ◌&&◌, not, List, [], ◌∷◌, ◌++◌, map, length, take, drop, replicate, eqb, leb, ltb, if◌then◌else◌}
use Rattle.layout.specs.declared.Role.{Role}
use Rattle.layout.specs.declared.Role.TheVariants.{Data, Move}
use Rattle.layout.specs.declared.Shape.{Shape}
use Rattle.layout.specs.declared.Shape.TheVariants.{Text, Digits, Integers, Reals}
use Rattle.layout.specs.declared.Motion.TheVariants.{Skip, Back, Goto}
use Rattle.layout.specs.declared.Count.{Count}
use Rattle.layout.specs.declared.Count.TheVariants.{Absent, Star, Times}
use Rattle.layout.specs.declared.Field.{Field}
use Rattle.layout.specs.declared.Refusal.{Refusal}
use Rattle.layout.specs.declared.Refusal.TheVariants.{BadSize, BadSlots, NotSet, BadSlot, WrongKind, BadList, BadDigit, NoRoom, BadReal}
use Rattle.layout.specs.Refusals.{number_of, Result, ok, refused, ◌>>=◌, demand}
use Rattle.layout.specs.Layout.{is_decimal, fields_of, slot_count, real_size}
use Rattle.real.specs.Patterns.{is_nan}
use Rattle.real.specs.Narrowing.{single_of}
use Rattle.record.specs.declared.slots.Slot.{Slot}
use Rattle.record.specs.declared.Answer.{Answer}
use Rattle.record.specs.Bytes.{store_at, fit, ceil_div, pieces, join, digits, number, ordered}
use Rattle.record.specs.Table.{unset, string, real, is_integers, slots_of, shown}
use Rattle.record.specs.Slots.{is_inside}
use Rattle.record.specs.Geometry.{amount, base, per_byte, back_from, goto_in, lengths_fit}

-- ---- what a field stores of its argument's items

-- the value of a digit's character, of either case; 16 where it is none
unfoldable pub digit_value : ℕ → ℕ
digit_value c =
    if is_decimal c then c - 48
    else if leb 65 c && leb c 70 then c - 55
    else if leb 97 c && leb c 102 then c - 87
    else 16

-- `b B h H`: n digits; missing ones and the spare ones of the last byte are 0 (byte 48), further ones are not looked at
unfoldable pub digit_bytes : Bool → Bool → ℕ → List ℕ → List ℕ
unfolding pieces digit_value number fit
digit_bytes hex high n cs =
    let m = ceil_div n (per_byte hex) in
    map (λ p. number (base hex) (ordered high p))
    (pieces (per_byte hex) m (map digit_value (fit (m * per_byte hex) 48 (take n cs))))

-- `c s S i I w W`: the w low-order bytes of each of the first n integers
unfoldable pub low_bytes : ℕ → Bool → ℕ → List ℕ → List ℕ
unfolding join digits
low_bytes w big n xs = join (map (λ x. ordered big (digits 256 w x)) (take n xs))

-- `r R q Q` (02, M-108): the numbers that a field stores of doubles, those of the nearest singles or the doubles' own
abbrev pub patterns : Bool → List ℕ → List ℕ
patterns true xs = map single_of xs
patterns false xs = xs

-- the bytes of a field of n items
unfoldable pub stored : Shape → ℕ → List ℕ → List ℕ
unfolding fit digit_bytes low_bytes
stored (Text pad) n xs = fit n pad xs
stored (Digits hex high) n xs = digit_bytes hex high n xs
stored (Integers w big) n xs = low_bytes w big n xs
stored (Reals single big) n xs = low_bytes (real_size single) big n (patterns single xs)

-- ---- the run over the fields

-- The bytes up to the highest position reached, which are the result so far, and the cursor's position, which is never
-- past them.
pub record Run : Type 0 where
  pub out : List ℕ
  pub at : ℕ

-- the run at the start: nothing is stored
abbrev pub start : Run
start = record { out = []; at = 0 }

abbrev pub store : Run → List ℕ → Run
store r bs = record { out = store_at r.out r.at bs; at = r.at + length bs }

-- the run after an `@`: a gap that it leaves is filled with zeros
abbrev pub goto : Run → Count → Run
goto r n =
    let at = goto_in (length r.out) n in
    record { out = r.out ++ replicate (at - length r.out) 0; at = at }

-- the run after one field, with the items of its argument
unfoldable pub pack_one : Run → Role → Count → List ℕ → Run
unfolding stored
pack_one r (Data s) n xs = store r (stored s (amount n (length xs)) xs)
pack_one r (Move Skip) n xs = store r (replicate (amount n 0) 0)
pack_one r (Move Back) n xs = record { out = r.out; at = back_from r.at n }
pack_one r (Move Goto) n xs = goto r n

-- a field and the items of its argument (none for `x X @`)
pub record Filled : Type 0 where
  pub field : Field
  pub items : List ℕ

unfoldable pub pack_all : Run → List Filled → Run
unfolding pack_one
pack_all r [] = r
pack_all r (f ∷ fs) = pack_all (pack_one r f.field.role f.field.count f.items) fs

-- the result of packing fields with the items of their arguments
unfoldable pub packed : List Filled → List ℕ
unfolding pack_all
packed fs = (pack_all start fs).out

-- ---- the arguments: each test that fails is a refusal, 6 to 10 or 16

-- the kind is one that the field takes, or number 8 applies: `a A b B h H` take a string, `r R q Q` reals, the other
-- types integers
abbrev pub kind_fits : Shape → ℕ → Bool
kind_fits (Text pad) k = eqb k string
kind_fits (Digits hex high) k = eqb k string
kind_fits (Integers w big) k = is_integers k
kind_fits (Reals single big) k = eqb k real

-- there are enough integers or reals, or number 9 applies: just one where no count stands, and otherwise no fewer than
-- the count
abbrev pub enough : Count → ℕ → Bool
enough Absent have = eqb have 1
enough Star have = true
enough (Times n) have = leb n have

abbrev pub amount_fits : Shape → Count → ℕ → Bool
amount_fits (Text pad) n have = true
amount_fits (Digits hex high) n have = true
amount_fits (Integers w big) n have = enough n have
amount_fits (Reals single big) n have = enough n have

-- each character that is looked at is a digit, or number 10 applies
unfoldable pub all_digits : Bool → List ℕ → Bool
unfolding digit_value
all_digits hex [] = true
all_digits hex (c ∷ cs) = ltb (digit_value c) (base hex) && all_digits hex cs

unfoldable pub digits_fit : Shape → ℕ → List ℕ → Bool
unfolding all_digits
digits_fit (Text pad) n cs = true
digits_fit (Digits hex high) n cs = all_digits hex (take n cs)
digits_fit (Integers w big) n cs = true
digits_fit (Reals single big) n cs = true

-- none of the reals that become singles is a NaN, or number 16 applies (02, M-108); `q Q` store any
unfoldable pub no_nan : List ℕ → Bool
no_nan [] = true
no_nan (x ∷ xs) = not (is_nan x) && no_nan xs

unfoldable pub reals_fit : Shape → ℕ → List ℕ → Bool
unfolding no_nan
reals_fit (Text pad) n xs = true
reals_fit (Digits hex high) n xs = true
reals_fit (Integers w big) n xs = true
reals_fit (Reals true big) n xs = no_nan (take n xs)
reals_fit (Reals false big) n xs = true

-- slot number i serves a field: the tests in the order of their refusals
unfoldable pub argument_fits : List ℕ → Shape → Count → ℕ → Slot → Result (Unit {0})
unfolding shown digits_fit reals_fit
argument_fits area s n i a = do
  _ ← demand (not (eqb a.kind unset)) NotSet i
  _ ← demand (is_inside a (length area)) BadSlot i
  _ ← demand (kind_fits s a.kind) WrongKind i
  _ ← demand (amount_fits s n a.len) BadList i
  _ ← demand (digits_fit s (amount n a.len) (shown area a).items) BadDigit i
  demand (reals_fit s (amount n a.len) (shown area a).items) BadReal i

-- the next slot; there is one, unless the call was refused with 5
abbrev pub next_slot : List Slot → Slot
next_slot [] = record { kind = 0; start = 0; len = 0; position = 0 }
next_slot (t ∷ ts) = t

-- the slots from number i on serve their fields: slot by slot, each against its own
unfoldable pub arguments_fit : List ℕ → ℕ → List Slot → List Field → Result (Unit {0})
unfolding argument_fits
arguments_fit area i ts [] = ok tt
arguments_fit area i ts (f ∷ fs) = elim f.role [
  | Data s ↦ argument_fits area s f.count i (next_slot ts) >>= (λ _. arguments_fit area (suc i) (drop 1 ts) fs)
  | Move m ↦ arguments_fit area i ts fs
]

-- the fields with the items of their arguments
unfoldable pub filled : List ℕ → List Slot → List Field → List Filled
unfolding shown
filled area ts [] = []
filled area ts (f ∷ fs) = elim f.role [
  | Data s ↦ record { field = f; items = (shown area (next_slot ts)).items } ∷ filled area (drop 1 ts) fs
  | Move m ↦ record { field = f; items = [] } ∷ filled area ts fs
]

-- ---- the call

-- the three numbers of an answer: of an accepted call, and of a refusal
abbrev pub accepted : ℕ → ℕ → Answer
accepted first second = record { number = 0; first = first; second = second }

abbrev pub refusal : Refusal → ℕ → Answer
refusal why place = record { number = number_of why; first = place; second = 0 }

-- the end of a call, where there is a slot for each field that takes one: the result, or the first refusal of 6 to 11
-- and 16
unfoldable pub finished : List ℕ → List Slot → List Field → List ℕ → Result (List ℕ)
unfolding arguments_fit filled packed
finished area ts fs output = do
  _ ← arguments_fit area 0 ts fs
  let bs = packed (filled area ts fs)
  _ ← demand (leb (length bs) (length output)) NoRoom 0
  ok bs

-- the result, or the first refusal in 01's order, for fields, or their refusal, that stand in a run of `size` bytes or
-- numbers
unfoldable pub packs_fields : ℕ → Result (List Field) → List ℕ → List ℕ → List ℕ → Result (List ℕ)
unfolding slot_count slots_of finished
packs_fields size fields slots area output = do
  _ ← demand (lengths_fit size (length slots) (length output) (length area)) BadSize 0
  fs ← fields
  _ ← demand (eqb (length (slots_of slots)) (slot_count fs)) BadSlots 0
  finished area (slots_of slots) fs output

-- the result, or the first refusal, for the fields of a layout
unfoldable pub packs : List ℕ → List ℕ → List ℕ → List ℕ → Result (List ℕ)
unfolding fields_of packs_fields
packs layout slots area output = packs_fields (length layout) (fields_of true layout) slots area output

-- all that a call of the packer leaves: its answer and the output buffer
pub record Packed : Type 0 where
  pub answer : Answer
  pub output : List ℕ

-- the result at the front of the buffer, whose other bytes stay; a refusal changes nothing
abbrev pub pack_effect : List ℕ → Result (List ℕ) → Packed
pack_effect output (ok bs) = record { answer = accepted (length bs) 0; output = bs ++ drop (length bs) output }
pack_effect output (refused why place) = record { answer = refusal why place; output = output }

unfoldable pub pack_fields : ℕ → Result (List Field) → List ℕ → List ℕ → List ℕ → Packed
unfolding packs_fields
pack_fields size fields slots area output = pack_effect output (packs_fields size fields slots area output)

-- a call of the packer (it is `pack_fields` for the layout's fields: proved in proofs/ByFields.antt)
unfoldable pub pack : List ℕ → List ℕ → List ℕ → List ℕ → Packed
unfolding packs
pack layout slots area output = pack_effect output (packs layout slots area output)
