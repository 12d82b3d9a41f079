-- The text of a layout (01, Layout text, and the numbers 2, 3 and 4 of its table): from bytes to fields. The types
-- Role, Shape, Motion, Count and Field are the source's (src/lib.rt). A text is the list of its bytes, and a place is
-- an index into it.
use Rattle.std.specs.declared.option.Option.{Option}
use Rattle.std.specs.declared.option.Option.TheVariants.{Some, None}
use Rattle.std.specs.Prelude.{ℕ, zero, suc, ◌+◌, ◌-◌, ◌*◌, Bool, true, false, ◌&&◌, not, List, [], ◌∷◌, drop, eqb, leb, if◌then◌else◌}
use Rattle.layout.specs.declared.Role.{Role}
use Rattle.layout.specs.declared.Role.TheVariants.{Data, Move}
use Rattle.layout.specs.declared.Shape.TheVariants.{Text, Digits, Integers, Reals}
use Rattle.layout.specs.declared.Motion.TheVariants.{Skip, Back, Goto}
use Rattle.layout.specs.declared.Count.{Count}
use Rattle.layout.specs.declared.Count.TheVariants.{Absent, Star, Times}
use Rattle.layout.specs.declared.Field.{Field}
use Rattle.layout.specs.declared.Refusal.{Refusal}
use Rattle.layout.specs.declared.Refusal.TheVariants.{BadType, BadCount, BadMove}
use Rattle.layout.specs.Refusals.{Result, ok, refused, ◌>>=◌, demand}

-- ---- the limits (01, Slot tables, sizes)

-- the most bytes of a layout
abbrev pub max_layout : ℕ
max_layout = 256

-- the largest count
abbrev pub max_count : ℕ
max_count = 32768

-- ---- the type characters (01, What the work covers)

-- what a type character stands for: the pad of a text; hex or binary digits, high or low digit first; an integer's
-- bytes, big- or little-endian; a real as a single or a double, big- or little-endian (02, M-108)
unfoldable pub type_of : ℕ → Option Role
type_of c =
    if eqb c 97 then Some (Data (Text 0))  -- a
    else if eqb c 65 then Some (Data (Text 32))  -- A
    else if eqb c 98 then Some (Data (Digits false false))  -- b
    else if eqb c 66 then Some (Data (Digits false true))  -- B
    else if eqb c 104 then Some (Data (Digits true false))  -- h
    else if eqb c 72 then Some (Data (Digits true true))  -- H
    else if eqb c 99 then Some (Data (Integers 1 false))  -- c
    else if eqb c 115 then Some (Data (Integers 2 false))  -- s
    else if eqb c 83 then Some (Data (Integers 2 true))  -- S
    else if eqb c 105 then Some (Data (Integers 4 false))  -- i
    else if eqb c 73 then Some (Data (Integers 4 true))  -- I
    else if eqb c 119 then Some (Data (Integers 8 false))  -- w
    else if eqb c 87 then Some (Data (Integers 8 true))  -- W
    else if eqb c 114 then Some (Data (Reals true false))  -- r
    else if eqb c 82 then Some (Data (Reals true true))  -- R
    else if eqb c 113 then Some (Data (Reals false false))  -- q
    else if eqb c 81 then Some (Data (Reals false true))  -- Q
    else if eqb c 120 then Some (Move Skip)  -- x
    else if eqb c 88 then Some (Move Back)  -- X
    else if eqb c 64 then Some (Move Goto)  -- @
    else None

-- what moves the cursor has no slot, and everything else has one (01, Layout text)
abbrev pub takes_slot : Role → Bool
takes_slot (Data s) = true
takes_slot (Move m) = false

-- the bytes of a real: a single or a double
abbrev pub real_size : Bool → ℕ
real_size true = 4
real_size false = 8

-- 1 for true, 0 for false
abbrev pub to_nat : Bool → ℕ
to_nat true = 1
to_nat false = 0

-- ---- a field's flag and count, at the front of the bytes that follow its type character

-- the flag `u` (byte 117) stands in front; any type may have it, and only integers that are read go by it (02, M-101)
unfoldable pub flagged : List ℕ → Bool
flagged [] = false
flagged (c ∷ cs) = eqb c 117

abbrev pub is_decimal : ℕ → Bool
is_decimal c = leb 48 c && leb c 57

-- how many decimal digits stand in front
unfoldable pub digit_run : List ℕ → ℕ
digit_run [] = 0
digit_run (c ∷ cs) = if is_decimal c then suc (digit_run cs) else 0

-- the number that the digits in front make, after digits that made `value`; leading zeros change nothing
unfoldable pub decimal : ℕ → List ℕ → ℕ
decimal value [] = value
decimal value (c ∷ cs) = if is_decimal c then decimal (10 * value + (c - 48)) cs else value

-- the count in front, `*` (byte 42) or digits, and how many bytes it takes
unfoldable pub count_of : List ℕ → Count
unfolding decimal
count_of [] = Absent
count_of (c ∷ cs) = if eqb c 42 then Star else if is_decimal c then Times (decimal 0 (c ∷ cs)) else Absent

unfoldable pub count_length : List ℕ → ℕ
unfolding digit_run
count_length [] = 0
count_length (c ∷ cs) = if eqb c 42 then 1 else digit_run (c ∷ cs)

-- a count keeps to its limit, so that number 3 does not apply
abbrev pub in_limit : Count → Bool
in_limit Absent = true
in_limit Star = true
in_limit (Times n) = leb n max_count

-- a count means something for a role, so that number 4 does not apply: `@` has one, and in packing `x` has no star
abbrev pub has_meaning : Bool → Role → Count → Bool
has_meaning packing (Data s) n = true
has_meaning packing (Move Skip) Absent = true
has_meaning packing (Move Skip) Star = not packing
has_meaning packing (Move Skip) (Times n) = true
has_meaning packing (Move Back) n = true
has_meaning packing (Move Goto) Absent = false
has_meaning packing (Move Goto) Star = true
has_meaning packing (Move Goto) (Times n) = true

-- ---- fields

-- what stands at a place: a space, or a field and how many bytes follow its type character, or a refusal
pub data Step : Type 0 where
  space : Step
  field : Field → ℕ → Step
  bad : Refusal → ℕ → Step

abbrev pub step_from : Result (Field × ℕ) → Step
step_from (ok f) = field f.0 f.1
step_from (refused why place) = bad why place

-- the field of the role k at the place `at`, whose flag and count stand in front of cs; and how many bytes those take.
-- A count over the limit is refused at its own first digit (02, M-106), one that is missing or means nothing at the
-- type character.
unfoldable pub field_after : Bool → ℕ → Role → List ℕ → Result (Field × ℕ)
unfolding flagged count_of count_length
field_after packing at k cs = do
  let u = flagged cs
  let rest = drop (to_nat u) cs
  let n = count_of rest
  _ ← demand (in_limit n) BadCount (suc at + to_nat u)
  _ ← demand (has_meaning packing k n) BadMove at
  ok (record { role = k; unsigned = u; count = n }, to_nat u + count_length rest)

-- the field whose type character c stands at the place `at`, followed by cs
unfoldable pub field_at : Bool → ℕ → ℕ → List ℕ → Result (Field × ℕ)
unfolding type_of field_after
field_at packing at c cs = elim (type_of c) [ Some k ↦ field_after packing at k cs | None ↦ refused BadType at ]

unfoldable pub step_of : Bool → ℕ → ℕ → List ℕ → Step
unfolding field_at
step_of packing at c cs = if eqb c 32 then space else step_from (field_at packing at c cs)

-- how many bytes after the one at its place a step takes
abbrev pub step_extra : Step → ℕ
step_extra space = 0
step_extra (field f n) = n
step_extra (bad why place) = 0

-- the fields from a step on: the step, and the fields that follow it (`rest`)
abbrev pub step_then : Step → Result (List Field) → Result (List Field)
step_then space rest = rest
step_then (field f n) rest = rest >>= (λ fs. ok (f ∷ fs))
step_then (bad why place) rest = refused why place

-- the fields of the text from the place `at` on, after its next n bytes, which belong to the field before
unfoldable pub fields_from : Bool → ℕ → ℕ → List ℕ → Result (List Field)
unfolding step_of
fields_from packing at n [] = ok []
fields_from packing at (suc n) (c ∷ cs) = fields_from packing (suc at) n cs
fields_from packing at zero (c ∷ cs) =
    let s = step_of packing at c cs in
    let rest = fields_from packing (suc at) (step_extra s) cs in
    step_then s rest

-- THE FIELDS OF A LAYOUT, for packing (true) or reading (false), or the first refusal from the left
unfoldable pub fields_of : Bool → List ℕ → Result (List Field)
unfolding fields_from
fields_of packing text = fields_from packing 0 0 text

-- the slots that one field takes, and how many of a run of fields take one
abbrev pub slots_taken : Field → ℕ
slots_taken f = to_nat (takes_slot f.role)

unfoldable pub slot_count : List Field → ℕ
slot_count [] = 0
slot_count (f ∷ fs) = if takes_slot f.role then suc (slot_count fs) else slot_count fs
