-- A field as one number, its code: what a plan holds for each field, and in what form the layout reader hands fields
-- on.
use Rattle.std.specs.declared.option.Option.{Option}
use Rattle.std.specs.Prelude.{unwrap_or}
use Rattle.std.specs.declared.option.Option.TheVariants.{Some, None}
use Rattle.std.specs.Prelude.{ℕ, zero, suc, ◌+◌, ◌*◌, ◌/◌, ◌%◌, Bool, true, false, eqb, leb, ltb, if◌then◌else◌}
use Rattle.layout.specs.declared.Role.{Role}
use Rattle.layout.specs.declared.Role.TheVariants.{Data, Move}
use Rattle.layout.specs.declared.Shape.TheVariants.{Text, Digits, Integers, Reals}
use Rattle.layout.specs.declared.Motion.TheVariants.{Skip, Back, Goto}
use Rattle.layout.specs.declared.Count.{Count}
use Rattle.layout.specs.declared.Count.TheVariants.{Absent, Star, Times}
use Rattle.layout.specs.declared.Field.{Field}
use Rattle.layout.specs.Layout.{to_nat}

-- ---- the types by number

-- The numbers of texts are `a` 0 and `A` 1, of digits `b` 2, `B` 3, `h` 4, `H` 5, of integers `c` 6, `s` 8, `S` 9, `i`
-- 10, `I` 11, `w` 12, `W` 13, and of reals `r` 14, `R` 15, `q` 16, `Q` 17: an odd number is that of a capital letter. 7
-- would be a big-endian integer of one byte, which no letter stands for. These take a slot, and each group ends with
-- its last number; the moves `x X @` stand after a gap that has room for further types.

abbrev pub last_text : ℕ
last_text = 1

abbrev pub last_binary : ℕ
last_binary = 3

abbrev pub last_digits : ℕ
last_digits = 5

abbrev pub last_integers : ℕ
last_integers = 13

abbrev pub last_single : ℕ
last_single = 15

abbrev pub last_data : ℕ
last_data = 17

abbrev pub skip_number : ℕ
skip_number = 24

abbrev pub back_number : ℕ
back_number = 25

abbrev pub goto_number : ℕ
goto_number = 26

abbrev pub last_type : ℕ
last_type = goto_number

-- the bytes of an integer, by the number of its type
abbrev pub width_numbered : ℕ → ℕ
width_numbered k = if ltb k 8 then 1 else if ltb k 10 then 2 else if ltb k 12 then 4 else 8

-- the type that has the number k
unfoldable pub type_numbered : ℕ → Option Role
type_numbered k =
    if leb k last_text then Some (Data (Text (32 * k)))
    else if leb k last_digits then Some (Data (Digits (ltb last_binary k) (eqb (k % 2) 1)))
    else if leb k last_integers then Some (Data (Integers (width_numbered k) (eqb (k % 2) 1)))
    else if leb k last_data then Some (Data (Reals (leb k last_single) (eqb (k % 2) 1)))
    else if eqb k skip_number then Some (Move Skip)
    else if eqb k back_number then Some (Move Back)
    else if eqb k goto_number then Some (Move Goto)
    else None

-- ---- a code: the number of the type, one unit for the flag, and a unit for each of the count's number

abbrev pub flag_unit : ℕ
flag_unit = 256

abbrev pub count_unit : ℕ
count_unit = 2 * flag_unit

-- the count that a number stands for: 0 for no count, 1 for a star, n + 2 for the count n
abbrev pub count_from : ℕ → Count
count_from zero = Absent
count_from (suc zero) = Star
count_from (suc (suc n)) = Times n

-- the role of a type; a number that no type has stands for X (`parse` writes none, and a plan with one is refused)
abbrev pub known : Option Role → Role
known t = unwrap_or t (Move Back)

unfoldable pub field_of : ℕ → Field
unfolding type_numbered
field_of w =
    record {
      role = known (type_numbered (w % flag_unit));
      unsigned = eqb (w / flag_unit % 2) 1;
      count = count_from (w / count_unit);
    }

-- ---- the other way round: the code of a field

-- the code made of the number of a type, a flag and the number of a count
abbrev pub code_of : ℕ → Bool → ℕ → ℕ
code_of c u n = c + flag_unit * to_nat u + count_unit * n

abbrev pub width_number : ℕ → ℕ
width_number w = if ltb w 2 then 6 else if ltb w 4 then 8 else if ltb w 8 then 10 else 12

abbrev pub real_number : Bool → ℕ
real_number true = suc last_integers
real_number false = suc last_single

abbrev pub type_number : Role → ℕ
type_number (Data (Text pad)) = pad / 32
type_number (Data (Digits hex high)) = suc last_text + 2 * to_nat hex + to_nat high
type_number (Data (Integers w big)) = width_number w + to_nat big
type_number (Data (Reals single big)) = real_number single + to_nat big
type_number (Move Skip) = skip_number
type_number (Move Back) = back_number
type_number (Move Goto) = goto_number

abbrev pub count_number : Count → ℕ
count_number Absent = 0
count_number Star = 1
count_number (Times n) = suc (suc n)

unfoldable pub code_for : Field → ℕ
code_for f = code_of (type_number f.role) f.unsigned (count_number f.count)
