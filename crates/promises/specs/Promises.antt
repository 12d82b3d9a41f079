-- What a layout promises: whether demand 3 (document 01), M-107 and M-113 (02) speak of it; and whether one layout is
-- another with fields added. THE EFFECTS OF THE CALLS are `promised` and `extended`.
use Rattle.std.specs.Prelude.{ℕ, suc, ◌+◌, ◌-◌, Bool, ◌&&◌, List, [], ◌∷◌, length, eqb, leb, if◌then◌else◌}
use Rattle.layout.specs.declared.Role.{Role}
use Rattle.layout.specs.declared.Role.TheVariants.{Data, Move}
use Rattle.layout.specs.declared.Motion.TheVariants.{Skip, Back, Goto}
use Rattle.layout.specs.declared.Shape.TheVariants.{Text, Digits, Integers, Reals}
use Rattle.layout.specs.declared.Count.{Count}
use Rattle.layout.specs.declared.Count.TheVariants.{Absent, Star, Times}
use Rattle.layout.specs.declared.Field.{Field}
use Rattle.layout.specs.declared.Refusal.{Refusal}
use Rattle.layout.specs.declared.Refusal.TheVariants.{BadSize, BadSlots, NoRoom, OtherFields, NotPlain}
use Rattle.layout.specs.Refusals.{Result, ok, refused, ◌>>=◌, demand}
use Rattle.layout.specs.Layout.{max_layout, to_nat, slots_taken}
use Rattle.record.specs.Table.{max_slots, max_record}
use Rattle.record.specs.Packing.{accepted, refusal}
use Rattle.runs.specs.Ends.{plain_role, plain_count, fills}
use Rattle.lossless.specs.Claim.{lossless_role}
use Rattle.promises.specs.declared.Reach.{Reach}
use Rattle.promises.specs.declared.Told.{Told}
use Rattle.promises.specs.Placed.{Placed, fields_in, placed_fields}

-- ---- how far a layout has come with a field; the type Reach is the source's

-- how far a layout has come in front of its first field
abbrev pub reach_start : Reach
reach_start = record { slots = 0; end = 0 }

-- how far it has come with one field more: the slots that this and the fields before it take, and its end, what they
-- fill in packing added up (01, What demand 3 reads back)
abbrev pub reach_with : Reach → Field → Reach
reach_with r f = record { slots = r.slots + slots_taken f; end = r.end + fills f.role f.count }

-- ---- the promises, field by field

-- a field is plain: no star, no `X`, no `@`, no count of 0 (01, demand 3)
abbrev pub plain_field : Field → Bool
plain_field f = plain_role f.role && plain_count f.count

-- reading a field loses nothing (02, M-107, the fields that it lists)
abbrev pub lossless_field : Field → Bool
lossless_field f = lossless_role f.role f.count && plain_count f.count

-- the limits (01, Slot tables, sizes): past them every packing by a plain layout is refused, so that the theorems say
-- nothing of it
abbrev pub slots_in_table : Reach → Bool
slots_in_table r = leb r.slots max_slots

abbrev pub end_in_record : Reach → Bool
end_in_record r = leb r.end max_record

abbrev pub in_limits : Reach → Bool
in_limits r = slots_in_table r && end_in_record r

-- a promise: whether the field f keeps it, where the layout has come as far as r with it
abbrev pub Promise : Type 0
Promise = Reach → Field → Bool

-- the layout may grow at its end (01, demand 3)
abbrev pub grows : Promise
grows r f = plain_field f && in_limits r

-- reading by the layout loses nothing (02, M-107)
abbrev pub keeps : Promise
keeps r f = lossless_field f && in_limits r

-- the layout may be joined with others (02, M-113): no `X`, no `@`
abbrev pub joins : Promise
joins r f = plain_role f.role

-- the promise to grow in its three parts, which `extends` asks for one after the other
abbrev pub is_plain : Promise
is_plain r f = plain_field f

abbrev pub in_table : Promise
in_table r f = slots_in_table r

abbrev pub in_record : Promise
in_record r f = end_in_record r

-- what stands for a place where there is none; every place in a layout is below `max_layout`
abbrev pub nowhere : ℕ
nowhere = 4294967295

-- the place of the first field that breaks a promise, where the fields before have come as far as r
unfoldable pub break_from : Promise → Reach → List Placed → ℕ
unfolding fills
break_from q r [] = nowhere
break_from q r (p ∷ ps) =
    let here = reach_with r p.what in
    let later = break_from q here ps in
    if q here p.what then later else p.place

unfoldable pub first_break : Promise → List Placed → ℕ
unfolding break_from
first_break q ps = break_from q reach_start ps

-- ---- the same field: type, flag and count agree (01, What demand 3 reads back)

-- a role as three numbers: its form, and what tells the roles of a form apart
abbrev pub type_numbers : Role → ℕ × ℕ × ℕ
type_numbers (Data (Text pad)) = (0, pad, 0)  -- a A
type_numbers (Data (Digits hex high)) = (1, to_nat hex, to_nat high)  -- b B h H
type_numbers (Data (Integers w big)) = (2, w, to_nat big)  -- c s S i I w W
type_numbers (Data (Reals single big)) = (3, to_nat single, to_nat big)  -- r R q Q
type_numbers (Move Skip) = (4, 0, 0)  -- x
type_numbers (Move Back) = (5, 0, 0)  -- X
type_numbers (Move Goto) = (6, 0, 0)  -- @

-- a count as a number: `c03` is `c3`, but `c` is not `c1`
abbrev pub count_number : Count → ℕ
count_number Absent = 0
count_number Star = 1
count_number (Times n) = suc (suc n)

abbrev pub same_type : Role → Role → Bool
same_type j k =
    eqb (type_numbers j).0 (type_numbers k).0 && eqb (type_numbers j).1 (type_numbers k).1
    && eqb (type_numbers j).2 (type_numbers k).2

-- two fields agree in all three; that they do just where they are equal is proved (proofs/Same.antt)
unfoldable pub same_field : Field → Field → Bool
same_field f g =
    same_type f.role g.role && eqb (to_nat f.unsigned) (to_nat g.unsigned)
    && eqb (count_number f.count) (count_number g.count)

-- The place of the first field of the new layout that is not the old one's, or the end of its text where that has fewer
-- fields. What follows the old layout's fields is added.
unfoldable pub first_difference : ℕ → List Field → List Placed → ℕ
unfolding same_field
first_difference end [] ps = nowhere
first_difference end (f ∷ fs) [] = end
first_difference end (f ∷ fs) (p ∷ ps) = if same_field f p.what then first_difference end fs ps else p.place

-- ---- answers: four numbers

abbrev pub told : ℕ → ℕ → ℕ → Told
told first second third = record { answer = accepted first second; fourth = third }

-- a refusal: its place lies in the layout that the fourth number says, 1 for the new layout of `extends` and else 0
abbrev pub refused_in : ℕ → Refusal → ℕ → Told
refused_in which why place = record { answer = refusal why place; fourth = which }

-- what is answered of a layout that has been judged, or its refusal
abbrev pub in_layout : ℕ → Result Told → Told
in_layout which (ok t) = t
in_layout which (refused why place) = refused_in which why place

-- the fields of a layout, or the refusal that packing by it would give: 1, then 2, 3 and 4
unfoldable pub layout_fields : List ℕ → Result (List Placed)
unfolding placed_fields
layout_fields layout = do
  _ ← demand (leb (length layout) max_layout) BadSize 0
  placed_fields layout

-- ---- the calls

-- what is answered of a layout: 0 and three places, where it breaks the promise to grow, to keep everything, to be
-- joined
unfoldable pub promised : List ℕ → Told
unfolding layout_fields first_break
promised layout = in_layout 0 do
  ps ← layout_fields layout
  ok (told (first_break grows ps) (first_break keeps ps) (first_break joins ps))

-- one check: refuses at a place, and passes where there is none
abbrev pub refuse_at : Refusal → ℕ → Result (Unit {0})
refuse_at why place = demand (eqb place nowhere) why place

-- What is answered of the old layout's fields and the new one's, whose text has `end` bytes: 17, 18, 5 and 11 in this
-- order; or 0, the old fields, the fields added, 0.
unfoldable pub grown : ℕ → List Field → List Placed → Result Told
unfolding first_difference first_break
grown end fs ps = do
  _ ← refuse_at OtherFields (first_difference end fs ps)
  _ ← refuse_at NotPlain (first_break is_plain ps)
  _ ← refuse_at BadSlots (first_break in_table ps)
  _ ← refuse_at NoRoom (first_break in_record ps)
  ok (told (length fs) (length ps - length fs) 0)

-- what is answered of the old layout's fields and the new text, once that is read
unfoldable pub extended_by : List Field → List ℕ → Told
unfolding layout_fields grown
extended_by fs new = in_layout 1 do
  ps ← layout_fields new
  grown (length new) fs ps

unfoldable pub extended : List ℕ → List ℕ → Told
unfolding layout_fields extended_by
extended old new = in_layout 0 do
  os ← layout_fields old
  ok (extended_by (fields_in os) new)
