-- The premises of demand 3 can be met: an old layout, a new one, two arguments, and readings of both records by both
-- layouts, cut and not cut; what is due is computed.
use Prim.Native.Nat.{◌-◌, ◌^◌}
use native.Mathlib.Omega.{arith}
use mathlib.Core.Path.{◌≡◌, refl}
use mathlib.Core.Bool.{Bool, true, false}
use mathlib.Core.List.{List, [], ◌∷◌, ◌++◌}
use lib.ListN.{replicate}
use Rattle.layout.specs.declared.Role.TheVariants.{Data, Move}
use Rattle.layout.specs.declared.Motion.TheVariants.{Skip}
use Rattle.layout.specs.declared.Shape.TheVariants.{Text, Digits, Integers, Reals}
use Rattle.layout.specs.declared.Count.TheVariants.{Absent, Times}
use Rattle.layout.specs.Layout.{fields_of, slot_count}
use Rattle.layout.specs.Quoted.{bytes}
use Rattle.real.specs.Narrowing.{single_of}
use Rattle.real.specs.Widening.{double_of}
use Rattle.record.specs.Table.{slots_of, Value, value_bytes}
use Rattle.record.specs.Packing.{pack, filled, arguments_fit}
use Rattle.runs.specs.Ends.{end_of}
use Rattle.evolution.specs.Pair.{pair}
use Rattle.evolution.specs.Claim.{Layouts, Reading, Whole, plain, record_bytes, arguments_by, all_back, due, set_by, starts_from, starts, carried_out, fields_by}

-- The old record and the new one, not cut and cut inside the added fields, each read by the old layout and by the new
-- one, from the mark 1 on, into eight nines and an area of twelve.
pub whole : (packing layout : Bool) → Whole pair packing layout (replicate 8 9) (replicate 12 9) 1
unfolding pair pack set_by filled slots_of slot_count value_bytes
whole true true = record { within = omega arith; sizes = tt; enough-slots = omega arith; room = omega arith }
whole true false = record { within = omega arith; sizes = tt; enough-slots = omega arith; room = omega arith }
whole false true = record { within = omega arith; sizes = tt; enough-slots = omega arith; room = omega arith }
whole false false = record { within = omega arith; sizes = tt; enough-slots = omega arith; room = omega arith }

pub cut_short : (layout : Bool) → Reading pair true layout 5 (replicate 8 9) (replicate 4 9) 1
unfolding pair pack set_by filled slots_of slot_count value_bytes
cut_short true = record { within = omega arith; sizes = tt; enough-slots = omega arith; room = omega arith }
cut_short false = record { within = omega arith; sizes = tt; enough-slots = omega arith; room = omega arith }

-- the bytes of the new record
bytes_pair : record_bytes (arguments_by pair true) ≡ 97 ∷ 98 ∷ 0 ∷ 0 ∷ 255 ∷ 254 ∷ []
unfolding pair record_bytes filled slots_of
bytes_pair = refl

-- cut at 5 the new layout shows its first field only, cut at 6 both; the old layout shows the first of the whole new
-- record
due-five : due pair true 5 ≡ record { kind = 1; items = 97 ∷ 98 ∷ 0 ∷ [] } ∷ []
unfolding pair set_by filled slots_of
due-five = refl

due-six : due pair true 6 ≡ record { kind = 1; items = 97 ∷ 98 ∷ 0 ∷ [] } ∷ record { kind = 2; items = (2 ^ 64 - 2) ∷ [] } ∷ []
unfolding pair set_by filled slots_of
due-six = refl

-- its fields begin at 0 and, after `a03 x`, at 4
starts-pair : starts pair ≡ 0 ∷ 4 ∷ []
unfolding pair starts_from
starts-pair = refl

-- cut at 5, and at 3 already, the new layout's steps are `a03`, `x` and the short `S`; the old layout has one
steps-cut : (carried_out 5 0 (fields_by pair true) ≡ 3) × (carried_out 3 0 (fields_by pair true) ≡ 3) × (carried_out 6 0 (fields_by pair false) ≡ 1)
unfolding pair carried_out
steps-cut = (refl, refl, refl)

due-old : due pair false 6 ≡ record { kind = 1; items = 97 ∷ 98 ∷ 0 ∷ [] } ∷ []
unfolding pair set_by filled slots_of
due-old = refl

-- a flag after a text and after `x`: `au20` and then `au20 xu2S`, with the arguments "Mary" and {-2}
flags : Layouts
unfolding fields_of plain arguments_fit slots_of end_of slot_count
flags = record {
  old = bytes "au20";
  new = bytes "au20 xu2S";
  fields = record { role = Data (Text 0); unsigned = true; count = Times 20 } ∷ [];
  added = record { role = Move Skip; unsigned = true; count = Times 2 } ∷ record { role = Data (Integers 2 true); unsigned = false; count = Absent } ∷ [];
  slots = 1 ∷ 0 ∷ 4 ∷ 9 ∷ 2 ∷ 4 ∷ 1 ∷ 9 ∷ [];
  area = bytes "Mary" ++ (255 ∷ 255 ∷ 255 ∷ 255 ∷ 255 ∷ 255 ∷ 255 ∷ 254 ∷ []);
  old_output = replicate 20 0;
  new_output = replicate 24 7;
  old-fields = refl;
  new-fields = refl;
  is_plain = tt;
  slot-for-each = refl;
  served = refl;
  new-sizes = tt;
  old-sizes = tt;
  new-room = omega arith;
  old-room = omega arith;
}

-- cut after `xu2` the new layout shows the text, and not cut the integer too; neither is unsigned
due-text : due flags true 22 ≡ record { kind = 1; items = bytes "Mary" ++ replicate 16 0 } ∷ []
unfolding flags set_by filled slots_of
due-text = refl

due-both : due flags true 24 ≡ record { kind = 1; items = bytes "Mary" ++ replicate 16 0 } ∷ record { kind = 2; items = (2 ^ 64 - 2) ∷ [] } ∷ []
unfolding flags set_by filled slots_of
due-both = refl

-- text that ends in blanks, digits and a real: `A4H3` and then `A4H3rb2`, with the arguments "ab", "aBc9", 0.1 and "1"
kinds : Layouts
unfolding fields_of plain arguments_fit slots_of end_of slot_count
kinds = record {
  old = bytes "A4H3";
  new = bytes "A4H3rb2";
  fields = record { role = Data (Text 32); unsigned = false; count = Times 4 } ∷ record { role = Data (Digits true true); unsigned = false; count = Times 3 } ∷ [];
  added = record { role = Data (Reals true false); unsigned = false; count = Absent } ∷ record { role = Data (Digits false false); unsigned = false; count = Times 2 } ∷ [];
  slots = 1 ∷ 0 ∷ 2 ∷ 9 ∷ 1 ∷ 2 ∷ 4 ∷ 9 ∷ 4 ∷ 6 ∷ 1 ∷ 9 ∷ 1 ∷ 14 ∷ 1 ∷ 9 ∷ [];
  area = bytes "abaBc9" ++ (0x3f ∷ 0xb9 ∷ 0x99 ∷ 0x99 ∷ 0x99 ∷ 0x99 ∷ 0x99 ∷ 0x9a ∷ []) ++ bytes "1";
  old_output = replicate 6 7;
  new_output = replicate 12 7;
  old-fields = refl;
  new-fields = refl;
  is_plain = tt;
  slot-for-each = refl;
  served = refl;
  new-sizes = tt;
  old-sizes = tt;
  new-room = omega arith;
  old-room = omega arith;
}

-- the new record: two spaces after the text, a digit 0 after the hex digits, and the nearest single
bytes-kinds : record_bytes (arguments_by kinds true) ≡ bytes "ab  " ++ (0xab ∷ 0xc0 ∷ 0xcd ∷ 0xcc ∷ 0xcc ∷ 0x3d ∷ 0x01 ∷ [])
unfolding kinds record_bytes filled slots_of single_of
bytes-kinds = refl

-- read whole, and cut inside the real, by either layout
whole_kinds : (packing layout : Bool) → Whole kinds packing layout (replicate 20 9) (replicate 20 9) 1
unfolding kinds pack set_by filled slots_of slot_count value_bytes
whole_kinds true true = record { within = omega arith; sizes = tt; enough-slots = omega arith; room = omega arith }
whole_kinds true false = record { within = omega arith; sizes = tt; enough-slots = omega arith; room = omega arith }
whole_kinds false true = record { within = omega arith; sizes = tt; enough-slots = omega arith; room = omega arith }
whole_kinds false false = record { within = omega arith; sizes = tt; enough-slots = omega arith; room = omega arith }

cut-real : (layout : Bool) → Reading kinds true layout 9 (replicate 16 9) (replicate 6 9) 1
unfolding kinds pack set_by filled slots_of slot_count value_bytes
cut-real true = record { within = omega arith; sizes = tt; enough-slots = omega arith; room = omega arith }
cut-real false = record { within = omega arith; sizes = tt; enough-slots = omega arith; room = omega arith }

-- the blanks are dropped, the hex digits lowered, the real is the double of the single, and a missing binary digit is a
-- 0
old-kinds : List Value
old-kinds = record { kind = 1; items = bytes "ab" } ∷ record { kind = 1; items = bytes "abc" } ∷ []

due-kinds : due kinds true 11 ≡ old-kinds ++ (record { kind = 4; items = 0x3fb99999a0000000 ∷ [] } ∷ record { kind = 1; items = bytes "10" } ∷ [])
unfolding kinds old-kinds set_by filled slots_of single_of double_of
due-kinds = refl

-- cut inside the real the new layout shows the old layout's fields, and so does the old layout of the whole record
due-cut : (due kinds true 9 ≡ old-kinds) × (due kinds false 11 ≡ old-kinds) × (all_back (arguments_by kinds false) ≡ old-kinds)
unfolding kinds old-kinds set_by all_back filled slots_of
due-cut = (refl, refl, refl)
