-- One old layout and one new one with their arguments, of which demand 3 speaks: `a3`, and then `a03 xS`, with "ab" and
-- an integer. What the demand says of readings by them is computed in proofs/Instance.antt.
use Rattle.std.specs.Prelude.{ℕ, refl, true, false, [], ◌∷◌, ◌++◌, replicate}
use Rattle.std.proofs.Common.{arith}
use Rattle.layout.specs.declared.Role.TheVariants.{Data, Move}
use Rattle.layout.specs.declared.Motion.TheVariants.{Skip}
use Rattle.layout.specs.declared.Shape.TheVariants.{Text, Integers}
use Rattle.layout.specs.declared.Count.TheVariants.{Absent, Times}
use Rattle.layout.specs.Layout.{fields_of, slot_count}
use Rattle.layout.specs.Quoted.{bytes}
use Rattle.record.specs.Table.{slots_of}
use Rattle.record.specs.Packing.{arguments_fit}
use Rattle.runs.specs.Ends.{end_of}
use Rattle.evolution.specs.Claim.{Layouts, plain}

-- the two layouts with their arguments; the integer's last byte is given, and its others are 255
unfoldable pub pair_with : ℕ → Layouts
unfolding fields_of plain arguments_fit slots_of end_of slot_count
pair_with byte = record {
  old = bytes "a3";
  new = bytes "a03 xS";
  fields = record { role = Data (Text 0); unsigned = false; count = Times 3 } ∷ [];
  added =
      record { role = Move Skip; unsigned = false; count = Absent }
      ∷ record { role = Data (Integers 2 true); unsigned = false; count = Absent }
      ∷ [];
  slots = 1 ∷ 0 ∷ 2 ∷ 9 ∷ 2 ∷ 2 ∷ 1 ∷ 9 ∷ [];
  area = bytes "ab" ++ (255 ∷ 255 ∷ 255 ∷ 255 ∷ 255 ∷ 255 ∷ 255 ∷ byte ∷ []);
  old_output = replicate 3 0;
  new_output = replicate 9 7;
  old-fields = refl;
  new-fields = refl;
  is_plain = tt;
  slot-for-each = refl;
  served = refl;
  new-sizes = tt;
  old-sizes = tt;
  new-room = omega arith;
  old-room = omega arith;
}

-- the two layouts with the integer -2, and with -3
unfoldable pub pair : Layouts
unfolding pair_with
pair = pair_with 254

unfoldable pub other : Layouts
unfolding pair_with
other = pair_with 253
