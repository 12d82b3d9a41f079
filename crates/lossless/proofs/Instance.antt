-- The premises of M-107 can be met: a record of `a2 SuB8hu2c`, read from the mark 1 on, and one of `Q2qc`; what their
-- readings show is computed.
use native.Mathlib.Omega.{arith}
use mathlib.Core.Path.{◌≡◌, refl}
use mathlib.Core.Bool.{true, false}
use mathlib.Core.List.{[], ◌∷◌, ◌++◌}
use Prim.Native.Nat.{◌-◌, ◌*◌, ◌^◌}
use lib.ListN.{replicate}
use Rattle.layout.specs.declared.Role.TheVariants.{Data}
use Rattle.layout.specs.declared.Shape.TheVariants.{Text, Digits, Integers, Reals}
use Rattle.layout.specs.declared.Count.TheVariants.{Absent, Times}
use Rattle.layout.specs.Layout.{fields_of, slot_count}
use Rattle.layout.specs.Quoted.{bytes}
use Rattle.record.specs.Table.{string, real, integer_kind, slots_of, slot_width, shown, value_bytes}
use Rattle.record.specs.Packing.{accepted}
use Rattle.record.specs.Reading.{values_from, read}
use Rattle.runs.specs.Ends.{end_of}
use Rattle.lossless.specs.Claim.{Layout, lossless, are_bytes, Archived, packing_of, shown_by}
use Rattle.lossless.proofs.LosesNothing.{loses-nothing}

form : Layout
unfolding fields_of lossless
form = record {
  text = bytes "a2 SuB8hu2c";
  fields =
      record { role = Data (Text 0); unsigned = false; count = Times 2 }
      ∷ record { role = Data (Integers 2 true); unsigned = true; count = Absent }
      ∷ record { role = Data (Digits false true); unsigned = false; count = Times 8 }
      ∷ record { role = Data (Digits true false); unsigned = true; count = Times 2 }
      ∷ record { role = Data (Integers 1 false); unsigned = false; count = Absent } ∷ [];
  has-fields = refl;
  is-lossless = tt;
}

-- "ok", 65534, 10100001, f0 and -2, in a table, an area and a buffer that hold sevens and nines
one : Archived form
unfolding form are_bytes end_of slots_of slot_count value_bytes values_from
one = record {
  bytes = bytes "ok" ++ (255 ∷ 254 ∷ 161 ∷ 15 ∷ 254 ∷ []);
  slots = replicate (slot_width * 5) 9;
  area = replicate 30 7;
  mark = 1;
  output = replicate 9 9;
  are-bytes = tt;
  is-full = refl;
  slot-for-each = refl;
  area-room = omega arith;
  output-room = omega arith;
  read-sizes = tt;
  pack-sizes = tt;
}

one-shows : shown_by form one
    ≡ record { kind = string; items = bytes "ok" }
    ∷ record { kind = integer_kind true; items = 65534 ∷ [] }
    ∷ record { kind = string; items = bytes "10100001" }
    ∷ record { kind = string; items = bytes "f0" }
    ∷ record { kind = integer_kind false; items = (2 ^ 64 - 2) ∷ [] } ∷ []
unfolding form one read slots_of shown
one-shows = refl

one_again : packing_of form one ≡ record { answer = accepted 7 0; output = bytes "ok" ++ (255 ∷ 254 ∷ 161 ∷ 15 ∷ 254 ∷ 9 ∷ 9 ∷ []) }
unfolding form one
one_again = (loses-nothing form).gives_back one

-- doubles (02, M-108): 1.5 and an infinity, then a NaN with its low byte first, and 7
doubles : Layout
unfolding fields_of lossless
doubles = record {
  text = bytes "Q2qc";
  fields =
      record { role = Data (Reals false true); unsigned = false; count = Times 2 }
      ∷ record { role = Data (Reals false false); unsigned = false; count = Absent }
      ∷ record { role = Data (Integers 1 false); unsigned = false; count = Absent } ∷ [];
  has-fields = refl;
  is-lossless = tt;
}

two : Archived doubles
unfolding doubles are_bytes end_of slots_of slot_count value_bytes values_from
two = record {
  bytes = (0x3f ∷ 0xf8 ∷ replicate 6 0) ++ (0x7f ∷ 0xf0 ∷ replicate 6 0) ++ (1 ∷ replicate 5 0) ++ (0xf8 ∷ 0x7f ∷ 7 ∷ []);
  slots = replicate (slot_width * 3) 9;
  area = replicate 33 7;
  mark = 1;
  output = replicate 25 9;
  are-bytes = tt;
  is-full = refl;
  slot-for-each = refl;
  area-room = omega arith;
  output-room = omega arith;
  read-sizes = tt;
  pack-sizes = tt;
}

two-shows : shown_by doubles two
    ≡ record { kind = real; items = 0x3ff8_0000_0000_0000 ∷ 0x7ff0_0000_0000_0000 ∷ [] }
    ∷ record { kind = real; items = 0x7ff8_0000_0000_0001 ∷ [] }
    ∷ record { kind = integer_kind false; items = 7 ∷ [] } ∷ []
unfolding doubles two read slots_of shown
two-shows = refl
