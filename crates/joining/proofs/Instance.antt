-- The premises of M-113 can be met: a cover `a* ` that ends in a space, a leg ` Su2` that begins with one, and a last
-- part `xu2b`, over one area. What the whole gives is computed.
use native.Mathlib.Omega.{arith}
use mathlib.Core.Path.{◌≡◌, refl}
use mathlib.Core.Bool.{true, false}
use mathlib.Core.List.{List, [], ◌∷◌, ◌++◌}
use Prim.Native.Nat.{ℕ}
use lib.ListN.{replicate}
use Rattle.layout.specs.declared.Role.TheVariants.{Data, Move}
use Rattle.layout.specs.declared.Motion.TheVariants.{Skip}
use Rattle.layout.specs.declared.Shape.TheVariants.{Text, Digits, Integers}
use Rattle.layout.specs.declared.Count.TheVariants.{Absent, Star, Times}
use Rattle.layout.specs.Layout.{fields_of}
use Rattle.layout.specs.Quoted.{bytes}
use Rattle.record.specs.Table.{Value, string, unsigned, slot_numbers, value_bytes}
use Rattle.record.specs.Packing.{pack, accepted}
use Rattle.joining.specs.Claim.{forward, join_templates, pack_by, Part}
use Rattle.joining.proofs.Joining.{joins}

-- the values, which stand one after the other in the area
name : Value
name = record { kind = string; items = bytes "ok" }

marks : Value
marks = record { kind = unsigned; items = 65534 ∷ 3 ∷ [] }

digit : Value
digit = record { kind = string; items = bytes "1" }

unfoldable area : List ℕ
unfolding name marks digit value_bytes
area = value_bytes (name ∷ marks ∷ digit ∷ [])

cover : Part area
unfolding area fields_of forward pack slot_numbers
cover = record {
  template = record { text = bytes "a* "; slots = slot_numbers 0 [] (name ∷ []) };
  output = replicate 2 7;
  fields = record { role = Data (Text 0); unsigned = false; count = Star } ∷ [];
  has-fields = refl;
  goes-forward = tt;
  accepted = refl;
}

leg : Part area
unfolding area fields_of forward pack slot_numbers
leg = record {
  template = record { text = bytes " Su2"; slots = slot_numbers 2 [] (marks ∷ []) };
  output = replicate 9 7;
  fields = record { role = Data (Integers 2 true); unsigned = true; count = Times 2 } ∷ [];
  has-fields = refl;
  goes-forward = tt;
  accepted = refl;
}

last : Part area
unfolding area fields_of forward pack slot_numbers
last = record {
  template = record { text = bytes "xu2b"; slots = slot_numbers 18 [] (digit ∷ []) };
  output = replicate 3 7;
  fields = record { role = Move Skip; unsigned = true; count = Times 2 } ∷ record { role = Data (Digits false false); unsigned = false; count = Absent } ∷ [];
  has-fields = refl;
  goes-forward = tt;
  accepted = refl;
}

-- "ok", ff fe 00 03 and 00 00 01, in a buffer of eleven bytes 9
joined : pack_by (join_templates (join_templates cover.template leg.template) last.template) area (replicate 11 9)
    ≡ record { answer = accepted 9 0; output = bytes "ok" ++ (255 ∷ 254 ∷ 0 ∷ 3 ∷ 0 ∷ 0 ∷ 1 ∷ 9 ∷ 9 ∷ []) }
unfolding area cover leg last pack slot_numbers
joined = (joins area).three cover leg last (replicate 11 9) tt (omega arith)
