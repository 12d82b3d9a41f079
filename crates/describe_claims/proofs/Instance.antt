-- The premises of the claim can be met: the layout `A2 xSu` is taken by the call and by packing, it is plain and
-- without stars, and something is packed by it.
use native.Mathlib.Omega.{arith}
use mathlib.Core.Path.{◌≡◌, refl}
use mathlib.Core.Bool.{true, false}
use mathlib.Core.List.{List, [], ◌∷◌, ◌++◌}
use lib.ListN.{replicate}
use lib.Dec.{T}
use Rattle.layout.specs.declared.Role.TheVariants.{Data, Move}
use Rattle.layout.specs.declared.Motion.TheVariants.{Skip}
use Rattle.layout.specs.declared.Shape.TheVariants.{Text, Integers}
use Rattle.layout.specs.declared.Count.TheVariants.{Absent, Times}
use Rattle.layout.specs.Layout.{fields_of}
use Rattle.layout.specs.Quoted.{bytes}
use Rattle.record.specs.Packing.{pack}
use Rattle.runs.specs.Ends.{end_of}
use Rattle.describe.specs.Claim.{Packing, starless}
use Rattle.evolution.specs.Claim.{plain}
use Rattle.describe.specs.Placed.{Placed, placed_fields}
use Rattle.describe_claims.specs.Claim.{Taken, fields_taken, PackedToo}

abbrev three : List Placed
three =
    record { what = record { role = Data (Text 32); unsigned = false; count = Times 2 }; place = 0; letter = 65; size = 2 }
    ∷ record { what = record { role = Move Skip; unsigned = false; count = Absent }; place = 3; letter = 120; size = 1 }
    ∷ record { what = record { role = Data (Integers 2 true); unsigned = true; count = Absent }; place = 4; letter = 83; size = 2 }
    ∷ []

taken : Taken (bytes "A2 xSu")
unfolding placed_fields
taken = record { placed = three; short = omega arith; has-fields = refl }

packs : PackedToo taken
unfolding taken fields_of
packs = refl

is_plain : T (plain (fields_taken taken))
unfolding taken plain
is_plain = tt

no-star : T (starless (fields_taken taken))
unfolding taken starless
no-star = tt

-- its fields fill five bytes
ends : end_of (fields_taken taken) ≡ 5
unfolding taken end_of
ends = refl

packing : Packing (bytes "A2 xSu")
unfolding pack
packing =
    record { slots = 1 ∷ 0 ∷ 2 ∷ 9 ∷ 3 ∷ 2 ∷ 1 ∷ 9 ∷ []; area = replicate 9 79 ++ (3 ∷ []); output = replicate 6 9; accepted = refl }
