-- The premises of the claim can be met: a packing by `a* Su2x`, whose starred value is empty, and one by `Su2x`, which
-- has no star.
use mathlib.Core.Path.{◌≡◌, refl}
use mathlib.Core.Bool.{true, false}
use mathlib.Core.List.{List, [], ◌∷◌, ◌++◌}
use Prim.Native.Nat.{ℕ}
use lib.ListN.{replicate}
use lib.Dec.{T}
use Rattle.layout.specs.declared.Role.TheVariants.{Data, Move}
use Rattle.layout.specs.declared.Motion.TheVariants.{Skip}
use Rattle.layout.specs.declared.Shape.TheVariants.{Text, Integers}
use Rattle.layout.specs.declared.Count.TheVariants.{Absent, Star, Times}
use Rattle.layout.specs.declared.Field.{Field}
use Rattle.layout.specs.Refusals.{ok}
use Rattle.layout.specs.Layout.{fields_of}
use Rattle.layout.specs.Quoted.{bytes}
use Rattle.record.specs.Table.{slots_of}
use Rattle.record.specs.Packing.{pack}
use Rattle.describe.specs.Claim.{Packing, length_of, stars_empty, starless}

abbrev integers : List ℕ
integers = replicate 15 0 ++ (3 ∷ [])

starred : Packing (bytes "a* Su2x")
unfolding pack
starred = record { slots = 1 ∷ 0 ∷ 0 ∷ 9 ∷ 3 ∷ 0 ∷ 2 ∷ 9 ∷ []; area = integers; output = replicate 6 9; accepted = refl }

plain : Packing (bytes "Su2x")
unfolding pack
plain = record { slots = 3 ∷ 0 ∷ 2 ∷ 9 ∷ []; area = integers; output = replicate 6 9; accepted = refl }

abbrev fields : List Field
fields = record { role = Data (Integers 2 true); unsigned = true; count = Times 2 } ∷ record { role = Move Skip; unsigned = false; count = Absent } ∷ []

abbrev starred_fields : List Field
starred_fields = record { role = Data (Text 0); unsigned = false; count = Star } ∷ fields

have : (fields_of true (bytes "a* Su2x") ≡ ok starred_fields) × (fields_of true (bytes "Su2x") ≡ ok fields)
unfolding fields_of
have = (refl, refl)

empty : T (stars_empty (slots_of starred.slots) starred_fields)
unfolding starred stars_empty slots_of
empty = tt

none : T (starless fields)
unfolding starless
none = tt

-- both records have five bytes
long : (length_of starred ≡ 5) × (length_of plain ≡ 5)
unfolding starred plain pack
long = (refl, refl)
