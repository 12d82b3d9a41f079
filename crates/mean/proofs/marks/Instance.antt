-- The premises of the claims can be met: 60, not set, 0 and 75; the same without the slot that is not set; and one mark
-- alone.
use Prim.Native.Nat.{ℕ}
use mathlib.Core.Path.{◌≡◌, refl}
use mathlib.Core.Bool.{true}
use mathlib.Core.List.{List, [], ◌∷◌, ◌++◌}
use lib.ListN.{length}
use Rattle.layout.specs.Refusals.{ok}
use Rattle.record.specs.Bytes.{big_endian}
use Rattle.record.specs.Table.{slots_of, integer_bytes}
use Rattle.record.specs.Geometry.{table_fits}
use Rattle.mean.specs.Mean.{unset, marked, marks_of, legs}
use Rattle.mean.specs.Claims.{Inserted, none, kept, blank}

abbrev area : List ℕ
area = integer_bytes (60 ∷ 0 ∷ 75 ∷ [])

abbrev first : List ℕ
first = 3 ∷ 0 ∷ 1 ∷ 0 ∷ []

abbrev others : List ℕ
others = 3 ∷ 8 ∷ 1 ∷ 0 ∷ 3 ∷ 16 ∷ 1 ∷ 0 ∷ []

-- UnsetCounts: one slot more, which is not set
sizes : (table_fits (length (first ++ others)) (length area) ≡ true) × (table_fits (length (first ++ (0 ∷ 5 ∷ 5 ∷ 5 ∷ []) ++ others)) (length area) ≡ true)
unfolding big_endian
sizes = (refl, refl)

inserted : Inserted (slots_of (first ++ others)) (slots_of (first ++ (0 ∷ 5 ∷ 5 ∷ 5 ∷ []) ++ others)) 1
unfolding slots_of
inserted = kept (blank refl (kept (kept none)))

-- OneMark
one : (legs first area ≡ ok (marked 60 ∷ [])) × (marks_of (marked 60 ∷ []) ≡ 60 ∷ [])
unfolding legs marks_of big_endian
one = (refl, refl)

-- MeanBetween and MeanNearest
three : (legs (first ++ (0 ∷ 5 ∷ 5 ∷ 5 ∷ []) ++ others) area ≡ ok (marked 60 ∷ unset ∷ marked 0 ∷ marked 75 ∷ []))
    × (marks_of (marked 60 ∷ unset ∷ marked 0 ∷ marked 75 ∷ []) ≡ 60 ∷ 0 ∷ 75 ∷ [])
unfolding legs marks_of big_endian
three = (refl, refl)
