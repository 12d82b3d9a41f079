-- The mean of the marked legs (02, M-104): each slot of a table is one leg. THE EFFECT OF A CALL is `mean`, at the end.
use Rattle.std.specs.Prelude.{ℕ, suc, ◌+◌, List, [], ◌∷◌, eqb, leb, length, get_or, pos, Float, Option, None, Some, if◌then◌else◌}
use Rattle.std.specs.Float.{binary64}
use Rattle.std.specs.Float.Ieee.{of_int, div}
use Rattle.layout.specs.declared.Refusal.TheVariants.{BadSize, BadSlot, WrongKind, BadList, BadMark}
use Rattle.layout.specs.Refusals.{Result, ok, refused, ◌>>=◌, demand}
use Rattle.record.specs.declared.slots.Slot.{Slot}
use Rattle.record.specs.Table.{unset as kind_unset, is_integers, slots_of, shown}
use Rattle.record.specs.Geometry.{table_fits}
use Rattle.record.specs.Packing.{accepted, refusal}
use Rattle.record.specs.Slots.{is_inside}
use Rattle.mean.specs.declared.marks.Marks.{Marks}

-- ---- the legs of a table

-- a leg whose slot is not set, or the mark of one that is
pub data Leg : Type 0 where
  unset : Leg
  marked : ℕ → Leg

-- the greatest mark: marks go from 0 to this one
abbrev pub max_mark : ℕ
max_mark = 1000000

-- The one integer that a slot shows. A negative one is its two's complement (`Value`), which is above every mark.
unfoldable pub mark_in : List ℕ → Slot → ℕ
unfolding shown
mark_in area s = get_or (shown area s).items 0 0

-- The leg in slot number i, or the first of the refusals 7, 8, 9 and 14 that applies to the slot. A slot that is not
-- set is looked at no further.
unfoldable pub leg_of : List ℕ → ℕ → Slot → Result Leg
unfolding mark_in
leg_of area i s =
    if eqb s.kind kind_unset then ok unset else do
      _ ← demand (is_inside s (length area)) BadSlot i
      _ ← demand (is_integers s.kind) WrongKind i
      _ ← demand (eqb s.len 1) BadList i
      _ ← demand (leb (mark_in area s) max_mark) BadMark i
      ok (marked (mark_in area s))

-- the legs in the slots from number i on, or the first refusal
unfoldable pub legs_of : List ℕ → ℕ → List Slot → Result (List Leg)
unfolding leg_of
legs_of area i [] = ok []
legs_of area i (s ∷ ss) = leg_of area i s >>= (λ l. legs_of area (suc i) ss >>= (λ ls. ok (l ∷ ls)))

-- ---- counts and the mean

-- the marks of the legs that have one, those of 0 too
unfoldable pub marks_of : List Leg → List ℕ
marks_of [] = []
marks_of (unset ∷ ls) = marks_of ls
marks_of (marked m ∷ ls) = m ∷ marks_of ls

-- how many legs have no mark
unfoldable pub unset_of : List Leg → ℕ
unset_of [] = 0
unset_of (unset ∷ ls) = suc (unset_of ls)
unset_of (marked m ∷ ls) = unset_of ls

unfoldable pub sum_of : List ℕ → ℕ
sum_of [] = 0
sum_of (m ∷ ms) = m + sum_of ms

-- a whole number as a double
unfoldable pub double : ℕ → Float
unfolding of_int
double n = of_int binary64 (pos n)

-- the one division of the mean, of two whole numbers as doubles
unfoldable pub quotient : ℕ → ℕ → Float
unfolding double div
quotient sum count = div binary64 (double sum) (double count)

-- the mean of these marks; where there is none, no leg is marked
unfoldable pub mean_of : List ℕ → Option Float
unfolding quotient sum_of
mean_of [] = None
mean_of (m ∷ ms) = Some (quotient (sum_of (m ∷ ms)) (length (m ∷ ms)))

-- ---- the call

-- the legs of a table, or the first refusal: 1 for the slots and the area, then slot by slot
unfoldable pub legs : List ℕ → List ℕ → Result (List Leg)
unfolding legs_of slots_of
legs slots area = do
  _ ← demand (table_fits (length slots) (length area)) BadSize 0
  legs_of area 0 (slots_of slots)

-- what is answered: accepted 0, the slots not set, 0; refused the number, the place, 0, and no leg marked
unfoldable pub marks_effect : Result (List Leg) → Marks
unfolding unset_of marks_of mean_of
marks_effect (ok ls) = record { answer = accepted (unset_of ls) 0; mean = mean_of (marks_of ls) }
marks_effect (refused why place) = record { answer = refusal why place; mean = None }

unfoldable pub mean : List ℕ → List ℕ → Marks
unfolding legs marks_effect
mean slots area = marks_effect (legs slots area)
