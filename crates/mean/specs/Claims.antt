-- What holds of the mean for all tables (02, M-104); the proofs are in proofs/marks/Theorems.antt, and of
-- `NearestUnique` in proofs/marks/NearestMean.antt.
use Rattle.std.specs.Prelude.{ℕ, suc, ◌+◌, ◌-◌, ◌*◌, ◌^◌, ◌<◌, min, max, ◌≡◌, Bool, true, false, not, ◌&&◌, List, [], ◌∷◌, T, eqb, leb, length, ℤ, pos, negsuc, Float, Option, None, Some, if◌then◌else◌}
use Rattle.std.specs.Float.{binary64}
use Rattle.std.specs.Float.Ieee.{to_bits, is_nan, le}
use Rattle.layout.specs.Refusals.{ok}
use Rattle.real.specs.Patterns.{double_magnitude, double_infinity}
use Rattle.real.specs.Narrowing.{Nearest}
use Rattle.record.specs.declared.slots.Slot.{Slot}
use Rattle.record.specs.Table.{unset as kind_unset, signed, slots_of}
use Rattle.record.specs.Geometry.{table_fits}
use Rattle.mean.specs.declared.marks.Marks.{Marks}
use Rattle.mean.specs.Mean.{Leg, max_mark, marks_of, sum_of, double, legs, mean}

-- ---- what a mark is

-- the integer that an item of a kind stands for: a signed one from 2 ^ 63 on is the two's complement of a negative
-- number
abbrev pub integer_of : ℕ → ℕ → ℤ
integer_of kind x = if eqb kind signed && leb (2 ^ 63) x then negsuc (2 ^ 64 - 1 - x) else pos x

-- an integer from 0 to the greatest mark
abbrev pub is_mark : ℤ → Bool
is_mark (pos n) = leb n max_mark
is_mark (negsuc n) = false

-- the one test of `leg_of` serves signed and unsigned integers: it asks whether the integer is a mark
abbrev pub MarkRange : Type 0
MarkRange = (kind x : ℕ) → leb x max_mark ≡ is_mark (integer_of kind x)

-- ---- slots that are not set

-- the second slots are the first, with n slots put in anywhere that are not set
pub data Inserted : List Slot → List Slot → ℕ → Type 0 where
  none : Inserted [] [] 0
  kept : {s : Slot} {ss ts : List Slot} {n : ℕ} → Inserted ss ts n → Inserted (s ∷ ss) (s ∷ ts) n
  blank : {s : Slot} {ss ts : List Slot} {n : ℕ} → eqb s.kind kind_unset ≡ true → Inserted ss ts n
      → Inserted ss (s ∷ ts) (suc n)

-- two answers differ in the count alone, which is n more; refused tables have the same number and may differ in the
-- place
pub record CountsMore (r q : Marks) (n : ℕ) : Type 0 where
  pub mean : q.mean ≡ r.mean
  pub number : q.answer.number ≡ r.answer.number
  pub count : r.answer.number ≡ 0 → q.answer.first ≡ r.answer.first + n

-- n slots more that are not set change only the count
abbrev pub UnsetCounts : Type 0
UnsetCounts =
    (slots more area : List ℕ) (n : ℕ) → table_fits (length slots) (length area) ≡ true
    → table_fits (length more) (length area) ≡ true → Inserted (slots_of slots) (slots_of more) n
    → CountsMore (mean slots area) (mean more area) n

-- ---- the mean of an accepted table with the legs ls

-- of one marked leg the mean is its mark
abbrev pub OneMark : Type 0
OneMark =
    (slots area : List ℕ) (ls : List Leg) (m : ℕ) → legs slots area ≡ ok ls → marks_of ls ≡ m ∷ []
    → (mean slots area).mean ≡ Some (double m)

unfoldable pub least : ℕ → List ℕ → ℕ
least m [] = m
least m (k ∷ ms) = min m (least k ms)

unfoldable pub greatest : ℕ → List ℕ → ℕ
greatest m [] = m
greatest m (k ∷ ms) = max m (greatest k ms)

-- a mean lies between the least and the greatest mark
pub record Between (m : ℕ) (ms : List ℕ) (x : Float) : Type 0 where
  pub number : T (not (is_nan x))
  pub above : T (le (double (least m ms)) x)
  pub below : T (le x (double (greatest m ms)))

abbrev pub MeanBetween : Type 0
MeanBetween =
    (slots area : List ℕ) (ls : List Leg) (m : ℕ) (ms : List ℕ) → legs slots area ≡ ok ls → marks_of ls ≡ m ∷ ms
    → (x : Float) × ((mean slots area).mean ≡ Some x) × Between m ms x

-- a mean is a number, so that it has a pattern
abbrev pub Numeric : Option Float → Type 0
Numeric None = Unit {0}
Numeric (Some x) = T (not (is_nan x))

abbrev pub MeanNumeric : Type 0
MeanNumeric = (slots area : List ℕ) → Numeric (mean slots area).mean

-- ---- the mean is the nearest double

-- how many of the units of `double_magnitude` are 1
unfoldable pub units_of_one : ℕ
units_of_one = 2 ^ 1074

-- p is the pattern of the double nearest to sum / count: of all finite doubles that are not negative none is nearer,
-- and where another is as near, p is even. Both sides are multiplied by the count and by the units of 1, so that only
-- whole numbers are compared.
abbrev pub NearestQuotient : ℕ → ℕ → ℕ → Type 0
NearestQuotient sum count p = Nearest (λ q. count * double_magnitude q) double_infinity (sum * units_of_one) p

-- The mean is the double nearest to the marks' sum divided by their count. The machine divides so in the rounding mode
-- to nearest, which every C program starts in.
abbrev pub MeanNearest : Type 0
MeanNearest =
    (slots area : List ℕ) (ls : List Leg) (m : ℕ) (ms : List ℕ) → legs slots area ≡ ok ls → marks_of ls ≡ m ∷ ms
    → (x : Float) × ((mean slots area).mean ≡ Some x)
    × NearestQuotient (sum_of (m ∷ ms)) (length (m ∷ ms)) (to_bits binary64 x)

-- no other double is the nearest to sum / count
abbrev pub NearestUnique : Type 0
NearestUnique = (sum count p q : ℕ) → 0 < count → NearestQuotient sum count p → NearestQuotient sum count q → p ≡ q
