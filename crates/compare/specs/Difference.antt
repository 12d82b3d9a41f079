-- Two values as the bytes that they have in their areas: where they differ, and the finding of a report that says so
-- (02, M-102).
use Rattle.std.specs.Prelude.{ℕ, suc, ◌+◌, Bool, true, false, ◌&&◌, List, [], ◌∷◌, map, eqb, if◌then◌else◌}
use Rattle.record.specs.Bytes.{join, digits}
use Rattle.compare.specs.declared.difference.Finding.{Finding}
use Rattle.compare.specs.declared.difference.Finding.TheVariants.{Same, OnlyFirst, OnlySecond, Neither, Differ}

-- byte for byte the same, and none longer
unfoldable pub same_bytes : List ℕ → List ℕ → Bool
same_bytes [] [] = true
same_bytes [] (y ∷ ys) = false
same_bytes (x ∷ xs) [] = false
same_bytes (x ∷ xs) (y ∷ ys) = eqb x y && same_bytes xs ys

-- the place of the first byte that differs; the length of the shorter, if it is the front of the other
unfoldable pub first_difference : List ℕ → List ℕ → ℕ
first_difference [] ys = 0
first_difference (x ∷ xs) [] = 0
first_difference (x ∷ xs) (y ∷ ys) = if eqb x y then suc (first_difference xs ys) else 0

-- at how many of the places that both have their elements differ
unfoldable pub differing : List ℕ → List ℕ → ℕ
differing [] ys = 0
differing (x ∷ xs) [] = 0
differing (x ∷ xs) (y ∷ ys) = (if eqb x y then 0 else 1) + differing xs ys

-- the binary digits of a run of bytes, eight to a byte
unfoldable pub bits_of : List ℕ → List ℕ
unfolding join digits
bits_of bs = join (map (digits 2 8) bs)

-- the bits at which the bytes that both have differ
abbrev pub differing_bits : List ℕ → List ℕ → ℕ
differing_bits xs ys = differing (bits_of xs) (bits_of ys)

-- ---- the report: a finding of three numbers for each value field

abbrev pub report_width : ℕ
report_width = 3

-- the five verdicts
abbrev pub both_same : ℕ
both_same = 0

abbrev pub only_first : ℕ
only_first = 1

abbrev pub only_second : ℕ
only_second = 2

abbrev pub in_neither : ℕ
in_neither = 3

abbrev pub both_differ : ℕ
both_differ = 4

-- the finding of a verdict that says all: the other two numbers are 0
abbrev pub plain_finding : ℕ → List ℕ
plain_finding verdict = verdict ∷ 0 ∷ 0 ∷ []

-- the finding of two values that are both set
unfoldable pub both_finding : List ℕ → List ℕ → List ℕ
unfolding same_bytes first_difference bits_of differing
both_finding xs ys =
    if same_bytes xs ys then plain_finding both_same else (both_differ ∷ first_difference xs ys ∷ differing_bits xs ys ∷ [])

-- the three numbers of a finding
abbrev pub finding_numbers : Finding → List ℕ
finding_numbers Same = plain_finding both_same
finding_numbers OnlyFirst = plain_finding only_first
finding_numbers OnlySecond = plain_finding only_second
finding_numbers Neither = plain_finding in_neither
finding_numbers (Differ place bits) = both_differ ∷ place ∷ bits ∷ []
