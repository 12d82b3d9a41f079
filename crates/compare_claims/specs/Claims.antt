-- What is claimed of comparing beyond its effect (02, M-102); the proofs are in proofs/Claims.antt.
use Rattle.std.specs.Prelude.{ℕ, zero, suc, ◌+◌, ◌<◌, ◌≡◌, Bool, true, false, ◌&&◌, ◌||◌, List, [], ◌∷◌, T, eqb, get_or, if◌then◌else◌}
use Rattle.std.specs.Int.Bits.{bit_xor}
use Rattle.std.specs.Int.Count.{ones}
use Rattle.compare.specs.Difference.{both_same, only_first, only_second, in_neither, same_bytes, differing_bits}
use Rattle.compare.specs.Comparing.{Compared, compare}

-- ---- two values

-- the verdict "same" is given to equal values, and to no others
unfoldable pub SameIsEqual : Type 0
unfolding same_bytes
SameIsEqual = (xs ys : List ℕ) → (same_bytes xs ys ≡ true → xs ≡ ys) × (xs ≡ ys → same_bytes xs ys ≡ true)

-- the bits that are 1 in the exclusive or of bytes at the same place, added up over the length that two runs share
unfoldable pub ones_of_xor : List ℕ → List ℕ → ℕ
ones_of_xor [] ys = 0
ones_of_xor (x ∷ xs) [] = 0
ones_of_xor (x ∷ xs) (y ∷ ys) = ones (bit_xor x y) + ones_of_xor xs ys

-- of two runs of bytes, `ones_of_xor` is the number of bits that differ
unfoldable pub BitsAreOnes : Type 0
unfolding ones_of_xor
BitsAreOnes =
    (xs ys : List ℕ) → ((i : ℕ) → get_or xs i 0 < 256) → ((i : ℕ) → get_or ys i 0 < 256)
    → ones_of_xor xs ys ≡ differing_bits xs ys

-- ---- a record compared with itself

-- the first n findings of a report say same or neither, and no more
unfoldable pub same_or_neither : ℕ → List ℕ → Bool
same_or_neither zero report = true
same_or_neither (suc n) [] = false
same_or_neither (suc n) (v ∷ []) = false
same_or_neither (suc n) (v ∷ p ∷ []) = false
same_or_neither (suc n) (v ∷ p ∷ b ∷ rest) =
    (eqb v both_same || eqb v in_neither) && eqb p 0 && eqb b 0 && same_or_neither n rest

-- a record compared with itself, whichever two tables and areas it is read into: all findings say same or neither
unfoldable pub WithItself : Type 0
unfolding compare same_or_neither
WithItself =
    (layout bs slots area slots' area' report : List ℕ)
    → (compare layout bs bs slots area slots' area' report).answer.number ≡ 0
    → T (same_or_neither (compare layout bs bs slots area slots' area' report).answer.first
    (compare layout bs bs slots area slots' area' report).report)

-- ---- the other way round

-- the first n findings of a report, with only in the first and only in the second swapped
unfoldable pub swapped : ℕ → List ℕ → List ℕ
swapped zero report = report
swapped (suc n) [] = []
swapped (suc n) (v ∷ []) = v ∷ []
swapped (suc n) (v ∷ p ∷ []) = v ∷ p ∷ []
swapped (suc n) (v ∷ p ∷ b ∷ rest) =
    (if eqb v only_first then only_second else if eqb v only_second then only_first else v) ∷ p ∷ b ∷ swapped n rest

-- what a call leaves, where the two copies with all that is theirs change places
unfoldable pub other_way : Compared → Compared
unfolding swapped
other_way c =
    record {
      answer = c.answer;
      first_slots = c.second_slots;
      first_area = c.second_area;
      second_slots = c.first_slots;
      second_area = c.first_area;
      report = swapped c.answer.first c.report;
    }

-- swapping the copies swaps "only in the first" and "only in the second"; no other verdict, place or number of bits
-- changes
unfoldable pub OtherWayRound : Type 0
unfolding compare other_way
OtherWayRound =
    (layout first second slots area slots' area' report : List ℕ)
    → (compare layout first second slots area slots' area' report).answer.number ≡ 0
    → compare layout second first slots' area' slots area report
    ≡ other_way (compare layout first second slots area slots' area' report)
