-- Examples of the mean (02, M-104), as one statement, proved in proofs/marks/Examples.antt.
use Rattle.std.specs.Prelude.{ℕ, zero, suc, ◌*◌, Bool, true, false, ◌&&◌, List, [], ◌∷◌, ◌++◌, eqb, replicate, Float, Option, None, Some}
use Rattle.std.specs.Float.{binary64}
use Rattle.std.specs.Float.Ieee.{to_bits}
use Rattle.record.specs.Bytes.{big_endian}
use Rattle.record.specs.Table.{slot_width, max_slots, integer_bytes}
use Rattle.mean.specs.declared.marks.Marks.{Marks}
use Rattle.mean.specs.Mean.{mean}

-- slots and area; then the answer's first two numbers where no leg is marked, or how many slots are not set and the
-- pattern of the mean
pub data Example : Type 0 where
  no_mean : List ℕ → List ℕ → ℕ → ℕ → Example
  mean_is : List ℕ → List ℕ → ℕ → ℕ → Example

-- slots of kind 3 that show the integers of an area one by one, n of them from the place `at` on
legs_from : ℕ → ℕ → List ℕ
legs_from zero at = []
legs_from (suc n) at = 3 ∷ at ∷ 1 ∷ 0 ∷ legs_from n (suc (suc (suc (suc (suc (suc (suc (suc at))))))))

unfoldable agrees : Marks → ℕ → ℕ → Bool
agrees r number first = eqb r.answer.number number && eqb r.answer.first first && eqb r.answer.second 0

is_unmarked : Option Float → Bool
is_unmarked None = true
is_unmarked (Some x) = false

has_pattern : Option Float → ℕ → Bool
has_pattern None b = false
has_pattern (Some x) b = eqb (to_bits binary64 x) b

unfoldable pub holds : Example → Bool
unfolding agrees mean is_unmarked has_pattern to_bits
holds (no_mean slots area number first) = let r = mean slots area in agrees r number first && is_unmarked r.mean
holds (mean_is slots area first pattern) = let r = mean slots area in agrees r 0 first && has_pattern r.mean pattern

unfoldable pub all : List Example → Bool
unfolding holds
all [] = true
all (e ∷ es) = holds e && all es

unfoldable pub examples : List Example
unfolding legs_from big_endian
examples =
    -- no mean without slots, nor where none is set, whatever their start and length
    no_mean [] [] 0 0
    ∷ no_mean (0 ∷ 9 ∷ 9 ∷ 0 ∷ 0 ∷ 0 ∷ 0 ∷ 4294967295 ∷ []) [] 0 2
    -- 60, not set, 0 and 75: the mean is 45
    ∷ mean_is (legs_from 1 0 ++ (0 ∷ 0 ∷ 0 ∷ 0 ∷ []) ++ legs_from 2 8) (integer_bytes (60 ∷ 0 ∷ 75 ∷ [])) 1 0x4046_8000_0000_0000
    -- 1 and 2: 1.5; 1, 0 and 0: the double nearest to a third; 2, 2 and 1: to five thirds
    ∷ mean_is (legs_from 2 0) (integer_bytes (1 ∷ 2 ∷ [])) 0 0x3ff8_0000_0000_0000
    ∷ mean_is (legs_from 3 0) (integer_bytes (1 ∷ 0 ∷ 0 ∷ [])) 0 0x3fd5_5555_5555_5555
    ∷ mean_is (legs_from 3 0) (integer_bytes (2 ∷ 2 ∷ 1 ∷ [])) 0 0x3ffa_aaaa_aaaa_aaab
    -- a leg of 0 alone: 0
    ∷ mean_is (2 ∷ 0 ∷ 1 ∷ 0 ∷ []) (integer_bytes (0 ∷ [])) 0 0
    -- 1,000,000 is a mark, 1,000,001 is none; nor is -1, in kind 2 or read as kind 3
    ∷ mean_is (legs_from 1 0) (integer_bytes (1000000 ∷ [])) 0 0x412e_8480_0000_0000
    ∷ no_mean (legs_from 2 0) (integer_bytes (1000000 ∷ 1000001 ∷ [])) 14 1
    ∷ no_mean (2 ∷ 0 ∷ 1 ∷ 0 ∷ []) (replicate 8 255) 14 0
    ∷ no_mean (3 ∷ 0 ∷ 1 ∷ 0 ∷ []) (replicate 8 255) 14 0
    -- number 7: kind above 4, value not inside the area, in whole numbers
    ∷ no_mean (5 ∷ 0 ∷ 1 ∷ 0 ∷ []) (replicate 8 0) 7 0
    ∷ no_mean (3 ∷ 1 ∷ 1 ∷ 0 ∷ []) (replicate 8 0) 7 0
    ∷ no_mean (0 ∷ 0 ∷ 0 ∷ 0 ∷ 2 ∷ 8 ∷ 536870911 ∷ 4294967295 ∷ []) (replicate 8 0) 7 1
    -- number 8 for a string and for a real, before 9; number 9 for none and for two integers, before 14
    ∷ no_mean (1 ∷ 0 ∷ 2 ∷ 0 ∷ []) (replicate 8 0) 8 0
    ∷ no_mean (4 ∷ 0 ∷ 0 ∷ 0 ∷ []) (replicate 8 0) 8 0
    ∷ no_mean (2 ∷ 8 ∷ 0 ∷ 0 ∷ []) (replicate 8 0) 9 0
    ∷ no_mean (2 ∷ 0 ∷ 2 ∷ 0 ∷ []) (replicate 16 255) 9 0
    -- number 1: a run of numbers that is cut; one slot too many
    ∷ no_mean (0 ∷ 0 ∷ 0 ∷ []) [] 1 0
    ∷ no_mean (replicate (slot_width * max_slots) 0) [] 0 max_slots
    ∷ no_mean (replicate (slot_width * suc max_slots) 0) [] 1 0
    ∷ []
