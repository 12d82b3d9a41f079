-- The order of the refusals (document 01, Numbers that come back): calls with two faults, each answered by the one
-- whose check comes first. A slot is written out as its four numbers: kind, start, length, position. All are one
-- statement, `InOrder`, proved in proofs/Answered.antt.
use Rattle.std.specs.Prelude.{ℕ, Bool, true, ◌&&◌, List, [], ◌∷◌, replicate, T, eqb}
use Prim.Native.String.{String}
use Rattle.layout.specs.Quoted.{bytes}
use Rattle.record.specs.declared.Answer.{Answer}
use Rattle.record.specs.Packing.{pack}
use Rattle.record.specs.Reading.{read}

pub data Twofold : Type 0 where
  -- layout, slots, area, bytes of the output buffer; the number and the place of the answer
  packing : String → List ℕ → List ℕ → ℕ → ℕ → ℕ → Twofold
  -- layout, record, how many numbers of slots are lent, bytes of the area, mark; the number and the place of the answer
  reading : String → List ℕ → ℕ → ℕ → ℕ → ℕ → ℕ → Twofold

abbrev refused_by : Answer → ℕ → ℕ → Bool
refused_by a number place = eqb a.number number && eqb a.first place && eqb a.second 0

pub answered : Twofold → Bool
unfolding pack read
answered (packing layout slots area room number place) =
    refused_by (pack (bytes layout) slots area (replicate room 0)).answer number place
answered (reading layout bs n size mark number place) =
    refused_by (read (bytes layout) bs (replicate n 9) (replicate size 0) mark).answer number place

unfoldable pub all_answered : List Twofold → Bool
unfolding answered
all_answered [] = true
all_answered (e ∷ es) = answered e && all_answered es

-- the bytes of a double that is no number: all bits of the exponent, and the first of the fraction
nan : List ℕ
nan = 0x7f ∷ 0xf8 ∷ replicate 6 0

unfoldable pub order : List Twofold
unfolding nan
order =
    -- 1 before 2: three numbers are no slot
    packing "z" (1 ∷ 0 ∷ 0 ∷ []) [] 0 1 0
    -- field by field from the left: 2 before a later 3, 3 before a later 4, 4 before a later 2
    ∷ packing "z c99999" [] [] 0 2 0
    ∷ packing "c99999 @" [] [] 0 3 1
    ∷ packing "@ z" [] [] 0 4 0
    -- 2 before 5: a slot is missing
    ∷ packing "c z" [] [] 0 2 2
    -- 5 before 6: two slots for one field, none of them set
    ∷ packing "c" (0 ∷ 0 ∷ 0 ∷ 0 ∷ 0 ∷ 0 ∷ 0 ∷ 0 ∷ []) [] 0 5 0
    -- 6 before 7: not set, with a start past the area
    ∷ packing "c" (0 ∷ 9 ∷ 9 ∷ 0 ∷ []) [] 0 6 0
    -- 7 before 8: integers past the end of the area, for a text
    ∷ packing "a" (2 ∷ 9 ∷ 1 ∷ 0 ∷ []) [] 0 7 0
    -- 8 before 9: a string, for two integers
    ∷ packing "c2" (1 ∷ 0 ∷ 1 ∷ 0 ∷ []) (65 ∷ []) 0 8 0
    -- slot by slot: 9 of slot 0 before 6 of slot 1, 10 of slot 0 before 6 of slot 1, 16 of slot 0 before 6 of slot 1
    ∷ packing "cc" (2 ∷ 0 ∷ 0 ∷ 0 ∷ 0 ∷ 0 ∷ 0 ∷ 0 ∷ []) [] 0 9 0
    ∷ packing "b1c" (1 ∷ 0 ∷ 1 ∷ 0 ∷ 0 ∷ 0 ∷ 0 ∷ 0 ∷ []) (65 ∷ []) 0 10 0
    ∷ packing "rc" (4 ∷ 0 ∷ 1 ∷ 0 ∷ 0 ∷ 0 ∷ 0 ∷ 0 ∷ []) nan 0 16 0
    -- 10 before 11, and 16 before 11: no byte of room
    ∷ packing "b1" (1 ∷ 0 ∷ 1 ∷ 0 ∷ []) (65 ∷ []) 0 10 0
    ∷ packing "r" (4 ∷ 0 ∷ 1 ∷ 0 ∷ []) nan 0 16 0
    -- in reading: 1 before 2, a mark past the area; 4 before a later 2; 2 before 5; 5 before 11
    ∷ reading "z" [] 4 0 1 1 0
    ∷ reading "@ z" [] 4 0 0 4 0
    ∷ reading "a z" (65 ∷ []) 0 0 0 2 2
    ∷ reading "a" (65 ∷ []) 0 0 0 5 0
    ∷ []

-- ALL CALLS ARE ANSWERED IN ORDER
abbrev pub InOrder : Type 0
InOrder = T (all_answered order)
