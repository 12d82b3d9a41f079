-- Worked examples of rescues, computed from the definitions. The list is one statement, proved in proofs/Examples.antt.
use Rattle.std.specs.Prelude.{ℕ, ◌-◌, ◌*◌, Bool, true, ◌&&◌, List, [], ◌∷◌, ◌++◌, length, take, replicate}
use Rattle.layout.specs.Quoted.{bytes}
use Rattle.record.specs.Table.{slot_width}
use Rattle.sheet.specs.Examples.{same, not_set, ok_sheet, ok_area, set, unset_slots}
use Rattle.rescue.specs.Rescue.{Outcome, rescue}

-- ---- how an example is written

pub data Example : Type 0 where
  -- sheet, legs, how many slots are lent, bytes of the area, mark; entries kept, bytes dropped, the numbers of the
  -- slots up to `legs`, and the bytes put into the area
  rescuing : List ℕ → ℕ → ℕ → ℕ → ℕ → ℕ → ℕ → List ℕ → List ℕ → Example
  -- sheet, legs, how many slots are lent, bytes of the area, mark; the answer's number
  not_rescued : List ℕ → ℕ → ℕ → ℕ → ℕ → ℕ → Example

-- ---- what an example says

leaves : Outcome → List ℕ → List ℕ → List ℕ → Bool
unfolding same
leaves o answer slots area =
    same (o.answer.number ∷ o.answer.first ∷ o.answer.second ∷ o.answer.third ∷ []) answer && same o.slots slots && same o.area area

-- the call does what an example says; an area is lent full of bytes 170, a table full of numbers 9
pub holds : Example → Bool
unfolding leaves rescue unset_slots
holds (rescuing sheet legs n size mark kept dropped table values) =
    leaves (rescue sheet legs (replicate (slot_width * n) 9) (replicate size 170) mark)
    (0 ∷ kept ∷ (legs - kept) ∷ dropped ∷ [])
    (table ++ unset_slots (legs - kept) ++ replicate (slot_width * (n - legs)) 9)
    (replicate mark 170 ++ values ++ replicate (size - mark - length values) 170)
holds (not_rescued sheet legs n size mark number) =
    leaves (rescue sheet legs (replicate (slot_width * n) 9) (replicate size 170) mark) (number ∷ 0 ∷ 0 ∷ 0 ∷ []) (replicate (slot_width * n) 9) (replicate size 170)

unfoldable pub all : List Example → Bool
unfolding holds
all [] = true
all (e ∷ es) = holds e && all es

-- ---- the list

unfoldable pub examples : List Example
unfolding ok_sheet ok_area not_set set unset_slots
examples =
    -- M-100's own sheet, whole, and cut inside its last, its second and its first entry
    rescuing ok_sheet 3 4 20 5 3 0 (set 0 0 0 (set 1 5 2 (set 2 7 1 []))) ok_area
    ∷ rescuing (take 21 ok_sheet) 3 4 20 5 2 10 (set 0 0 0 (set 1 5 2 [])) (bytes "OK")
    ∷ rescuing (take 11 ok_sheet) 3 4 20 5 2 0 (set 0 0 0 (set 1 5 2 [])) (bytes "OK")
    ∷ rescuing (take 10 ok_sheet) 3 4 20 5 1 4 (set 0 0 0 []) []
    ∷ rescuing (take 5 ok_sheet) 3 3 20 5 0 2 [] []
    -- a header alone, less than one, and nothing at all
    ∷ rescuing (take 3 ok_sheet) 3 3 20 5 0 0 [] []
    ∷ rescuing (take 2 ok_sheet) 2 3 20 5 0 2 [] []
    ∷ rescuing (take 1 ok_sheet) 2 3 20 5 0 1 [] []
    ∷ rescuing [] 2 3 20 5 0 0 [] []
    -- fewer legs than entries: the whole ones past them are dropped; more legs; none
    ∷ rescuing ok_sheet 2 4 20 5 2 11 (set 0 0 0 (set 1 5 2 [])) (bytes "OK")
    ∷ rescuing ok_sheet 5 6 20 5 3 0 (set 0 0 0 (set 1 5 2 (set 2 7 1 []))) ok_area
    ∷ rescuing ok_sheet 0 4 20 5 0 19 [] []
    -- the header's length is not asked; a wrong entry, its kind or its items, ends the rescue though whole ones follow
    ∷ rescuing (1 ∷ 9 ∷ 9 ∷ 0 ∷ 2 ∷ 1 ∷ 65 ∷ []) 1 1 1 0 1 0 (set 1 0 1 []) (65 ∷ [])
    ∷ rescuing (1 ∷ 0 ∷ 0 ∷ 0 ∷ 2 ∷ 1 ∷ 65 ∷ 0 ∷ 1 ∷ 9 ∷ 0 ∷ 1 ∷ 0 ∷ []) 3 3 1 0 1 6 (set 1 0 1 []) (65 ∷ [])
    ∷ rescuing (1 ∷ 0 ∷ 0 ∷ 0 ∷ 2 ∷ 2 ∷ 65 ∷ 0 ∷ 1 ∷ 0 ∷ []) 3 3 1 0 0 7 [] []
    ∷ rescuing (1 ∷ 0 ∷ 0 ∷ 0 ∷ 0 ∷ 0 ∷ 1 ∷ 0 ∷ []) 3 3 1 0 0 5 [] []
    -- refused: sizes, mark and legs, also where the first byte is bad; version; slots; room for what is kept
    ∷ not_rescued ok_sheet 3 65 20 5 1
    ∷ not_rescued ok_sheet 3 3 20 21 1
    ∷ not_rescued ok_sheet 65 64 20 5 1
    ∷ not_rescued (9 ∷ []) 65 3 20 5 1
    ∷ not_rescued (9 ∷ []) 4 3 20 5 13
    ∷ not_rescued ok_sheet 4 3 20 20 5
    ∷ not_rescued [] 4 3 20 5 5
    ∷ not_rescued ok_sheet 3 3 20 11 11
    ∷ rescuing ok_sheet 2 3 13 11 2 11 (set 0 0 0 (set 1 11 2 [])) (bytes "OK")
    -- version 2, though version 1 could hold what is kept: a header of five bytes, or less than one
    ∷ rescuing (2 ∷ 9 ∷ 9 ∷ 9 ∷ 9 ∷ 0 ∷ 0 ∷ 0 ∷ 2 ∷ 1 ∷ 65 ∷ 0 ∷ 0 ∷ 0 ∷ []) 2 3 20 5 1 3 (set 1 5 1 []) (65 ∷ [])
    ∷ rescuing (2 ∷ 0 ∷ 0 ∷ 0 ∷ 0 ∷ []) 2 3 20 5 0 0 [] []
    ∷ rescuing (2 ∷ 0 ∷ 0 ∷ 0 ∷ []) 2 3 20 5 0 4 [] []
    -- 64 legs, and a sheet of 65 entries
    ∷ rescuing (1 ∷ 0 ∷ 195 ∷ not_set 65) 64 64 0 0 64 3 (unset_slots 64) []
    ∷ []
