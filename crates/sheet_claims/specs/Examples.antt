-- Worked examples of sheets (02, M-100), computed from the definitions. The list is one statement, proved in
-- proofs/Examples.antt.
use Rattle.std.specs.Prelude.{ℕ, ◌+◌, ◌-◌, ◌*◌, Bool, true, ◌&&◌, List, [], ◌∷◌, ◌++◌, length, replicate}
use Rattle.record.specs.declared.Answer.{Answer}
use Rattle.record.specs.Table.{slot_width}
use Rattle.record.specs.Packing.{Packed}
use Rattle.record.specs.Reading.{Read}
use Rattle.sheet.specs.Sheet.{write_sheet, read_sheet}
use Rattle.sheet.specs.Examples.{ok_table, ok_area, ok_sheet, not_set, set, unset_slots, long_sheet, same}

-- ---- how an example is written

pub data Example : Type 0 where
  -- slots, area, bytes of the buffer; the sheet
  writing : List ℕ → List ℕ → ℕ → List ℕ → Example
  -- slots, area, bytes of the buffer; the answer's three numbers
  not_written : List ℕ → List ℕ → ℕ → List ℕ → Example
  -- sheet, how many slots are lent, bytes of the area, mark; how many slots are set, the numbers in them, and the bytes
  -- put into the area
  reading : List ℕ → ℕ → ℕ → ℕ → ℕ → List ℕ → List ℕ → Example
  -- sheet, how many slots are lent, bytes of the area, mark; the answer's three numbers
  not_read : List ℕ → ℕ → ℕ → ℕ → List ℕ → Example

-- ---- what an example says

numbers : Answer → List ℕ
numbers a = a.number ∷ a.first ∷ a.second ∷ []

leaves : Packed → List ℕ → List ℕ → Bool
unfolding same numbers
leaves w answer buffer = same (numbers w.answer) answer && same w.output buffer

leaves_table : Read → List ℕ → List ℕ → List ℕ → Bool
unfolding same numbers
leaves_table r answer slots area = same (numbers r.answer) answer && same r.slots slots && same r.area area

-- the call does what an example says; a buffer and an area are lent full of bytes 170, a table full of numbers 9
pub holds : Example → Bool
unfolding leaves leaves_table write_sheet read_sheet
holds (writing slots area room sheet) =
    leaves (write_sheet slots area (replicate room 170)) (0 ∷ length sheet ∷ 0 ∷ []) (sheet ++ replicate (room - length sheet) 170)
holds (not_written slots area room answer) = leaves (write_sheet slots area (replicate room 170)) answer (replicate room 170)
holds (reading sheet n size mark set table values) =
    leaves_table (read_sheet sheet (replicate (slot_width * n) 9) (replicate size 170) mark)
    (0 ∷ set ∷ (mark + length values) ∷ [])
    (table ++ replicate (slot_width * n - length table) 9)
    (replicate mark 170 ++ values ++ replicate (size - mark - length values) 170)
holds (not_read sheet n size mark answer) =
    leaves_table (read_sheet sheet (replicate (slot_width * n) 9) (replicate size 170) mark) answer (replicate (slot_width * n) 9) (replicate size 170)

unfoldable pub all : List Example → Bool
unfolding holds
all [] = true
all (e ∷ es) = holds e && all es

-- ---- the list

-- the double 1.6
unfoldable sixteen_tenths : List ℕ
sixteen_tenths = 0x3f ∷ 0xf9 ∷ 0x99 ∷ 0x99 ∷ 0x99 ∷ 0x99 ∷ 0x99 ∷ 0x9a ∷ []

unfoldable pub examples : List Example
unfolding ok_table ok_area ok_sheet long_sheet sixteen_tenths not_set set unset_slots
examples =
    -- the example of 02
    writing ok_table ok_area 30 ok_sheet
    ∷ reading ok_sheet 4 20 5 3 (set 0 0 0 (set 1 5 2 (set 2 7 1 []))) ok_area
    -- a table of no slots is a header alone; empty values; an unset slot is never bad
    ∷ writing [] [] 3 (1 ∷ 0 ∷ 0 ∷ [])
    ∷ reading (1 ∷ 0 ∷ 0 ∷ []) 2 4 4 0 [] []
    ∷ writing (set 1 1 0 (set 3 0 0 (set 0 99 99 []))) (65 ∷ []) 12 (1 ∷ 0 ∷ 9 ∷ 0 ∷ 1 ∷ 1 ∷ 0 ∷ 1 ∷ 3 ∷ 0 ∷ 1 ∷ 0 ∷ [])
    ∷ reading (1 ∷ 0 ∷ 9 ∷ 0 ∷ 1 ∷ 1 ∷ 0 ∷ 1 ∷ 3 ∷ 0 ∷ 1 ∷ 0 ∷ []) 3 2 1 3 (set 1 1 0 (set 3 1 0 (set 0 0 0 []))) []
    -- reals (02, M-108): 1.6, and none
    ∷ writing (set 4 0 1 (set 4 8 0 [])) sixteen_tenths 17 (1 ∷ 0 ∷ 14 ∷ 0 ∷ 9 ∷ 4 ∷ sixteen_tenths ++ (0 ∷ 1 ∷ 4 ∷ []))
    ∷ reading (1 ∷ 0 ∷ 11 ∷ 0 ∷ 9 ∷ 4 ∷ sixteen_tenths) 1 8 0 1 (set 4 0 1 []) sixteen_tenths
    ∷ not_read (1 ∷ 0 ∷ 10 ∷ 0 ∷ 8 ∷ 4 ∷ 1 ∷ 2 ∷ 3 ∷ 4 ∷ 5 ∷ 6 ∷ 7 ∷ []) 1 8 0 (12 ∷ 3 ∷ 0 ∷ [])
    -- writing refused: sizes; the first bad slot; no room
    ∷ not_written (1 ∷ 0 ∷ 0 ∷ []) [] 30 (1 ∷ 0 ∷ 0 ∷ [])
    ∷ not_written (replicate (slot_width * 65) 0) [] 30 (1 ∷ 0 ∷ 0 ∷ [])
    ∷ not_written (set 0 7 5 (set 5 0 0 (set 9 0 0 []))) ok_area 30 (7 ∷ 1 ∷ 0 ∷ [])
    ∷ not_written (set 1 9 2 []) ok_area 0 (7 ∷ 0 ∷ 0 ∷ [])
    ∷ not_written (set 1 11 0 []) ok_area 30 (7 ∷ 0 ∷ 0 ∷ [])
    ∷ not_written ok_table ok_area 21 (11 ∷ 0 ∷ 0 ∷ [])
    -- reading refused: sizes and mark; version; header; entries; slots; room
    ∷ not_read ok_sheet 65 20 0 (1 ∷ 0 ∷ 0 ∷ [])
    ∷ not_read ok_sheet 3 20 21 (1 ∷ 0 ∷ 0 ∷ [])
    ∷ not_read (9 ∷ []) 3 20 0 (13 ∷ 0 ∷ 0 ∷ [])
    ∷ not_read [] 3 20 0 (12 ∷ 0 ∷ 0 ∷ [])
    ∷ not_read (1 ∷ 0 ∷ []) 3 20 0 (12 ∷ 0 ∷ 0 ∷ [])
    ∷ not_read (1 ∷ 0 ∷ 4 ∷ 0 ∷ 1 ∷ 0 ∷ []) 3 20 0 (12 ∷ 0 ∷ 0 ∷ [])
    ∷ not_read (1 ∷ 0 ∷ 4 ∷ 0 ∷ 1 ∷ 0 ∷ 0 ∷ []) 3 20 0 (12 ∷ 6 ∷ 0 ∷ [])
    ∷ not_read (1 ∷ 0 ∷ 5 ∷ 0 ∷ 1 ∷ 0 ∷ 0 ∷ 0 ∷ []) 3 20 0 (12 ∷ 6 ∷ 0 ∷ [])
    ∷ not_read (1 ∷ 0 ∷ 3 ∷ 0 ∷ 2 ∷ 1 ∷ []) 3 20 0 (12 ∷ 3 ∷ 0 ∷ [])
    ∷ not_read (1 ∷ 0 ∷ 4 ∷ 0 ∷ 2 ∷ 0 ∷ 7 ∷ []) 3 20 0 (12 ∷ 3 ∷ 0 ∷ [])
    ∷ not_read (1 ∷ 0 ∷ 4 ∷ 0 ∷ 2 ∷ 2 ∷ 7 ∷ []) 3 20 0 (12 ∷ 3 ∷ 0 ∷ [])
    ∷ not_read (1 ∷ 0 ∷ 6 ∷ 0 ∷ 1 ∷ 0 ∷ 0 ∷ 1 ∷ 5 ∷ []) 0 20 0 (12 ∷ 6 ∷ 0 ∷ [])
    ∷ not_read ok_sheet 2 0 0 (5 ∷ 0 ∷ 0 ∷ [])
    ∷ not_read ok_sheet 3 20 11 (11 ∷ 0 ∷ 0 ∷ [])
    -- 64 and 65 entries; a length of 65,535
    ∷ reading (1 ∷ 0 ∷ 192 ∷ not_set 64) 64 0 0 64 (unset_slots 64) []
    ∷ not_read (1 ∷ 0 ∷ 195 ∷ not_set 65) 64 0 0 (5 ∷ 0 ∷ 0 ∷ [])
    ∷ writing (set 1 0 65532 []) (replicate 65532 65) 65538 (1 ∷ 255 ∷ 255 ∷ 255 ∷ 253 ∷ 1 ∷ replicate 65532 65)
    -- version 2: written exactly where version 1 has no room for a length, and read back
    ∷ writing (set 1 0 65533 []) (replicate 65533 65) 65543 long_sheet
    ∷ reading long_sheet 2 65534 1 1 (set 1 1 65533 []) (replicate 65533 65)
    ∷ not_read long_sheet 0 0 0 (5 ∷ 0 ∷ 0 ∷ [])
    -- the header of version 2 is five bytes; a version 2 sheet that version 1 could hold is refused, after the entries
    -- and before 5
    ∷ not_read (2 ∷ []) 3 20 0 (12 ∷ 0 ∷ 0 ∷ [])
    ∷ not_read (2 ∷ 0 ∷ 0 ∷ 0 ∷ []) 3 20 0 (12 ∷ 0 ∷ 0 ∷ [])
    ∷ not_read (2 ∷ 0 ∷ 0 ∷ 0 ∷ 0 ∷ []) 3 20 0 (12 ∷ 0 ∷ 0 ∷ [])
    ∷ not_read (2 ∷ 0 ∷ 0 ∷ 0 ∷ 5 ∷ 0 ∷ 0 ∷ 0 ∷ 1 ∷ 0 ∷ []) 0 20 0 (12 ∷ 0 ∷ 0 ∷ [])
    ∷ not_read (2 ∷ 0 ∷ 0 ∷ 0 ∷ 5 ∷ 0 ∷ 0 ∷ 0 ∷ 1 ∷ 9 ∷ []) 0 20 0 (12 ∷ 5 ∷ 0 ∷ [])
    ∷ not_read (3 ∷ 0 ∷ 0 ∷ []) 3 20 0 (13 ∷ 0 ∷ 0 ∷ [])
    ∷ not_read (0 ∷ []) 3 20 0 (13 ∷ 0 ∷ 0 ∷ [])
    ∷ []
