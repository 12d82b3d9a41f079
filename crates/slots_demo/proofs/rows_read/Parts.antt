-- Reading over a part of a table is reading over the slots of that part.
use mathlib.Core.Path.{◌≡◌, ap}
use Prim.Native.Nat.{ℕ}
use mathlib.Core.List.{List, ◌++◌}
use lib.ListN.{take, drop}
use Rattle.record.specs.declared.ReadAnswer.{ReadAnswer}
use Rattle.slots.specs.declared.SlotRecord.{SlotRecord}
use Rattle.slots.specs.Reading.{read_slots}
use Rattle.slots_demo.specs.inside.rows_read.{read_part, with_rest}

pub read-part : (layout bs area z : List ℕ) (ss ts : List SlotRecord) (n mark : ℕ) (a : ReadAnswer)
    → record { answer = a; slots = ts; area = z } ≡ read_slots layout bs (take n ss) area mark
    → record { answer = a; slots = ts ++ drop n ss; area = z } ≡ read_part layout bs ss n area mark
unfolding read_part
read-part layout bs area z ss ts n mark a e = ap (with_rest (drop n ss)) e
