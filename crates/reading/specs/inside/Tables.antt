-- The table and the area that the values of a run are put into, and the room that they need.
use Rattle.std.specs.Prelude.{ℕ, ◌+◌, ◌*◌, ◌≤◌, List, length}
use Rattle.layout.specs.inside.Parsing.{decoded}
use Rattle.record.specs.Table.{slot_width, max_slots, max_area, Value, value_bytes}
use Rattle.record.specs.Reading.{positions_from, steps_from, put_into, ReadAll, with_steps}
use Rattle.reading.specs.inside.Run.{values_of}

-- the values of the fields in the first n codes put in, with the positions of their fields; and the steps of the run
abbrev pub put_all : ℕ → List ℕ → List ℕ → List ℕ → List ℕ → ℕ → ReadAll
put_all n codes bs slots area mark =
    with_steps (put_into slots area mark (positions_from (length bs) 0 (decoded n codes)) (values_of n codes bs))
    (steps_from (length bs) 0 (decoded n codes))

-- there is room for all the values, and table and area keep to their sizes
pub record TableRoom (vs : List Value) (slots area : List ℕ) (mark : ℕ) : Type 0 where
  pub rows : slot_width * length vs ≤ length slots
  pub table : length slots ≤ slot_width * max_slots
  pub room : mark + length (value_bytes vs) ≤ length area
  pub limit : length area ≤ max_area
