-- One field of the reader's run, as a step of the cursor.
use Rattle.std.specs.Prelude.{ℕ, ◌-◌, ◌/◌, ◌%◌, ◌≤◌, ◌<◌, ◌≡◌, eqb}
use Rattle.std.specs.declared.option.Option.{Option}
use Rattle.std.specs.declared.option.Option.TheVariants.{Some, None}
use Rattle.layout.specs.declared.Role.{Role}
use Rattle.layout.specs.declared.Role.TheVariants.{Data, Move}
use Rattle.layout.specs.declared.Count.{Count}
use Rattle.layout.specs.Codes.{last_data, flag_unit, count_unit, count_from, field_of}
use Rattle.layout.specs.inside.Parsing.{shape_numbered}
use Rattle.record.specs.declared.Cursor.{Cursor}
use Rattle.record.specs.inside.Cursor.{over, moved_inside}
use Rattle.record.specs.Geometry.{bytes_for, items_of}
use Rattle.reading.specs.declared.positions.Found.{Found}
use Rattle.reading.specs.declared.positions.Turn.{Turn}

-- the cursor after a move; what takes a slot does not move it so
unfoldable pub moved_by : Cursor → Role → Count → Cursor
moved_by c (Data s) n = c
moved_by c (Move m) n = moved_inside c m n

-- the items of a code's field at the cursor, and their bytes
abbrev pub items_at : ℕ → Cursor → ℕ
items_at w c = items_of (shape_numbered (w % flag_unit)) (count_from (w / count_unit)) (c.end - c.at)

abbrev pub bytes_at : ℕ → Cursor → ℕ
bytes_at w c = bytes_for (shape_numbered (w % flag_unit)) (items_at w c)

-- the field of a code whose type takes a slot, as it is found at the cursor
abbrev pub found_at : ℕ → Cursor → Found
found_at w c = record { number = w % flag_unit; unsigned = eqb (w / flag_unit % 2) 1; at = c.at; items = items_at w c }

-- the turn of a code's field at the cursor: a move, or a field that is found or for which the record is too short
abbrev pub GoesTo : ℕ → Cursor → Cursor → Option Found → Type 0
GoesTo w c d None = (last_data < w % flag_unit) × (d ≡ moved_by c (field_of w).role (field_of w).count)
GoesTo w c d (Some f) = (w % flag_unit ≤ last_data) × (bytes_at w c ≤ c.end - c.at) × (d ≡ over c (bytes_at w c)) × (f ≡ found_at w c)

abbrev pub StepAs : ℕ → Cursor → Option Turn → Type 0
StepAs w c None = (w % flag_unit ≤ last_data) × (c.end - c.at < bytes_at w c)
StepAs w c (Some s) = GoesTo w c s.next s.found
