-- The cursor of code: its position, and its end, which in packing is the highest position reached and in reading the
-- end of the record.
use Rattle.std.specs.Prelude.{ℕ, ◌+◌, max, length}
use Rattle.layout.specs.declared.Motion.{Motion}
use Rattle.layout.specs.declared.Motion.TheVariants.{Skip, Back, Goto}
use Rattle.layout.specs.declared.Count.{Count}
use Rattle.record.specs.declared.Cursor.{Cursor}
use Rattle.record.specs.Geometry.{amount, back_from, moved_in, goto_in}
use Rattle.record.specs.Packing.{Run}

-- ---- packing

-- the cursor before anything is stored
abbrev pub origin : Cursor
origin = record { at = 0; end = 0 }

-- past `bytes` bytes that are stored
abbrev pub past : Cursor → ℕ → Cursor
past c bytes = record { at = c.at + bytes; end = max c.end (c.at + bytes) }

-- the cursor after `x X @` in packing
abbrev pub moved : Cursor → Motion → Count → Cursor
moved c Skip n = past c (amount n 0)
moved c Back n = record { at = back_from c.at n; end = c.end }
moved c Goto n = record { at = goto_in c.end n; end = max c.end (goto_in c.end n) }

-- ---- reading

-- past `bytes` bytes that are read
abbrev pub over : Cursor → ℕ → Cursor
over c bytes = record { at = c.at + bytes; end = c.end }

-- the cursor after `x X @` in reading: no further than to the end
abbrev pub moved_inside : Cursor → Motion → Count → Cursor
moved_inside c m n = record { at = moved_in c.end m n c.at; end = c.end }

-- the code's cursor of a run: its position, and the highest one reached
abbrev pub cursor_of : Run → Cursor
cursor_of r = record { at = r.at; end = length r.out }
