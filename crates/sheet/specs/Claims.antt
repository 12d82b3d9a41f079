-- What a sheet keeps (02, M-100): two claims on the calls, for all tables, sheets, areas, marks and buffers, and both
-- calls one after the other; and which version a table is written as (02, M-111). The proofs are in proofs/Claims.antt
-- and proofs/Fitting.antt, and proofs/Instance.antt meets the premises.
use Rattle.std.specs.Prelude.{ℕ, suc, ◌+◌, ◌*◌, ◌≤◌, ◌<◌, ◌≡◌, Bool, true, ◌&&◌, List, [], ◌∷◌, ◌++◌, map, length, take, drop, get_or, T, eqb, leb, if◌then◌else◌}
use Rattle.record.specs.declared.Answer.{Answer}
use Rattle.record.specs.declared.slots.Slot.{Slot}
use Rattle.record.specs.Table.{unset, slots_of, slot_width, Value, shown}
use Rattle.record.specs.Geometry.{table_fits}
use Rattle.record.specs.Packing.{accepted, Packed}
use Rattle.record.specs.Reading.{Read}
use Rattle.sheet.specs.Entries.{Entry, body_bytes, entry_values}
use Rattle.sheet.specs.Sheet.{version1, version2, width_of, fits_version1, max_sheet, entries_of, write_sheet, version_of, put_entries, read_sheet}

-- what a slot shows; one that is not set shows no more than that
unfoldable pub seen : List ℕ → Slot → Value
unfolding shown
seen area s = if eqb s.kind unset then record { kind = unset; items = [] } else shown area s

-- the sheet that a call of the writer left at the front of its buffer
abbrev pub sheet_of : Packed → List ℕ
sheet_of w = take w.answer.first w.output

-- ---- table to sheet and back

-- The writer accepts a table, and a reading of its sheet into another table has slots and room.
pub record Stored (slots area buffer table values : List ℕ) (mark : ℕ) : Type 0 where
  pub writing : (write_sheet slots area buffer).answer.number ≡ 0
  pub sizes : T (table_fits (length table) (length values))
  pub enough-slots : length (slots_of slots) ≤ length (slots_of table)
  pub room : mark + length (entry_values (entries_of area (slots_of slots))) ≤ length values

-- What a reading of the sheet leaves: it is accepted and puts in the entries of the first table, as many as that had
-- slots, and each slot shows what it showed there, "not set" too.
pub record KeepsValues (slots area table values : List ℕ) (mark : ℕ) (r : Read) : Type 0 where
  pub effect : r ≡ put_entries table values mark (entries_of area (slots_of slots))
  pub count : r.answer.first ≡ length (slots_of slots)
  pub shows : map (seen r.area) (take (length (slots_of slots)) (slots_of r.slots))
      ≡ map (seen area) (slots_of slots)

abbrev pub TableKept : Type 0
TableKept =
    (slots area buffer table values : List ℕ) (mark : ℕ) → Stored slots area buffer table values mark
    → KeepsValues slots area table values mark (read_sheet (sheet_of (write_sheet slots area buffer)) table values mark)

-- ---- sheet to table and back

-- The reader accepts a sheet, and a buffer has room for it.
pub record Loaded (sheet slots area : List ℕ) (mark : ℕ) (buffer : List ℕ) : Type 0 where
  pub bytes : (i : ℕ) → get_or sheet i 0 < 256
  pub reading : (read_sheet sheet slots area mark).answer.number ≡ 0
  pub size : length buffer ≤ max_sheet
  pub room : length sheet ≤ length buffer

-- what the writer leaves of the slots that a reading set
abbrev pub rewritten : Read → List ℕ → Packed
rewritten r buffer = write_sheet (take (slot_width * r.answer.first) r.slots) r.area buffer

-- A sheet that is read, and whose slots are written: it stands in the buffer again, byte for byte.
abbrev pub SheetKept : Type 0
SheetKept =
    (sheet slots area : List ℕ) (mark : ℕ) (buffer : List ℕ) → Loaded sheet slots area mark buffer
    → rewritten (read_sheet sheet slots area mark) buffer
    ≡ record { answer = accepted (length sheet) 0; output = sheet ++ drop (length sheet) buffer }

-- ---- the fitting rule

-- the greatest length that version 1 has room for
abbrev pub max_length1 : ℕ
max_length1 = 65535

-- all lengths that a version 1 sheet of these entries holds: the header's, of all that follows it, and each entry's, of
-- its kind and its value
unfoldable pub lengths_for : List Entry → List ℕ
unfolding body_bytes
lengths_for es = length (body_bytes (width_of version1) es) ∷ map (λ (e : Entry). suc (length e.value)) es

abbrev pub all_fit : List ℕ → Bool
all_fit [] = true
all_fit (n ∷ ns) = leb n max_length1 && all_fit ns

-- the header's length alone, which the definitions compare, says whether all lengths have room in version 1
abbrev pub FittingRule : Type 0
FittingRule = (es : List Entry) → fits_version1 es ≡ all_fit (lengths_for es)

-- a table that is accepted is written as version 1 exactly where all lengths have room there, and else as version 2
abbrev pub WrittenVersion : Type 0
WrittenVersion =
    (slots area buffer : List ℕ) → (write_sheet slots area buffer).answer.number ≡ 0
    → version_of (sheet_of (write_sheet slots area buffer))
    ≡ (if all_fit (lengths_for (entries_of area (slots_of slots))) then version1 else version2)

-- ---- both calls one after the other

-- all that the two calls leave: the last answer, the writer's buffer, and the reader's table and area
pub record Kept : Type 0 where
  pub answer : Answer
  pub buffer : List ℕ
  pub slots : List ℕ
  pub area : List ℕ

abbrev pub then_read_sheet : Packed → Read → Kept
then_read_sheet w r = record { answer = r.answer; buffer = w.output; slots = r.slots; area = r.area }

-- of what both calls leave, the part that the reader leaves
abbrev pub read_part : Kept → Read
read_part k = record { answer = k.answer; slots = k.slots; area = k.area }

-- the writer's call, and then the reader's on the sheet; where the writer refuses, nothing is read
unfoldable pub kept : List ℕ → List ℕ → List ℕ → List ℕ → List ℕ → ℕ → Kept
kept slots area buffer table values mark =
    let w = write_sheet slots area buffer in
    then_read_sheet w
    (if eqb w.answer.number 0
    then read_sheet (sheet_of w) table values mark else record { answer = w.answer; slots = table; area = values })
