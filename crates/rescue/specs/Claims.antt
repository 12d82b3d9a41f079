-- What a rescue keeps (02, M-109): claims on the call for all sheets, tables, areas, marks and cuts. The proofs are in
-- proofs/Claims.antt, and proofs/Instance.antt meets the premises.
use Rattle.std.specs.Prelude.{ℕ, suc, ◌+◌, ◌-◌, ◌*◌, ◌≤◌, ◌<◌, ◌≡◌, List, [], ◌∷◌, map, length, take, T, leb, ltb, if◌then◌else◌}
use Rattle.record.specs.Table.{slots_of, slot_width}
use Rattle.record.specs.Geometry.{table_fits}
use Rattle.record.specs.Reading.{Read}
use Rattle.sheet.specs.Entries.{Entry, entry_bytes, entry_values}
use Rattle.sheet.specs.Sheet.{width_of, header_size, version_for, entries_of, entries_end, write_sheet, read_sheet}
use Rattle.sheet.specs.Claims.{seen, sheet_of, Stored}
use Rattle.rescue.specs.Rescue.{saved, Outcome, keeping, rescue}

-- ---- a sound sheet

-- what a rescue leaves that keeps all entries of a reading: nothing is cleared or dropped, and slots and area are those
-- of the reading
abbrev pub all_kept : Read → Outcome
all_kept r = record { answer = saved r.answer.first 0 0; slots = r.slots; area = r.area }

-- A sheet that the reader accepts is rescued as it is read, by as many legs as it has entries.
abbrev pub SoundRead : Type 0
SoundRead =
    (sheet slots area : List ℕ) (mark : ℕ) → (read_sheet sheet slots area mark).answer.number ≡ 0
    → rescue sheet (read_sheet sheet slots area mark).answer.first slots area mark
    ≡ all_kept (read_sheet sheet slots area mark)

-- ---- a sheet that was written

-- n slots are kept, none cleared, nothing dropped, and each shows what it showed in the table that was written
pub record SavesAll (n : ℕ) (slots area : List ℕ) (o : Outcome) : Type 0 where
  pub answer : o.answer ≡ saved n 0 0
  pub shows : map (seen o.area) (take n (slots_of o.slots)) ≡ map (seen area) (slots_of slots)

-- The sheet of a table that the writer accepts, rescued by as many legs as the table has slots, into another table with
-- slots and room, is saved whole.
abbrev pub WrittenSaved : Type 0
WrittenSaved =
    (slots area buffer table values : List ℕ) (mark : ℕ) → Stored slots area buffer table values mark
    → SavesAll (length (slots_of slots)) slots area
    (rescue (sheet_of (write_sheet slots area buffer)) (length (slots_of slots)) table values mark)

-- the slots that a rescue by n legs set
abbrev pub slots_set_by : ℕ → Outcome → List ℕ
slots_set_by n o = take (slot_width * n) o.slots

-- A rescue was accepted, the writer accepts the slots that it set, and a second rescue, of that sheet, has slots and
-- room.
pub record RescuedAgain (sheet : List ℕ) (legs : ℕ) (slots area : List ℕ) (mark : ℕ) (buffer table values : List ℕ)
    (mark' : ℕ) : Type 0 where
  pub rescuing : (rescue sheet legs slots area mark).answer.number ≡ 0
  pub stored : Stored (slots_set_by legs (rescue sheet legs slots area mark)) (rescue sheet legs slots area mark).area
      buffer table values mark'

-- A rescue of what a rescue left and the writer wrote keeps every leg and shows what the first one left.
abbrev pub RescuedSaved : Type 0
RescuedSaved =
    (sheet : List ℕ) (legs : ℕ) (slots area : List ℕ) (mark : ℕ) (buffer table values : List ℕ) (mark' : ℕ)
    → RescuedAgain sheet legs slots area mark buffer table values mark'
    → let o = rescue sheet legs slots area mark in
    SavesAll legs (slots_set_by legs o) o.area
    (rescue (sheet_of (write_sheet (slots_set_by legs o) o.area buffer)) legs table values mark')

-- ---- a written sheet, cut

-- the entries of a table, and where number i ends in its sheet
abbrev pub entries_for : List ℕ → List ℕ → List Entry
entries_for slots area = entries_of area (slots_of slots)

abbrev pub entries_end_of : List ℕ → List ℕ → ℕ → ℕ
entries_end_of slots area i =
    entries_end (width_of (version_for (entries_for slots area))) (take (suc i) (entries_for slots area))

-- how many entries, whose lengths have w bytes, end within the first k bytes of those that all of them take
unfoldable pub end_by : ℕ → ℕ → List Entry → ℕ
unfolding entry_bytes
end_by w k [] = 0
end_by w k (e ∷ es) =
    let n = length (entry_bytes w e) in
    let more = end_by w (k - n) es in
    if leb n k then suc more else 0

-- the entries that are left of a table's sheet where that is cut at byte k
abbrev pub left_by_cut : List ℕ → List ℕ → ℕ → List Entry
left_by_cut slots area k =
    let es = entries_for slots area in
    let w = width_of (version_for es) in
    take (end_by w (k - header_size w) es) es

-- The writer accepts a table; a rescue of its sheet, cut at byte k, has slots for all of the table, and room for the
-- values that are left.
pub record CutStored (slots area buffer table values : List ℕ) (mark k : ℕ) : Type 0 where
  pub writing : (write_sheet slots area buffer).answer.number ≡ 0
  pub sizes : T (table_fits (length table) (length values))
  pub enough-slots : length (slots_of slots) ≤ length (slots_of table)
  pub room : mark + length (entry_values (left_by_cut slots area k)) ≤ length values

-- Exactly the entries that end at or before the cut are kept, and their slots show what they showed.
pub record SavesFront (slots area table values : List ℕ) (mark k : ℕ) (cut : List ℕ) : Type 0 where
  pub exactly : (i : ℕ) → i < length (slots_of slots)
      → ltb i (length (left_by_cut slots area k)) ≡ leb (entries_end_of slots area i) k
  pub count : (rescue cut (length (slots_of slots)) table values mark).answer.first ≡ length (left_by_cut slots area k)
  pub effect :
      rescue cut (length (slots_of slots)) table values mark
      ≡ keeping cut (length (slots_of slots)) table values mark (left_by_cut slots area k)
  pub shows :
      let o = rescue cut (length (slots_of slots)) table values mark in
      let n = length (left_by_cut slots area k) in
      map (seen o.area) (take n (slots_of o.slots)) ≡ map (seen area) (take n (slots_of slots))

abbrev pub CutSaved : Type 0
CutSaved =
    (slots area buffer table values : List ℕ) (mark k : ℕ) → CutStored slots area buffer table values mark k
    → SavesFront slots area table values mark k (take k (sheet_of (write_sheet slots area buffer)))
