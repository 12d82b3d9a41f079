-- Storing a table as a sheet and reading it back (02, M-100 and M-111): THE EFFECTS OF THE CALLS are `write_sheet` and
-- `read_sheet`.
use Rattle.std.specs.Prelude.{ℕ, suc, ◌+◌, ◌*◌, ◌/◌, ◌^◌, Bool, not, ◌&&◌, ◌||◌, List, [], ◌∷◌, ◌++◌, map, length, drop, get_or, eqb, leb, ltb, if◌then◌else◌}
use Rattle.layout.specs.declared.Refusal.TheVariants.{BadSize, BadSlots, BadSlot, NoRoom, BadSheet, BadVersion}
use Rattle.layout.specs.Refusals.{Result, ok, refused, ◌>>=◌, demand}
use Rattle.record.specs.Bytes.{part, store_at, number_bytes, number_at}
use Rattle.record.specs.declared.slots.Slot.{Slot}
use Rattle.record.specs.Table.{unset, slots_of, slot_width, no_position, item_size}
use Rattle.record.specs.Slots.{is_inside}
use Rattle.record.specs.Geometry.{table_fits}
use Rattle.record.specs.Packing.{accepted, refusal, Packed, pack_effect}
use Rattle.record.specs.Reading.{Read}
use Rattle.sheet.specs.Entries.{Entry, body_bytes, entry_values, entries_in}

-- ---- the format

-- the versions, and how many bytes the lengths of each have
abbrev pub version1 : ℕ
version1 = 1

abbrev pub version2 : ℕ
version2 = 2

abbrev pub width_of : ℕ → ℕ
width_of v = if eqb v version2 then 4 else 2

-- the bytes of the header: the version and a length
abbrev pub header_size : ℕ → ℕ
header_size w = suc w

-- entries as a sheet: the version, the length of all that follows, the entries
unfoldable pub sheet_bytes : ℕ → ℕ → List Entry → List ℕ
unfolding number_bytes body_bytes
sheet_bytes v w es = v ∷ (number_bytes w (length (body_bytes w es)) ++ body_bytes w es)

-- n can stand in a length of w bytes
abbrev pub in_length : ℕ → ℕ → Bool
in_length w n = ltb n (256 ^ w)

-- the lengths of a version 1 sheet have room in their bytes; that of the header is the greatest, so that it decides for
-- all (`FittingRule` in Claims)
unfoldable pub fits_version1 : List Entry → Bool
unfolding body_bytes
fits_version1 es = in_length (width_of version1) (length (body_bytes (width_of version1) es))

-- the version that entries are written as
abbrev pub version_for : List Entry → ℕ
version_for es = if fits_version1 es then version1 else version2

-- ---- sizes (number 1)

-- the longest sheet, and the longest buffer for one
abbrev pub max_sheet : ℕ
max_sheet = 1048576

-- slots, area, and sheet or buffer keep to their sizes, by their lengths
abbrev pub sheet_sizes_fit : ℕ → ℕ → ℕ → Bool
sheet_sizes_fit slots area sheet = table_fits slots area && leb sheet max_sheet

-- ---- writing

-- the bytes of a slot's value: none where it is not set
abbrev pub value_size : Slot → ℕ
value_size s = if eqb s.kind unset then 0 else s.len * item_size s.kind

-- a slot as an entry
unfoldable pub entry_of : List ℕ → Slot → Entry
entry_of area s = record { kind = s.kind; value = part area s.start (value_size s) }

-- a table as entries
unfoldable pub entries_of : List ℕ → List Slot → List Entry
unfolding entry_of
entries_of area ts = map (entry_of area) ts

-- a slot that number 7 does not refuse: it is not set, or of a known kind with its value inside an area of `area` bytes
abbrev pub slot_writable : ℕ → Slot → Bool
slot_writable area s = eqb s.kind unset || is_inside s area

-- the slots from number i on, slot by slot: the first that is not writable is refused with 7
unfoldable pub slots_writable : List ℕ → ℕ → List Slot → Result (Unit {0})
slots_writable area i [] = ok tt
slots_writable area i (t ∷ ts) = demand (slot_writable (length area) t) BadSlot i >>= (λ _. slots_writable area (suc i) ts)

-- the sheet of a table, or the first refusal of 1, 7 and 11
unfoldable pub writes_sheet : List ℕ → List ℕ → List ℕ → Result (List ℕ)
unfolding slots_of slots_writable entries_of sheet_bytes fits_version1
writes_sheet slots area buffer = do
  _ ← demand (sheet_sizes_fit (length slots) (length area) (length buffer)) BadSize 0
  _ ← slots_writable area 0 (slots_of slots)
  let es = entries_of area (slots_of slots)
  let v = version_for es
  let bs = sheet_bytes v (width_of v) es
  _ ← demand (leb (length bs) (length buffer)) NoRoom 0
  ok bs

-- A call of the writer leaves what packing does: the answer 0, the length of the sheet, 0, and the buffer with the
-- sheet at its front, the bytes after it as lent. A refusal changes nothing.
unfoldable pub write_sheet : List ℕ → List ℕ → List ℕ → Packed
unfolding writes_sheet
write_sheet slots area buffer = pack_effect buffer (writes_sheet slots area buffer)

-- ---- reading

-- the version of a sheet is its first byte; a sheet of no bytes counts as version 1, and has no whole header
abbrev pub version_of : List ℕ → ℕ
version_of sheet = get_or sheet 0 version1

-- the version is one that is known, or number 13 applies
abbrev pub version_known : ℕ → Bool
version_known v = eqb v version1 || eqb v version2

-- the width of the lengths in a sheet
abbrev pub width_in : List ℕ → ℕ
width_in sheet = width_of (version_of sheet)

-- the header is whole, and its length is that of what follows
unfoldable pub header_fits : ℕ → List ℕ → Bool
unfolding number_at
header_fits w sheet = leb (header_size w) (length sheet) && eqb (header_size w + number_at w sheet 1) (length sheet)

-- the whole entries after a sheet's header
abbrev pub entries_at : ℕ → List ℕ → List Entry
entries_at w sheet = entries_in w (drop (header_size w) sheet)

-- where the entries es after the header end: at the end of the sheet, or at the first entry that is wrong
unfoldable pub entries_end : ℕ → List Entry → ℕ
unfolding body_bytes
entries_end w es = header_size w + length (body_bytes w es)

-- the fitting rule of M-111: version 2 is for entries that version 1 cannot hold
abbrev pub version_needed : ℕ → List Entry → Bool
version_needed v es = eqb v version1 || not (fits_version1 es)

-- the entries of a sheet, or the first refusal of 1, 13, 12, 5 and 11
unfoldable pub reads_sheet : List ℕ → List ℕ → List ℕ → ℕ → Result (List Entry)
unfolding header_fits entries_in entries_end fits_version1 slots_of entry_values
reads_sheet sheet slots area mark = do
  _ ← demand (sheet_sizes_fit (length slots) (length area) (length sheet) && leb mark (length area)) BadSize 0
  _ ← demand (version_known (version_of sheet)) BadVersion 0
  let w = width_in sheet
  _ ← demand (header_fits w sheet) BadSheet 0
  let es = entries_at w sheet
  _ ← demand (eqb (entries_end w es) (length sheet)) BadSheet (entries_end w es)
  _ ← demand (version_needed (version_of sheet) es) BadSheet 0
  _ ← demand (leb (length es) (length (slots_of slots))) BadSlots 0
  _ ← demand (leb (mark + length (entry_values es)) (length area)) NoRoom 0
  ok es

-- the numbers of a slot whose value is put at the place `start`: an entry that is not set has start and length 0, and
-- no sheet knows a position
abbrev pub entry_numbers : ℕ → Entry → List ℕ
entry_numbers start e =
    e.kind ∷ (if eqb e.kind unset then 0 else start) ∷ (length e.value / item_size e.kind) ∷ no_position ∷ []

unfoldable pub entries_numbers : ℕ → List Entry → List ℕ
entries_numbers start [] = []
entries_numbers start (e ∷ es) = entry_numbers start e ++ entries_numbers (start + length e.value) es

-- entries put into a table and an area, from the start mark on and without gaps; what they do not cover stays as lent
unfoldable pub put_entries : List ℕ → List ℕ → ℕ → List Entry → Read
unfolding entries_numbers entry_values
put_entries slots area mark es =
    record {
      answer = accepted (length es) (mark + length (entry_values es));
      slots = entries_numbers mark es ++ drop (slot_width * length es) slots;
      area = store_at area mark (entry_values es);
    }

-- what a call leaves: the entries put in; a refusal changes nothing
abbrev pub sheet_read_effect : List ℕ → List ℕ → ℕ → Result (List Entry) → Read
sheet_read_effect slots area mark (ok es) = put_entries slots area mark es
sheet_read_effect slots area mark (refused why place) = record { answer = refusal why place; slots = slots; area = area }

unfoldable pub read_sheet : List ℕ → List ℕ → List ℕ → ℕ → Read
unfolding reads_sheet put_entries
read_sheet sheet slots area mark = sheet_read_effect slots area mark (reads_sheet sheet slots area mark)
