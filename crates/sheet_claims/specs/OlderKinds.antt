-- Readers of sheets for which 3 was the last kind: that of M-100, and that of M-111, which stood until reals came. What
-- they answer to a sheet with a real (02, M-108), and that else they read as later readers do. The proofs are in
-- proofs/OlderReals.antt.
use Rattle.std.specs.Prelude.{ℕ, zero, suc, ◌+◌, ◌≤◌, ◌≡◌, Bool, true, ◌&&◌, List, [], ◌∷◌, ◌++◌, length, drop, get_or, eqb, leb, if◌then◌else◌}
use Rattle.layout.specs.declared.Refusal.TheVariants.{BadSize, BadSlots, NoRoom, BadSheet, BadVersion}
use Rattle.layout.specs.Refusals.{Result, ok, ◌>>=◌, demand}
use Rattle.record.specs.Table.{unsigned, real, slots_of}
use Rattle.record.specs.Packing.{refusal}
use Rattle.record.specs.Reading.{Read}
use Rattle.sheet.specs.Entries.{Entry, entry_values, begins_entry, entry_in}
use Rattle.sheet.specs.Sheet.{version2, header_size, sheet_sizes_fit, version_of, version_known, width_in, header_fits, entries_at, entries_end, fits_version1, version_needed, sheet_read_effect, read_sheet}
use Rattle.sheet_claims.specs.Older.{older_lent, older_width, older_known, older_read}

-- ---- kinds up to 3

abbrev pub first_last : ℕ
first_last = unsigned

-- bs begins with an entry that such a reader takes: it asks for a kind up to 3 where later readers ask for one up to 4
unfoldable pub begins_first : ℕ → List ℕ → Bool
unfolding begins_entry
begins_first w bs = begins_entry w bs && leb (get_or bs w 0) first_last

-- the entries in bs after its first n bytes, which belong to the entry before, up to the first that such a reader does
-- not take
unfoldable pub first_from : ℕ → ℕ → List ℕ → List Entry
unfolding begins_first entry_in
first_from w n [] = []
first_from w (suc n) (b ∷ bs) = first_from w n bs
first_from w zero (b ∷ bs) =
    let e = entry_in w (b ∷ bs) in
    let more = e ∷ first_from w (w + length e.value) bs in
    if begins_first w (b ∷ bs) then more else []

-- the entries after a sheet's header that such a reader takes
abbrev pub first_at : ℕ → List ℕ → List Entry
first_at w sheet = first_from w 0 (drop (header_size w) sheet)

-- ---- the reader of M-100: version 1, and the limits of its time

unfoldable pub first_reads : List ℕ → List ℕ → List ℕ → ℕ → Result (List Entry)
unfolding older_known header_fits first_from entries_end slots_of entry_values
first_reads sheet slots area mark = do
  _ ← demand (older_lent (length sheet) (length slots) (length area) mark) BadSize 0
  _ ← demand (older_known sheet) BadVersion 0
  _ ← demand (header_fits older_width sheet) BadSheet 0
  let es = first_at older_width sheet
  _ ← demand (eqb (entries_end older_width es) (length sheet)) BadSheet (entries_end older_width es)
  _ ← demand (leb (length es) (length (slots_of slots))) BadSlots 0
  _ ← demand (leb (mark + length (entry_values es)) (length area)) NoRoom 0
  ok es

unfoldable pub first_read : List ℕ → List ℕ → List ℕ → ℕ → Read
unfolding first_reads
first_read sheet slots area mark = sheet_read_effect slots area mark (first_reads sheet slots area mark)

-- ---- the reader of M-111: both versions, and the limits of today

unfoldable pub second_reads : List ℕ → List ℕ → List ℕ → ℕ → Result (List Entry)
unfolding header_fits first_from entries_end fits_version1 slots_of entry_values
second_reads sheet slots area mark = do
  _ ← demand (sheet_sizes_fit (length slots) (length area) (length sheet) && leb mark (length area)) BadSize 0
  _ ← demand (version_known (version_of sheet)) BadVersion 0
  let w = width_in sheet
  _ ← demand (header_fits w sheet) BadSheet 0
  let es = first_at w sheet
  _ ← demand (eqb (entries_end w es) (length sheet)) BadSheet (entries_end w es)
  _ ← demand (version_needed (version_of sheet) es) BadSheet 0
  _ ← demand (leb (length es) (length (slots_of slots))) BadSlots 0
  _ ← demand (leb (mark + length (entry_values es)) (length area)) NoRoom 0
  ok es

unfoldable pub second_read : List ℕ → List ℕ → List ℕ → ℕ → Read
unfolding second_reads
second_read sheet slots area mark = sheet_read_effect slots area mark (second_reads sheet slots area mark)

-- ---- sheets without a real

abbrev pub AllKnown : List Entry → Type 0
AllKnown [] = Unit {0}
AllKnown (e ∷ es) = (e.kind ≤ first_last) × AllKnown es

-- Each of the two readers reads a sheet in which no entry is a real's, damaged or not, as the reader that came after it
-- does: every number, slot and byte, accepted or refused.
abbrev pub FirstAsBefore : Type 0
FirstAsBefore =
    (sheet slots area : List ℕ) (mark : ℕ) → AllKnown (entries_at older_width sheet)
    → first_read sheet slots area mark ≡ older_read sheet slots area mark

abbrev pub SecondAsToday : Type 0
SecondAsToday =
    (sheet slots area : List ℕ) (mark : ℕ) → AllKnown (entries_at (width_in sheet) sheet)
    → second_read sheet slots area mark ≡ read_sheet sheet slots area mark

-- The reader of today reads a sheet in which no entry is a real's as the reader of M-100 did, where that is lent
-- nothing over its sizes.
abbrev pub FirstAsToday : Type 0
FirstAsToday =
    (sheet slots area : List ℕ) (mark : ℕ) → older_lent (length sheet) (length slots) (length area) mark ≡ true
    → (version_of sheet ≡ version2 → ⊥) → AllKnown (entries_at older_width sheet)
    → read_sheet sheet slots area mark ≡ first_read sheet slots area mark

-- ---- sheets with a real

-- the first of the entries that is a real's, and those before it
pub record FirstReal (es before : List Entry) : Type 0 where
  pub entry : Entry
  pub after : List Entry
  pub split : es ≡ before ++ (entry ∷ after)
  pub known : AllKnown before
  pub is_real : entry.kind ≡ real

-- a whole sheet of the entries es, by its bytes alone: its header is sound, and its entries, of kinds up to 4, take all
-- that follows; the lengths have w bytes
pub record HoldsEntries (w : ℕ) (sheet : List ℕ) (es : List Entry) : Type 0 where
  pub header : header_fits w sheet ≡ true
  pub entries : entries_at w sheet ≡ es
  pub whole : entries_end w es ≡ length sheet

-- what a call leaves that is refused with 12 at a place: nothing is changed
abbrev pub bad_at : List ℕ → List ℕ → ℕ → Read
bad_at slots area place = record { answer = refusal BadSheet place; slots = slots; area = area }

-- Where an entry of a version 1 sheet is a real's, the reader of M-100 answers 12 at the first such entry, whatever
-- table and area it is lent within its sizes, with slots and room enough or not.
abbrev pub RealsRefused : Type 0
RealsRefused =
    (sheet : List ℕ)
    (es before : List Entry) → older_known sheet ≡ true → HoldsEntries older_width sheet es → FirstReal es before
    → (slots area : List ℕ) (mark : ℕ) → older_lent (length sheet) (length slots) (length area) mark ≡ true
    → first_read sheet slots area mark ≡ bad_at slots area (entries_end older_width before)

-- The reader of M-111 answers 12 at the first entry that is a real's too, to a sheet of either version.
abbrev pub RealsRefusedLater : Type 0
RealsRefusedLater =
    (sheet : List ℕ) (es before : List Entry) → version_known (version_of sheet) ≡ true
    → HoldsEntries (width_in sheet) sheet es
    → FirstReal es before → (slots area : List ℕ) (mark : ℕ)
    → (sheet_sizes_fit (length slots) (length area) (length sheet) && leb mark (length area)) ≡ true
    → second_read sheet slots area mark ≡ bad_at slots area (entries_end (width_in sheet) before)
