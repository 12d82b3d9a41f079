-- Which way a call goes, on plain values: each way out leaves what the definition gives, and what an accepted call has
-- passed.
use Rattle.std.specs.Prelude.{if◌then◌else◌}
use Prim.Native.Nat.{ℕ, ◌+◌, ◌*◌, ◌%◌, ◌^◌, ◌≤◌, ◌<◌}
use native.Mathlib.Nat.{zero-add}
use native.Mathlib.Omega.{arith}
use mathlib.Core.Path.{◌≡◌, refl}
use mathlib.Core.Bool.{Bool, true, false}
use mathlib.Core.List.{List, ◌++◌}
use borrow.Author.Tests.{le-leb, lt-leb, leb-true, ltb-true, eqb-true, eq-eqb}
use lib.Dec.{eqb, leb}
use lib.ListN.{length, drop}
use Rattle.layout.specs.declared.Refusal.{Refusal}
use Rattle.layout.specs.declared.Refusal.TheVariants.{BadSize, BadSlots, NoRoom, BadSheet, BadVersion}
use Rattle.layout.specs.Refusals.{Result, ok, refused}
use Rattle.layout.proofs.Laws.{demanded, bound, no-number-zero}
use Rattle.record.specs.Bytes.{store_at}
use Rattle.record.specs.Table.{slots_of, slot_width, max_slots, max_area}
use Rattle.record.specs.Geometry.{table_fits}
use Rattle.record.specs.Packing.{accepted, refusal, pack_effect}
use Rattle.record.specs.Reading.{Read}
use Rattle.record.proofs.Bytes.{and-true}
use Rattle.record.proofs.Sizes.{table-sized}
use Rattle.sheet.specs.Entries.{Entry, body_bytes, entry_values}
use Rattle.sheet.specs.Sheet.{version1, version2, width_of, header_size, sheet_bytes, fits_version1, version_for, max_sheet, sheet_sizes_fit, entries_of, slots_writable, writes_sheet, write_sheet, version_of, version_known, width_in, header_fits, entries_end, version_needed, reads_sheet, put_entries, sheet_read_effect, read_sheet, entries_at}
use Rattle.sheet.specs.inside.Steps.{table_sheet, sheet_lent_fits, SheetOpened}
use Rattle.sheet.proofs.Sheets.{length-sheet}

-- ---- the sizes

-- what it leaves
pub record Lengths (slots area sheet : ℕ) : Type 0 where
  pub table : slots ≤ slot_width * max_slots
  pub rows : slots % slot_width ≡ 0
  pub limit : area ≤ max_area
  pub size : sheet ≤ max_sheet

pub lengths : (slots area sheet : ℕ) → sheet_sizes_fit slots area sheet ≡ true → Lengths slots area sheet
lengths slots area sheet h =
    let (table, size) = and-true (table_fits slots area) (leb sheet max_sheet) h in
    let t = table-sized table in
    record { table = t.table; rows = t.rows; limit = t.limit; size = leb-true sheet max_sheet size }

pub lengths-fit : (slots area sheet : ℕ) → Lengths slots area sheet → sheet_sizes_fit slots area sheet ≡ true
lengths-fit slots area sheet l =
    rw (le-leb slots (slot_width * max_slots) l.table, eq-eqb (slots % slot_width) 0 l.rows, le-leb area max_area l.limit, le-leb sheet max_sheet l.size)

-- ---- writing

-- what an accepted call has passed
pub record Wrote (slots area buffer : List ℕ) : Type 0 where
  pub sizes : sheet_sizes_fit (length slots) (length area) (length buffer) ≡ true
  pub fits : slots_writable area 0 (slots_of slots) ≡ ok tt
  pub room : length (table_sheet slots area) ≤ length buffer

module _ (slots area buffer : List ℕ) where
  pub write-sizes : sheet_sizes_fit (length slots) (length area) (length buffer) ≡ false → record { answer = refusal BadSize 0; output = buffer } ≡ write_sheet slots area buffer
  unfolding write_sheet writes_sheet
  write-sizes h = rw h

  module _ (sizes : sheet_sizes_fit (length slots) (length area) (length buffer) ≡ true) where
    pub write-bad : (why : Refusal) (k : ℕ) → slots_writable area 0 (slots_of slots) ≡ refused why k → record { answer = refusal why k; output = buffer } ≡ write_sheet slots area buffer
    unfolding write_sheet writes_sheet
    write-bad why k h = rw (sizes, h)

    module _ (fits : slots_writable area 0 (slots_of slots) ≡ ok tt) where
      pub write-full : length buffer < length (table_sheet slots area) → record { answer = refusal NoRoom 0; output = buffer } ≡ write_sheet slots area buffer
      unfolding write_sheet writes_sheet
      write-full h = rw (sizes, fits, lt-leb _ _ h)

      pub write_done : length (table_sheet slots area) ≤ length buffer
          → record { answer = accepted (length (table_sheet slots area)) 0; output = table_sheet slots area ++ drop (length (table_sheet slots area)) buffer } ≡ write_sheet slots area buffer
      unfolding write_sheet writes_sheet
      write_done h = rw (sizes, fits, le-leb _ _ h)

      -- the same, as the code leaves it
      pub write-stored : (n : ℕ) (out : List ℕ) → n ≡ length (table_sheet slots area) → n ≤ length buffer
          → out ≡ store_at buffer 0 (table_sheet slots area) → record { answer = accepted n 0; output = out } ≡ write_sheet
          slots area buffer
      write-stored n out e h q = rw (e, q, zero-add) (write_done (rw e at h))

written-ok : (buffer : List ℕ) (o : Result (List ℕ)) → (pack_effect buffer o).answer.number ≡ 0 → (bs : List ℕ) × (o ≡ ok bs)
written-ok buffer (ok bs) h = (bs, refl)
written-ok buffer (refused why place) h = no-number-zero why h

pub wrote : (slots area buffer : List ℕ) → (write_sheet slots area buffer).answer.number ≡ 0 → Wrote slots area buffer
unfolding write_sheet writes_sheet
wrote slots area buffer h =
    let (bs, e) = written-ok buffer (writes_sheet slots area buffer) h in
    let (sizes, e₁) = demanded (sheet_sizes_fit (length slots) (length area) (length buffer)) BadSize 0 _ bs e in
    let (u, fits, e₂) = bound (slots_writable area 0 (slots_of slots)) _ bs e₁ in
    let (t, e₃) = demanded _ NoRoom 0 (λ _. ok (table_sheet slots area)) bs e₂ in
    record { sizes = sizes; fits = fits; room = leb-true _ _ t }

-- the lengths of what was written have room in their bytes
pub wrote-short : {slots area buffer : List ℕ} → Wrote slots area buffer → (es : List Entry) → es ≡ entries_of area (slots_of slots)
    → length (body_bytes (width_of (version_for es)) es) < 256 ^ width_of (version_for es)
unfolding fits_version1 entries_end
wrote-short {slots} {area} {buffer} p es e =
    let l = lengths (length slots) (length area) (length buffer) p.sizes in
    let room : length (sheet_bytes (version_for es) (width_of (version_for es)) es) ≤ max_sheet = rw e (omega (arith, p.room, l.size)) in
    go (fits_version1 es) refl room
  where
    go : (t : Bool) → fits_version1 es ≡ t → length (sheet_bytes (if t then version1 else version2) (width_of (if t then version1 else version2)) es) ≤ max_sheet
        → length (body_bytes (width_of (if t then version1 else version2)) es) < 256 ^ width_of (if t then version1 else version2)
    go true q h = ltb-true (length (body_bytes 2 es)) 65536 q
    go false q h = let z : length (body_bytes 4 es) < 4294967296 = omega (arith, h, length-sheet 2 4 es) in z

-- ---- reading

-- what the sizes leave
pub record Lent (slots area sheet mark : ℕ) : Type 0 where
  pub lengths : Lengths slots area sheet
  pub start : mark ≤ area

pub lent : (slots area sheet mark : ℕ) → sheet_lent_fits slots area sheet mark ≡ true → Lent slots area sheet mark
lent slots area sheet mark h =
    let both = and-true (sheet_sizes_fit slots area sheet) (leb mark area) h in
    record { lengths = lengths slots area sheet both.0; start = leb-true mark area both.1 }

-- a sheet with a sound header has one
pub header-there : (w : ℕ) (sheet : List ℕ) → header_fits w sheet ≡ true → header_size w ≤ length sheet
unfolding header_fits
header-there w sheet h = leb-true (header_size w) (length sheet) (and-true (leb (header_size w) (length sheet)) _ h).0

module _ (sheet slots area : List ℕ) (mark : ℕ) where
  -- a refusal leaves table and area
  abbrev pub refuses : Refusal → ℕ → Read
  refuses why place = record { answer = refusal why place; slots = slots; area = area }

  pub read-sizes : sheet_lent_fits (length slots) (length area) (length sheet) mark ≡ false → refuses BadSize 0 ≡ read_sheet sheet slots area mark
  unfolding read_sheet reads_sheet
  read-sizes h = rw h

  module _ (sizes : sheet_lent_fits (length slots) (length area) (length sheet) mark ≡ true) where
    pub read-version : version_known (version_of sheet) ≡ false → refuses BadVersion 0 ≡ read_sheet sheet slots area mark
    unfolding read_sheet reads_sheet
    read-version h = rw (sizes, h)

    pub read-header : version_known (version_of sheet) ≡ true → header_fits (width_in sheet) sheet ≡ false → refuses BadSheet 0 ≡ read_sheet sheet slots area mark
    unfolding read_sheet reads_sheet
    read-header versions h = rw (sizes, versions, h)

  module _ (o : SheetOpened sheet slots area mark) where
    pub read-wrong : eqb (entries_end (width_in sheet) (entries_at (width_in sheet) sheet)) (length sheet) ≡ false
        → refuses BadSheet (entries_end (width_in sheet) (entries_at (width_in sheet) sheet)) ≡ read_sheet sheet slots area
        mark
    unfolding read_sheet reads_sheet
    read-wrong h = rw (o.sizes, o.versions, o.header, h)

    module _ (whole : entries_end (width_in sheet) (entries_at (width_in sheet) sheet) ≡ length sheet) where
      pub read-needless : version_needed (version_of sheet) (entries_at (width_in sheet) sheet) ≡ false → refuses BadSheet 0 ≡ read_sheet sheet slots area mark
      unfolding read_sheet reads_sheet
      read-needless h = rw (o.sizes, o.versions, o.header, eq-eqb _ _ whole, h)

      module _ (needed : version_needed (version_of sheet) (entries_at (width_in sheet) sheet) ≡ true) where
        pub read-slots : length (slots_of slots) < length (entries_at (width_in sheet) sheet) → refuses BadSlots 0 ≡ read_sheet sheet slots area mark
        unfolding read_sheet reads_sheet
        read-slots h = rw (o.sizes, o.versions, o.header, eq-eqb _ _ whole, needed, lt-leb _ _ h)

        module _ (rows : length (entries_at (width_in sheet) sheet) ≤ length (slots_of slots)) where
          pub read-room : length area < mark + length (entry_values (entries_at (width_in sheet) sheet)) → refuses NoRoom 0 ≡ read_sheet sheet slots area mark
          unfolding read_sheet reads_sheet
          read-room h = rw (o.sizes, o.versions, o.header, eq-eqb _ _ whole, needed, le-leb _ _ rows, lt-leb _ _ h)

          pub read-put : mark + length (entry_values (entries_at (width_in sheet) sheet)) ≤ length area → put_entries slots area mark (entries_at (width_in sheet) sheet) ≡ read_sheet sheet slots area mark
          unfolding read_sheet reads_sheet
          read-put h = rw (o.sizes, o.versions, o.header, eq-eqb _ _ whole, needed, le-leb _ _ rows, le-leb _ _ h)

read_ok : (slots area : List ℕ) (mark : ℕ) (o : Result (List Entry)) → (sheet_read_effect slots area mark o).answer.number ≡ 0 → (es : List Entry) × (o ≡ ok es)
read_ok slots area mark (ok es) h = (es, refl)
read_ok slots area mark (refused why place) h = no-number-zero why h

-- what an accepted call has passed
pub record ReadIt (sheet slots area : List ℕ) (mark : ℕ) : Type 0 where
  pub opened : SheetOpened sheet slots area mark
  pub whole : entries_end (width_in sheet) (entries_at (width_in sheet) sheet) ≡ length sheet
  pub needed : version_needed (version_of sheet) (entries_at (width_in sheet) sheet) ≡ true
  pub rows : length (entries_at (width_in sheet) sheet) ≤ length (slots_of slots)
  pub room : mark + length (entry_values (entries_at (width_in sheet) sheet)) ≤ length area

pub read-it : (sheet slots area : List ℕ) (mark : ℕ) → (read_sheet sheet slots area mark).answer.number ≡ 0 → ReadIt sheet slots area mark
unfolding read_sheet reads_sheet
read-it sheet slots area mark h =
    let (es, e) = read_ok slots area mark (reads_sheet sheet slots area mark) h in
    let (sizes, e₁) = demanded _ BadSize 0 _ es e in
    let (versions, e₂) = demanded _ BadVersion 0 _ es e₁ in
    let (header, e₃) = demanded _ BadSheet 0 _ es e₂ in
    let (whole, e₄) = demanded _ BadSheet _ _ es e₃ in
    let (needed, e₅) = demanded _ BadSheet 0 _ es e₄ in
    let (rows, e₆) = demanded _ BadSlots 0 _ es e₅ in
    let (room, e₇) = demanded _ NoRoom 0 _ es e₆ in
    record { opened = record { sizes = sizes; versions = versions; header = header }; whole = eqb-true _ _ whole; needed = needed; rows = leb-true _ _ rows; room = leb-true _ _ room }
