-- The two claims: a table keeps its values on the way to a sheet and back, and a sheet its bytes on the way to a table
-- and back.
use Rattle.std.specs.Prelude.{if◌then◌else◌}
use Prim.Native.Nat.{ℕ, suc, ◌+◌, ◌*◌, ◌^◌, ◌≤◌, ◌<◌}
use native.Mathlib.Omega.{arith}
use mathlib.Core.Path.{◌≡◌, refl, sym, ap, ◌∙◌, subst}
use mathlib.Core.Bool.{Bool, true, false, ◌||◌, not}
use mathlib.Core.List.{List, [], ◌∷◌, ◌++◌, map, append_assoc}
use borrow.Author.Tests.{eqb-true, le-leb, leb-true, lt-ltb, not-true}
use lib.Dec.{T, eqb, leb}
use lib.ListN.{length, take, drop, length-map, length-drop}
use lib.Seq.{take_at, drop_at, length-take-le}
use Rattle.layout.specs.Refusals.{ok}
use Rattle.record.specs.Bytes.{store_at, number_at}
use Rattle.record.specs.Geometry.{table_fits}
use Rattle.record.specs.Table.{slots_of, slot_width}
use Rattle.record.specs.Reading.{Read}
use Rattle.record.proofs.Bytes.{All, all-below, all_drop, and-true}
use Rattle.record.proofs.Stores.{length-store_at}
use Rattle.record.proofs.Tables.{slots-take, length-slots}
use Rattle.sheet.specs.Entries.{Entry, body_bytes, entry_values}
use Rattle.sheet.specs.Sheet.{version1, version2, width_of, header_size, sheet_bytes, fits_version1, version_for, max_sheet, entries_of, slots_writable, entries_numbers, entries_end, write_sheet, version_of, version_known, width_in, header_fits, version_needed, put_entries, read_sheet, entries_at}
use Rattle.sheet.specs.Claims.{seen, sheet_of, Stored, KeepsValues, TableKept, rewritten, SheetKept}
use Rattle.sheet.specs.inside.Steps.{table_sheet, SheetOpened}
use Rattle.sheet.proofs.Entries.{AllSound, number_small, length-here, entries-sound}
use Rattle.sheet.proofs.Tables.{slots-sound, same_seen, length-slot-numbers, entries-put, put-fits}
use Rattle.sheet.proofs.Sheets.{length-sheet, sheet-version, sheet-header, sheet-entries, sheet-back}
use Rattle.sheet.proofs.Calls.{Lengths, lengths, lengths-fit, lent, Wrote, wrote, wrote-short, write_done, ReadIt, read-it, read-put}

-- ---- what entries leave that are put into a table

module _ (slots area : List ℕ) (mark : ℕ) (es : List Entry) (sound : AllSound es) (room : mark + length (entry_values es) ≤ length area) where
  -- the slots that were set
  pub put-slots : take (slot_width * length es) (put_entries slots area mark es).slots ≡ entries_numbers mark es
  unfolding put_entries
  put-slots = take_at (entries_numbers mark es) (drop (slot_width * length es) slots) (slot_width * length es) (length-slot-numbers mark es)

  pub put-area : length (put_entries slots area mark es).area ≡ length area
  unfolding put_entries
  put-area = length-store_at area mark (entry_values es) room

  pub put_entries_lem : entries_of (put_entries slots area mark es).area (slots_of (entries_numbers mark es)) ≡ es
  unfolding put_entries
  put_entries_lem =
      let after : List ℕ = drop (mark + length (entry_values es)) area in
      entries-put (store_at area mark (entry_values es)) after mark es sound
      (ap (drop mark) (append_assoc (take mark area) (entry_values es) after) ∙ drop_at (take mark area) (entry_values es ++ after) mark (length-take-le mark area (omega arith)))

  pub put_fit : slots_writable (put_entries slots area mark es).area 0 (slots_of (entries_numbers mark es)) ≡ ok tt
  put_fit = put-fits (put_entries slots area mark es).area mark 0 es sound (rw put-area room)

-- ---- table to sheet and back

pub length-entries : (area slots : List ℕ) → length (entries_of area (slots_of slots)) ≡ length (slots_of slots)
unfolding entries_of
length-entries area slots = length-map (slots_of slots) _

pub true-is : (b : Bool) → T b → b ≡ true
true-is true h = refl
true-is false h = absurd h

-- what is written has a known version, and needs it
pub version-known : (es : List Entry) → version_known (version_for es) ≡ true
version-known es = go (fits_version1 es)
  where
    go : (t : Bool) → version_known (if t then version1 else version2) ≡ true
    go true = refl
    go false = refl

version-needed : (es : List Entry) → version_needed (version_for es) es ≡ true
version-needed es = go (fits_version1 es)
  where
    go : (t : Bool) → (eqb (if t then version1 else version2) version1 || not t) ≡ true
    go true = refl
    go false = refl

module _ {slots area buffer table values : List ℕ} {mark : ℕ} (s : Stored slots area buffer table values mark) where
  passed : Wrote slots area buffer
  passed = wrote slots area buffer s.writing

  es : List Entry
  es = entries_of area (slots_of slots)

  v : ℕ
  v = version_for es

  sheet : List ℕ
  sheet = table_sheet slots area

  -- the sheet is that of the table
  pub sheet-is : sheet_of (write_sheet slots area buffer) ≡ table_sheet slots area
  sheet-is =
      let bs : List ℕ = table_sheet slots area in
      rw (← write_done slots area buffer passed.sizes passed.fits passed.room) (take_at bs _ (length bs) refl)

  sound : AllSound es
  unfolding es
  sound = slots-sound area 0 (slots_of slots) passed.fits

  short : length (body_bytes (width_of v) es) < 256 ^ width_of v
  unfolding es v
  short = wrote-short passed (entries_of area (slots_of slots)) refl

  width : width_in sheet ≡ width_of v
  unfolding es v sheet
  width = ap width_of (sheet-version v (width_of v) es)

  found : entries_at (width_in sheet) sheet ≡ es
  unfolding es v sheet
  found = rw width (sheet-entries v (width_of v) es short sound)

  opened : SheetOpened sheet table values mark
  unfolding es v sheet
  opened =
      let small : length (table_sheet slots area) ≤ max_sheet = omega (arith, passed.room, (lengths (length slots) (length area) (length buffer) passed.sizes).size) in
      let start : mark ≤ length values = omega (arith, s.room) in
      record {
        sizes = rw (true-is (table_fits (length table) (length values)) s.sizes, le-leb (length (table_sheet slots area)) max_sheet small, le-leb mark (length values) start);
        versions = rw (sheet-version v (width_of v) es) (version-known es);
        header = rw width (sheet-header v (width_of v) es short);
      }

  effect : read_sheet (sheet_of (write_sheet slots area buffer)) table values mark ≡ put_entries table values mark es
  unfolding es v sheet
  effect =
      let bs : List ℕ = table_sheet slots area in
      let whole : entries_end (width_in bs) (entries_at (width_in bs) bs) ≡ length bs = rw (found, width) (sym (length-sheet v (width_of v) es)) in
      let needed : version_needed (version_of bs) (entries_at (width_in bs) bs) ≡ true = rw (found, sheet-version v (width_of v) es) (version-needed es) in
      let rows : length (entries_at (width_in bs) bs) ≤ length (slots_of table) = rw (found, length-entries) s.enough-slots in
      let room : mark + length (entry_values (entries_at (width_in bs) bs)) ≤ length values = rw found s.room in
      ap (λ (b : List ℕ). read_sheet b table values mark) sheet-is ∙ sym (read-put bs table values mark opened whole needed rows room) ∙ ap (put_entries table values mark) found

  shows : map (seen (put_entries table values mark es).area) (take (length (slots_of slots)) (slots_of (put_entries table values mark es).slots)) ≡ map (seen area) (slots_of slots)
  unfolding es
  shows =
      let r : Read = put_entries table values mark es in
      let n : length es ≡ length (slots_of slots) = length-entries area slots in
      let set : take (length (slots_of slots)) (slots_of r.slots) ≡ slots_of (entries_numbers mark es) =
      rw (← n, ← slots-take (length es) r.slots, put-slots table values mark es sound s.room) in
      rw set
      (same_seen r.area area (slots_of (entries_numbers mark es)) (slots_of slots) (put_fit table values mark es sound s.room) passed.fits (put_entries_lem table values mark es sound s.room))

  keeps : KeepsValues slots area table values mark (put_entries table values mark es)
  unfolding es put_entries
  keeps = record { effect = refl; count = length-entries area slots; shows = shows }

pub table_kept : TableKept
table_kept slots area buffer table values mark s = rw (effect s) (keeps s)

-- ---- sheet to table and back

-- a sheet that was accepted is that of its entries
back : (sheet : List ℕ) → All (λ d. d < 256) sheet → header_fits (width_in sheet) sheet ≡ true
    → entries_end (width_in sheet) (entries_at (width_in sheet) sheet) ≡ length sheet → sheet_bytes (version_of sheet) (width_in sheet) (entries_at (width_in sheet) sheet) ≡ sheet
unfolding header_fits
back [] all header whole = let z : ◌≡◌ {A = ℕ} 0 1 = cc in absurd (omega arith)
back (b ∷ bs) all header whole = sheet-back b (width_of b) bs all.1 header whole

module _ {sheet slots area : List ℕ} {mark : ℕ} (all : All (λ d. d < 256) sheet) (got : ReadIt sheet slots area mark) where
  held : List Entry
  held = entries_at (width_in sheet) sheet

  -- the entries of a version 1 sheet fit it
  by_first : version_of sheet ≡ version1 → fits_version1 held ≡ true
  unfolding header_fits entries_end fits_version1 held
  by_first e =
      let h = and-true (leb (header_size (width_in sheet)) (length sheet)) _ got.opened.header in
      let n : suc (width_in sheet) + number_at (width_in sheet) sheet 1 ≡ length sheet = eqb-true _ _ h.1 in
      let here : suc (width_in sheet) ≤ length sheet = leb-true (header_size (width_in sheet)) (length sheet) h.0 in
      let small : number_at (width_in sheet) (drop 1 sheet) 0 < 256 ^ width_in sheet = number_small (width_in sheet)
      (drop 1 sheet) (omega (arith, here, length-drop 1 sheet)) (all_drop (λ d. d < 256) 1 sheet all) in
      let same : number_at (width_in sheet) sheet 1 ≡ number_at (width_in sheet) (drop 1 sheet) 0 = length-here (width_in sheet) sheet 1 refl in
      let body : length (body_bytes (width_in sheet) (entries_at (width_in sheet) sheet)) < 256 ^ width_in sheet = omega (arith, got.whole, n, small, same) in
      lt-ltb (length (body_bytes 2 (entries_at (width_in sheet) sheet))) 65536 (subst (λ (k : ℕ). length (body_bytes k (entries_at (width_in sheet) sheet)) < 256 ^ k) (ap width_of e) body)

  -- they would be written in the sheet's own version again
  same_version : version_for held ≡ version_of sheet
  unfolding held
  same_version = go (eqb (version_of sheet) version1) (eqb (version_of sheet) version2) refl refl got.opened.versions got.needed
    where
      go : (a b : Bool) → eqb (version_of sheet) version1 ≡ a → eqb (version_of sheet) version2 ≡ b → a || b ≡ true → a || not (fits_version1 held) ≡ true → version_for held ≡ version_of sheet
      go true b p q h k = let e : version_of sheet ≡ version1 = eqb-true (version_of sheet) version1 p in rw (by_first e) (sym e)
      go false true p q h k = rw (not-true (fits_version1 held) k) (sym (eqb-true (version_of sheet) version2 q))
      go false false p q h k = let z : ◌≡◌ {A = ℕ} 0 1 = cc in absurd (omega arith)

pub sheet-kept : SheetKept
unfolding put_entries held
sheet-kept sheet slots area mark buffer l =
    let got : ReadIt sheet slots area mark = read-it sheet slots area mark l.reading in
    let all : All (λ d. d < 256) sheet = all-below sheet l.bytes in
    let es : List Entry = entries_at (width_in sheet) sheet in
    let r : Read = put_entries slots area mark es in
    let sound : AllSound es = entries-sound (width_in sheet) _ in
    let bounds = (lent (length slots) (length area) (length sheet) mark got.opened.sizes).lengths in
    let is : read_sheet sheet slots area mark ≡ r = sym (read-put sheet slots area mark got.opened got.whole got.needed got.rows got.room) in
    let ns : List ℕ = entries_numbers mark es in
    let set : take (slot_width * length es) r.slots ≡ ns = put-slots slots area mark es sound got.room in
    let entries : entries_of r.area (slots_of ns) ≡ es = put_entries_lem slots area mark es sound got.room in
    let version : version_for es ≡ version_of sheet = same_version all got in
    let same : table_sheet ns r.area ≡ sheet =
    ap (λ (x : List Entry). sheet_bytes (version_for x) (width_of (version_for x)) x) entries ∙ ap (λ (n : ℕ). sheet_bytes n (width_of n) es) version ∙ back sheet all got.opened.header got.whole in
    let numbers : length ns ≡ slot_width * length es = length-slot-numbers mark es in
    let long : length r.area ≡ length area = put-area slots area mark es sound got.room in
    let fit : Lengths (length ns) (length r.area) (length buffer) =
    record { table = omega (arith, got.rows, length-slots slots, bounds.table); rows = omega arith; limit = omega (arith, bounds.limit); size = l.size } in
    let done = write_done ns r.area buffer (lengths-fit _ _ _ fit) (put_fit slots area mark es sound got.room) (rw same l.room) in
    ap (λ (x : Read). rewritten x buffer) is ∙ ap (λ (n : List ℕ). write_sheet n r.area buffer) set ∙ sym done ∙ rw same
