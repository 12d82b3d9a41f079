-- The claims: a sound sheet is rescued as it is read, a written one whole, and a cut one up to the cut.
use Prim.Native.Nat.{ℕ, zero, suc, ◌+◌, ◌-◌, ◌*◌, ◌/◌, ◌^◌, ◌≤◌, ◌<◌}
use native.Mathlib.Omega.{arith}
use mathlib.Core.Path.{◌≡◌, refl, sym, ap, ◌∙◌}
use mathlib.Core.Bool.{true, ◌&&◌}
use mathlib.Core.List.{List, [], ◌∷◌, map}
use borrow.Author.Tests.{le-leb}
use lib.Dec.{leb, ltb}
use lib.ListN.{length, take, drop, length-take}
use lib.Seq.{take-append_seam, take_all, take-length, drop-nil, length-take-le}
use Rattle.layout.specs.declared.Refusal.TheVariants.{BadSlot}
use Rattle.layout.specs.Refusals.{ok}
use Rattle.layout.proofs.Laws.{demanded}
use Rattle.record.specs.declared.slots.Slot.{Slot}
use Rattle.record.specs.Table.{slots_of, slot_width, max_slots}
use Rattle.record.specs.Geometry.{table_fits}
use Rattle.record.specs.Reading.{Read}
use Rattle.record.proofs.Tables.{slots-take, length-slots}
use Rattle.sheet.specs.Entries.{Entry, body_bytes, entry_values, entries_in}
use Rattle.sheet.specs.Sheet.{width_of, version_for, header_size, max_sheet, sheet_bytes, entry_of, entries_of, slot_writable, slots_writable, entries_numbers, version_of, version_known, width_in, entries_at, put_entries, read_sheet, write_sheet}
use Rattle.sheet.specs.Claims.{seen, sheet_of}
use Rattle.sheet.specs.inside.Steps.{sheet_lent_fits, table_sheet}
use Rattle.sheet.proofs.Entries.{AllSound}
use Rattle.sheet.proofs.Tables.{slots-sound, same_seen, length-slot-numbers}
use Rattle.sheet.proofs.Calls.{lengths, lent, Wrote, wrote, wrote-short, write_done, header-there, ReadIt, read-it, read-put}
use Rattle.sheet.proofs.Claims.{put_entries_lem, put_fit, length-entries, true-is, version-known, table_kept}
use Rattle.rescue.specs.Rescue.{kept_in, dropped_of, filled_up, saved, Outcome, keeping, rescue}
use Rattle.rescue.specs.Claims.{all_kept, SoundRead, WrittenSaved, slots_set_by, RescuedSaved, entries_for, CutStored, SavesFront, CutSaved}
use Rattle.rescue.proofs.fill.Calls.{rescue-put, rescued-it}
use Rattle.rescue.proofs.fill.Filled.{filled-area, filled-front, filled-slots, filled_none, length-filled}
use Rattle.rescue.proofs.Cuts.{whole_by, whole-few, cut-entries, cut-exactly}

-- no more legs than slots are no more legs than a table may have
few-legs : (slots area sheet mark legs : ℕ) → sheet_lent_fits slots area sheet mark ≡ true → legs ≤ slots / slot_width → sheet_lent_fits slots area sheet mark && leb legs max_slots ≡ true
few-legs slots area sheet mark legs sizes h = rw (sizes, le-leb legs max_slots (omega (arith, (lent slots area sheet mark sizes).lengths.table)))

-- ---- a sound sheet

module _ (sheet slots area : List ℕ) (mark : ℕ) (got : ReadIt sheet slots area mark) where
  none_dropped : dropped_of (width_in sheet) sheet (entries_at (width_in sheet) sheet) ≡ 0
  unfolding dropped_of
  none_dropped = rw (le-leb (header_size (width_in sheet)) (length sheet) (header-there (width_in sheet) sheet got.opened.header), got.whole) (omega arith)

  -- the entries of the sheet are all kept
  all-kept : keeping sheet (length (entries_at (width_in sheet) sheet)) slots area mark (entries_at (width_in sheet) sheet) ≡ all_kept (put_entries slots area mark (entries_at (width_in sheet) sheet))
  unfolding put_entries
  all-kept = let none : length (entries_at (width_in sheet) sheet) - length (entries_at (width_in sheet) sheet) ≡ 0 = omega arith in rw (filled_none (entries_at (width_in sheet) sheet), none_dropped, none)

pub sound-read : SoundRead
unfolding put_entries kept_in
sound-read sheet slots area mark h =
    let got : ReadIt sheet slots area mark = read-it sheet slots area mark h in
    let es : List Entry = entries_at (width_in sheet) sheet in
    let is : read_sheet sheet slots area mark ≡ put_entries slots area mark es = sym (read-put sheet slots area mark got.opened got.whole got.needed got.rows got.room) in
    let kept : kept_in (width_in sheet) (length es) sheet ≡ es = take-length es in
    let sizes = few-legs (length slots) (length area) (length sheet) mark (length es) got.opened.sizes (omega (arith, got.rows, length-slots slots)) in
    let done : keeping sheet (length es) slots area mark (kept_in (width_in sheet) (length es) sheet) ≡ rescue sheet (length es) slots area mark =
    rescue-put sheet (length es) slots area mark sizes got.opened.versions got.rows (rw kept got.room) in
    rw is (sym done ∙ ap (keeping sheet (length es) slots area mark) kept ∙ all-kept sheet slots area mark got)

-- ---- a sheet that was written

pub written-saved : WrittenSaved
unfolding put_entries
written-saved slots area buffer table values mark s =
    let sheet : List ℕ = sheet_of (write_sheet slots area buffer) in
    let k = table_kept slots area buffer table values mark s in
    let r : Read = read_sheet sheet table values mark in
    let as_read : rescue sheet (length (slots_of slots)) table values mark ≡ record { answer = saved (length (slots_of slots)) 0 0; slots = r.slots; area = r.area } =
    rw k.count at (sound-read sheet table values mark (ap (λ (r : Read). r.answer.number) k.effect)) in
    record { answer = ap (λ (o : Outcome). o.answer) as_read; shows = rw as_read k.shows }

-- a rescue leaves as many slots as there are legs
set-legs : (sheet : List ℕ) (legs : ℕ) (slots area : List ℕ) (mark : ℕ) → (rescue sheet legs slots area mark).answer.number ≡ 0
    → length (slots_of (slots_set_by legs (rescue sheet legs slots area mark))) ≡ legs
unfolding kept_in
set-legs sheet legs slots area mark h =
    let p = rescued-it sheet legs slots area mark h in
    let es : List Entry = kept_in (width_in sheet) legs sheet in
    let few : length es ≤ legs = rw length-take (omega arith) in
    let done = rescue-put sheet legs slots area mark p.sizes p.versions p.rows p.room in
    let is : slots_set_by legs (rescue sheet legs slots area mark) ≡ entries_numbers mark (filled_up legs es) = ap (slots_set_by legs) (sym done) ∙ filled-slots legs es slots area mark few in
    let long : length (slots_set_by legs (rescue sheet legs slots area mark)) ≡ slot_width * legs = ap length is ∙ length-slot-numbers mark (filled_up legs es) ∙ rw (length-filled legs es few) in
    omega (arith, length-slots (slots_set_by legs (rescue sheet legs slots area mark)), long)

pub rescued-saved : RescuedSaved
rescued-saved sheet legs slots area mark buffer table values mark' a =
    let o : Outcome = rescue sheet legs slots area mark in
    rw (set-legs sheet legs slots area mark a.rescuing) at (written-saved (slots_set_by legs o) o.area buffer table values mark' a.stored)

-- ---- a written sheet, cut

pub sound-take : (m : ℕ) (es : List Entry) → AllSound es → AllSound (take m es)
sound-take zero es s = tt
sound-take (suc m) [] s = tt
sound-take (suc m) (e ∷ es) s = (s.0, sound-take m es s.1)

fits-take : (area : List ℕ) (i m : ℕ) (ts : List Slot) → slots_writable area i ts ≡ ok tt → slots_writable area i (take m ts) ≡ ok tt
unfolding slots_writable
fits-take area i zero ts h = refl
fits-take area i (suc m) [] h = refl
fits-take area i (suc m) (t ∷ ts) h =
    let d = demanded (slot_writable (length area) t) BadSlot i (λ _. slots_writable area (suc i) ts) tt h in
    rw d.0 (fits-take area (suc i) m ts d.1)

entries-take : (area : List ℕ) (m : ℕ) (ts : List Slot) → entries_of area (take m ts) ≡ take m (entries_of area ts)
unfolding entries_of
entries-take area zero ts = refl
entries-take area (suc m) [] = refl
entries-take area (suc m) (t ∷ ts) = ap (λ (r : List Entry). entry_of area t ∷ r) (entries-take area m ts)

-- what is left of a sheet has its version, or nothing is left
cut-version : (k v w : ℕ) (es : List Entry) → version_known v ≡ true → version_known (version_of (take k (sheet_bytes v w es))) ≡ true
unfolding sheet_bytes
cut-version zero v w es h = refl
cut-version (suc k) v w es h = h

cut-width : (k v : ℕ) (es : List Entry) → let cut = take k (sheet_bytes v (width_of v) es) in entries_at (width_in cut) cut ≡ entries_at (width_of v) cut
unfolding sheet_bytes entries_in
cut-width zero v es = sym (ap (entries_in (width_of v)) (drop-nil (suc (width_of v))))
cut-width (suc k) v es = refl

module _ {slots area buffer table values : List ℕ} {mark : ℕ} {k : ℕ} (s : CutStored slots area buffer table values mark k) where
  passed : Wrote slots area buffer
  passed = wrote slots area buffer s.writing

  es : List Entry
  es = entries_for slots area

  v : ℕ
  v = version_for es

  short : length (body_bytes (width_of v) es) < 256 ^ width_of v
  unfolding es v
  short = wrote-short passed (entries_for slots area) refl

  sound : AllSound es
  unfolding es
  sound = slots-sound area 0 (slots_of slots) passed.fits

  -- how many entries are whole
  m : ℕ
  m = whole_by (width_of v) v es sound short k

  few : m ≤ length es
  unfolding m
  few = whole-few (width_of v) v es sound short k

  front : List Entry
  front = take m es

  front-sound : AllSound front
  unfolding front
  front-sound = sound-take m es sound

  front_long : length front ≡ m
  unfolding front
  front_long = length-take-le m es few

  n : ℕ
  n = length (slots_of slots)

  cut : List ℕ
  cut = take k (sheet_of (write_sheet slots area buffer))

  -- the sheet is that of the table
  sheet-whole : sheet_of (write_sheet slots area buffer) ≡ table_sheet slots area
  sheet-whole =
      ap sheet_of (sym (write_done slots area buffer passed.sizes passed.fits passed.room))
      ∙ take-append_seam (table_sheet slots area) (drop (length (table_sheet slots area)) buffer)

  cut-is : cut ≡ take k (sheet_bytes v (width_of v) es)
  unfolding es v cut
  cut-is = ap (take k) sheet-whole

  kept-is : kept_in (width_in cut) n cut ≡ front
  unfolding es kept_in front m n
  kept-is =
      ap (λ (b : List ℕ). take n (entries_at (width_in b) b)) cut-is
      ∙ ap (take n) (cut-width k v es)
      ∙ ap (take n) (cut-entries (width_of v) v es sound short k)
      ∙ take_all n front (omega (arith, front_long, few, length-entries area slots))

  sizes : sheet_lent_fits (length table) (length values) (length cut) mark ≡ true
  unfolding cut
  sizes =
      let sheet : List ℕ = sheet_of (write_sheet slots area buffer) in
      let start : mark ≤ length values = omega (arith, s.room) in
      let small : length sheet ≤ max_sheet = rw sheet-whole (omega (arith, passed.room, (lengths (length slots) (length area) (length buffer) passed.sizes).size)) in
      let short : length (take k sheet) ≤ max_sheet = rw length-take (omega arith) in
      rw (true-is (table_fits (length table) (length values)) s.sizes, le-leb (length (take k sheet)) max_sheet short, le-leb mark (length values) start)

  room : mark + length (entry_values front) ≤ length values
  unfolding front m es v whole_by
  room = s.room

  cut-effect : rescue cut n table values mark ≡ keeping cut n table values mark front
  unfolding n es v
  cut-effect =
      let legs = few-legs (length table) (length values) (length cut) mark n sizes (omega (arith, s.enough-slots, length-slots table)) in
      let versions : version_known (version_of cut) ≡ true = rw cut-is (cut-version k v (width_of v) es (version-known es)) in
      sym (rescue-put cut n table values mark legs versions s.enough-slots (rw kept-is room)) ∙ ap (keeping cut n table values mark) kept-is

  cut-shows : map (seen (rescue cut n table values mark).area) (take m (slots_of (rescue cut n table values mark).slots)) ≡ map (seen area) (take m (slots_of slots))
  unfolding front es
  cut-shows =
      let r : Read = put_entries table values mark front in
      let f : Read = put_entries table values mark (filled_up n front) in
      let set : take m (slots_of f.slots) ≡ slots_of (entries_numbers mark front) =
      sym (slots-take m f.slots) ∙ ap slots_of (ap (λ (i : ℕ). take (slot_width * i) f.slots) (sym front_long) ∙ filled-front n front table values mark) in
      let same : f.area ≡ r.area = filled-area n front table values mark in
      rw (cut-effect, set, same)
      (same_seen r.area area (slots_of (entries_numbers mark front)) (take m (slots_of slots))
      (put_fit table values mark front front-sound room)
      (fits-take area 0 m (slots_of slots) passed.fits)
      (put_entries_lem table values mark front front-sound room ∙ sym (entries-take area m (slots_of slots))))

  saves-front : SavesFront slots area table values mark k (take k (sheet_of (write_sheet slots area buffer)))
  unfolding m front es n cut v whole_by
  saves-front =
      record {
        exactly =
            λ i h. ap (ltb i) front_long ∙ cut-exactly (width_of v) v es sound short k i (rw length-entries h);
        count = ap (λ (o : Outcome). o.answer.first) cut-effect;
        effect = cut-effect;
        shows = rw front_long cut-shows;
      }

pub cut-saved : CutSaved
cut-saved slots area buffer table values mark k s = saves-front s
