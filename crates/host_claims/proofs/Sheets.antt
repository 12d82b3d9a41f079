-- Each call is the call on numbers, of which the round trips are proved. A sheet is found by the length in the reply,
-- and the slots that were set by the count in the reply.
use Prim.Native.Nat.{ℕ, ◌*◌, ◌≤◌}
use native.Mathlib.Omega.{arith}
use mathlib.Core.Path.{◌≡◌, sym, ap, ap₂, ◌∙◌}
use mathlib.Core.List.{List, [], ◌∷◌}
use lib.ListN.{length, take}
use Rattle.record.specs.declared.Answer.{Answer}
use Rattle.record.specs.Table.{slot_width, max_slots}
use Rattle.record.specs.Packing.{Packed}
use Rattle.record.specs.Reading.{Read}
use Rattle.record.proofs.Tables.{length-slots}
use Rattle.sheet.specs.Sheet.{max_sheet, width_in, entries_at, write_sheet, put_entries, read_sheet}
use Rattle.sheet.specs.Claims.{sheet_of, Stored, KeepsValues}
use Rattle.sheet.specs.inside.Steps.{table_sheet}
use Rattle.sheet.proofs.Calls.{lengths, lent, wrote, write_done, read-it, read-put}
use Rattle.sheet.proofs.Claims.{table_kept, sheet-kept}
use Rattle.host.specs.Numbers.{numbers_in}
use Rattle.host.specs.Host.{reply_size, reply_of, PackCall, ReadCall, pack_call, read_call}
use Rattle.host_sheet.specs.Writing.{curlew_sheet_write}
use Rattle.host_sheet.specs.Reading.{curlew_sheet_read}
use Rattle.host_claims.specs.Seen.{Lends, first_slots, replied, result_in}
use Rattle.host_claims.specs.Agreeing.{Agrees}
use Rattle.host_claims.specs.Sheets.{KeepsTable, HostTableKept, HostSheetKept}
use Rattle.host_claims.proofs.Laws.{write-served, sheet-served, replied-number, result-is, slots-first, numbers-first}
use Rattle.host_claims.proofs.Agreeing.{sheet-read-agrees}

-- ---- what is written

-- the sheet of an accepted writing is found by the length in the reply
pub sheet-found : (ns area buffer : List ℕ) → (write_sheet ns area buffer).answer.number ≡ 0
    → result_in (pack_call (write_sheet ns area buffer)) ≡ sheet_of (write_sheet ns area buffer)
sheet-found ns area buffer z =
    let p = wrote ns area buffer z in
    let done = write_done ns area buffer p.sizes p.fits p.room in
    let n : (write_sheet ns area buffer).answer.first ≡ length (table_sheet ns area) =
    ap (λ (w : Packed). w.answer.first) (sym done) in
    let most : length buffer ≤ max_sheet = (lengths (length ns) (length area) (length buffer) p.sizes).size in
    result-is (write_sheet ns area buffer) (omega (arith, p.room))

-- ---- what is read

-- the entries of an accepted reading are counted in the reply
count-replied : (sheet slots area : List ℕ) (mark : ℕ) → (read_sheet sheet (numbers_in slots) area mark).answer.number ≡ 0
    → replied 1 (read_call slots (read_sheet sheet (numbers_in slots) area mark)).reply
    ≡ (read_sheet sheet (numbers_in slots) area mark).answer.first
unfolding read_call reply_of put_entries
count-replied sheet slots area mark z =
    let got = read-it sheet (numbers_in slots) area mark z in
    let n : (read_sheet sheet (numbers_in slots) area mark).answer.first ≡ length (entries_at (width_in sheet) sheet) =
    ap (λ (r : Read). r.answer.first)
    (sym (read-put sheet (numbers_in slots) area mark got.opened got.whole got.needed got.rows got.room))
    in
    let few : length (numbers_in slots) ≤ slot_width * max_slots =
    (lent (length (numbers_in slots)) (length area) (length sheet) mark got.opened.sizes).lengths.table in
    let a : Answer = (read_sheet sheet (numbers_in slots) area mark).answer in
    replied-number (a.number ∷ a.first ∷ a.second ∷ []) 1 (omega arith)
    (omega (arith, got.rows, length-slots (numbers_in slots)))

-- ---- table to sheet and back

module _ (slots area buffer reply table values : List ℕ) (mark : ℕ) (reply' : List ℕ)
    (l : Lends slots reply reply_size) (m : Lends table reply' reply_size)
    (h : Stored (numbers_in slots) area buffer (numbers_in table) values mark) where
  w : PackCall
  w = curlew_sheet_write slots area buffer reply

  sheet : List ℕ
  sheet = sheet_of (write_sheet (numbers_in slots) area buffer)

  left : Read
  left = read_sheet (sheet_of (write_sheet (numbers_in slots) area buffer)) (numbers_in table) values mark

  kept : KeepsValues (numbers_in slots) area (numbers_in table) values mark left
  unfolding left
  kept = table_kept (numbers_in slots) area buffer (numbers_in table) values mark h

  accepted : left.answer.number ≡ 0
  unfolding put_entries
  accepted = ap (λ (r : Read). r.answer.number) kept.effect

  as_written : w ≡ pack_call (write_sheet (numbers_in slots) area buffer)
  unfolding w
  as_written = write-served slots reply area buffer l

  found : result_in w ≡ sheet
  unfolding sheet
  found = ap result_in as_written ∙ sheet-found (numbers_in slots) area buffer h.writing

  as_read : curlew_sheet_read (result_in w) table values mark reply' ≡ read_call table left
  unfolding left sheet
  as_read =
      sheet-served table reply' (result_in w) values mark m
      ∙ ap (λ (bs : List ℕ). read_call table (read_sheet bs (numbers_in table) values mark)) found

  slots_same : numbers_in (curlew_sheet_read (result_in w) table values mark reply').slots ≡ left.slots
  unfolding left sheet
  slots_same =
      (sheet-read-agrees (result_in w) table values mark reply' m).same
      ∙ ap (λ (bs : List ℕ). (read_sheet bs (numbers_in table) values mark).slots) found

  keeps : KeepsTable slots area w (curlew_sheet_read (result_in w) table values mark reply')
  unfolding left pack_call read_call
  keeps = record {
    writes = ap (λ (c : PackCall). c.returned) as_written ∙ h.writing;
    reads = ap (λ (c : ReadCall). c.returned) as_read ∙ accepted;
    count =
        ap (λ (c : ReadCall). replied 1 c.reply) as_read
        ∙ count-replied (sheet_of (write_sheet (numbers_in slots) area buffer)) table values mark accepted
        ∙ kept.count;
    shows = rw (slots_same, ap (λ (c : ReadCall). c.area) as_read) kept.shows;
  }

pub host-table-kept : HostTableKept
unfolding w
host-table-kept = keeps

-- ---- sheet to table and back

pub host-sheet-kept : HostSheetKept
unfolding pack_call read_call
host-sheet-kept sheet slots area mark reply buffer reply' l size h =
    let r : Read = read_sheet sheet (numbers_in slots) area mark in
    let c : ReadCall = curlew_sheet_read sheet slots area mark reply in
    let served : c ≡ read_call slots r = sheet-served slots reply sheet area mark l in
    let agrees : Agrees slots c.slots r.slots = sheet-read-agrees sheet slots area mark reply l in
    let n : replied 1 c.reply ≡ r.answer.first =
    ap (λ (x : ReadCall). replied 1 x.reply) served ∙ count-replied sheet slots area mark h.reading in
    let set : numbers_in (first_slots (replied 1 c.reply) c.slots) ≡ take (slot_width * r.answer.first)
    r.slots =
    numbers-first (replied 1 c.reply) c.slots
    ∙ ap₂ (λ (k : ℕ) (ns : List ℕ). take (slot_width * k) ns) n agrees.same in
    write-served (first_slots (replied 1 c.reply) c.slots) reply' c.area buffer
    (record { are-slots = slots-first (replied 1 c.reply) c.slots agrees.slots; reply-size = size })
    ∙ ap₂ (λ (ns bs : List ℕ). pack_call (write_sheet ns bs buffer)) set (ap (λ (x : ReadCall). x.area) served)
    ∙ ap pack_call (sheet-kept sheet (numbers_in slots) area mark buffer h)
