-- A table kept as a sheet (02, M-100), of curlew_sheet_write and curlew_sheet_read, both ways round. The proofs are in
-- proofs/Sheets.antt.
use Rattle.std.specs.Prelude.{ℕ, ◌≡◌, List, map, length, take}
use Rattle.sheet.specs.Claims.{seen, Stored, Loaded}
use Rattle.host.specs.Numbers.{numbers_in}
use Rattle.host.specs.Host.{reply_size, PackCall, ReadCall}
use Rattle.host_sheet.specs.Writing.{curlew_sheet_write}
use Rattle.host_sheet.specs.Reading.{curlew_sheet_read}
use Rattle.host_claims.specs.Seen.{Lends, first_slots, replied, slots_in, result_in, filled_with}

-- ---- table to sheet and back

-- A table is written, and its sheet is read into another table and area. Both calls return 0, the second replies as
-- many entries as the first table has slots, and each slot shows what it showed there, "not set" too.
pub record KeepsTable (slots area : List ℕ) (w : PackCall) (r : ReadCall) : Type 0 where
  pub writes : w.returned ≡ 0
  pub reads : r.returned ≡ 0
  pub count : replied 1 r.reply ≡ length (slots_in slots)
  pub shows : map (seen r.area) (take (length (slots_in slots)) (slots_in r.slots))
      ≡ map (seen area) (slots_in slots)

abbrev pub HostTableKept : Type 0
HostTableKept =
    (slots area buffer reply table values : List ℕ) (mark : ℕ) (reply' : List ℕ)
    → Lends slots reply reply_size → Lends table reply' reply_size
    → Stored (numbers_in slots) area buffer (numbers_in table) values mark
    → let w = curlew_sheet_write slots area buffer reply in
    KeepsTable slots area w (curlew_sheet_read (result_in w) table values mark reply')

-- ---- sheet to table and back

-- A sheet that is read, and the slots that this set, as the reply counts them, written again: the same sheet, byte for
-- byte.
abbrev pub HostSheetKept : Type 0
HostSheetKept =
    (sheet slots area : List ℕ) (mark : ℕ) (reply buffer reply' : List ℕ)
    → Lends slots reply reply_size → length reply' ≡ reply_size → Loaded sheet (numbers_in slots) area mark buffer
    → let r = curlew_sheet_read sheet slots area mark reply in
    curlew_sheet_write (first_slots (replied 1 r.reply) r.slots) r.area buffer reply' ≡ filled_with buffer sheet
