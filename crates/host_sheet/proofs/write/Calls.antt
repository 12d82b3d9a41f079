-- What each way out of a call leaves is what the definition gives.
use Prim.Native.Nat.{ℕ, ◌*◌, ◌<◌}
use mathlib.Core.Path.{◌≡◌, ap, ◌∙◌}
use mathlib.Core.Bool.{true, false}
use mathlib.Core.List.{List}
use borrow.Author.Tests.{lt-leb}
use lib.Dec.{eqb}
use lib.ListN.{length}
use Rattle.layout.specs.declared.Refusal.TheVariants.{BadSize}
use Rattle.layout.specs.Refusals.{number_of}
use Rattle.record.specs.declared.Answer.{Answer}
use Rattle.record.specs.Table.{max_slots, slot_width}
use Rattle.record.specs.Packing.{refusal}
use Rattle.host.specs.Numbers.{numbers_in}
use Rattle.host.specs.Host.{reply_size, reply_of, pack_call}
use Rattle.host.specs.inside.Small.{slot_bytes_fit}
use Rattle.host.proofs.Guards.{Fit, guarded-unwritten, guarded-refused, guarded-served}
use Rattle.host.proofs.Calls as host
use Rattle.sheet.specs.Sheet.{writes_sheet, write_sheet}
use Rattle.host_sheet.specs.Writing.{curlew_sheet_write}

-- more slots than a call may be lent are refused with 1
module _ (ns area sheet : List ℕ) (many : slot_width * max_slots < length ns) where
  write-many : record { answer = refusal BadSize 0; output = sheet } ≡ write_sheet ns area sheet
  unfolding write_sheet writes_sheet
  write-many = rw (lt-leb (length ns) (slot_width * max_slots) many)

module _ (slots area sheet : List ℕ) where
  -- the call on numbers, and the reply
  pub write-replied : {ns out reply' : List ℕ} {a : Answer} {r : ℕ} → ns ≡ numbers_in slots → record { answer = a; output = out } ≡ write_sheet ns area sheet → (r ≡ a.number) × (reply' ≡ reply_of a)
      → record { returned = r; output = out; reply = reply' } ≡ pack_call (write_sheet (numbers_in slots) area sheet)
  write-replied e p q = host.pack-replied q (p ∙ ap (λ (n : List ℕ). write_sheet n area sheet) e)

  module _ (reply : List ℕ) where
    pub write-unwritten : eqb (length reply) reply_size ≡ false → record { returned = number_of BadSize; output = sheet; reply = reply } ≡ curlew_sheet_write slots area sheet reply
    unfolding curlew_sheet_write
    write-unwritten h = guarded-unwritten reply_size reply slots _ _ _ h

    module _ (sized : eqb (length reply) reply_size ≡ true) where
      pub write-refused : {a : Answer} {r : ℕ} {reply' : List ℕ} → slot_bytes_fit (length slots) ≡ false → a ≡ refusal BadSize 0 → (r ≡ a.number) × (reply' ≡ reply_of a)
          → record { returned = r; output = sheet; reply = reply' } ≡ curlew_sheet_write slots area sheet reply
      unfolding curlew_sheet_write
      write-refused bad e q =
          host.pack-replied q (ap (λ (x : Answer). record { answer = x; output = sheet }) e)
          ∙ guarded-refused reply_size reply slots _ _ _ sized bad (λ many. ap pack_call (write-many (numbers_in slots) area sheet many))

      pub write-served : Fit (length slots) → pack_call (write_sheet (numbers_in slots) area sheet) ≡ curlew_sheet_write slots area sheet reply
      unfolding curlew_sheet_write
      write-served f = guarded-served reply_size reply slots _ _ _ sized f
