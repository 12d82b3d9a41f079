-- What each way out of a call leaves is what the definition gives.
use Prim.Native.Nat.{ℕ, ◌*◌, ◌<◌}
use native.Mathlib.Omega.{arith}
use mathlib.Core.Path.{◌≡◌, sym, ap, ◌∙◌}
use mathlib.Core.Bool.{true, false}
use mathlib.Core.List.{List}
use borrow.Author.Tests.{lt-leb}
use lib.Dec.{eqb}
use lib.ListN.{length, take}
use Rattle.layout.specs.declared.Refusal.TheVariants.{BadSize}
use Rattle.layout.specs.Refusals.{number_of}
use Rattle.record.specs.declared.Answer.{Answer}
use Rattle.record.specs.Bytes.{store_at}
use Rattle.record.specs.Table.{max_slots, slot_width}
use Rattle.record.specs.Packing.{refusal}
use Rattle.record.proofs.Bytes.{All}
use Rattle.record.proofs.Readings.{over}
use Rattle.host.specs.Numbers.{number_size, numbers_in, numbers_bytes}
use Rattle.host.proofs.numbers.NumberLaws.{length-numbers_in}
use Rattle.host.specs.Host.{reply_size, reply_of, read_call}
use Rattle.host.specs.inside.Small.{slot_bytes_fit}
use Rattle.host.proofs.Guards.{Fit, guarded-unwritten, guarded-refused, guarded-served}
use Rattle.host.proofs.Calls as host
use Rattle.sheet.specs.Sheet.{reads_sheet, read_sheet}
use Rattle.sheet.proofs.Unset.{read-over}
use Rattle.host_sheet.specs.Reading.{curlew_sheet_read}

-- more slots than a call may be lent are refused with 1
module _ (ns area sheet : List ℕ) (many : slot_width * max_slots < length ns) where
  read-many : (mark : ℕ) → record { answer = refusal BadSize 0; slots = ns; area = area } ≡ read_sheet sheet ns area mark
  unfolding read_sheet reads_sheet
  read-many mark = rw (lt-leb (length ns) (slot_width * max_slots) many)

module _ (sheet slots area : List ℕ) (mark : ℕ) where
  module _ (ns : List ℕ) {ns' area' reply' : List ℕ} {a : Answer} {r : ℕ} (size : length slots ≡ length ns * number_size) (p : record { answer = a; slots = ns'; area = area' } ≡ read_sheet sheet ns area mark)
      (q : (r ≡ a.number) × (reply' ≡ reply_of a)) where
    -- the numbers lent for the slots may be any
    lent : read_sheet sheet (numbers_in slots) area mark ≡ over (numbers_in slots) (record { answer = a; slots = ns'; area = area' })
    lent =
        let same : length ns ≡ length (numbers_in slots) = rw length-numbers_in (omega arith) in
        read-over sheet area mark ns (numbers_in slots) same ∙ ap (over (numbers_in slots)) (sym p)

    -- a refusal leaves the slots
    pub read_left : (a.number ≡ 0 → ⊥) → record { returned = r; slots = slots; area = area'; reply = reply' } ≡ read_call slots (read_sheet sheet (numbers_in slots) area mark)
    read_left h = host.read_left q slots ns' lent h

    -- and an accepted reading the bytes of those that it did not set
    pub read_set : {slots' : List ℕ} → a.number ≡ 0 → All (λ b. b < 256) slots → slots' ≡ store_at slots 0 (numbers_bytes (take (a.first * slot_width) ns'))
        → record { returned = r; slots = slots'; area = area'; reply = reply' } ≡ read_call slots (read_sheet sheet (numbers_in slots) area mark)
    read_set h below s = host.read_set q slots ns' lent h (omega arith) below s

  module _ (reply : List ℕ) where
    pub read-unwritten : eqb (length reply) reply_size ≡ false → record { returned = number_of BadSize; slots = slots; area = area; reply = reply } ≡ curlew_sheet_read sheet slots area mark reply
    unfolding curlew_sheet_read
    read-unwritten h = guarded-unwritten reply_size reply slots _ _ _ h

    module _ (sized : eqb (length reply) reply_size ≡ true) where
      pub read-refused : {a : Answer} {r : ℕ} {reply' : List ℕ} → slot_bytes_fit (length slots) ≡ false → a ≡ refusal BadSize 0 → (r ≡ a.number) × (reply' ≡ reply_of a)
          → record { returned = r; slots = slots; area = area; reply = reply' } ≡ curlew_sheet_read sheet slots area mark reply
      unfolding curlew_sheet_read read_call
      read-refused {a} {r} {reply'} bad e q =
          let here : record { returned = r; slots = slots; area = area; reply = reply' } ≡ read_call slots
          (record { answer = refusal BadSize 0; slots = numbers_in slots; area = area }) = rw (q.0, q.1, e) in
          here ∙ guarded-refused reply_size reply slots _ _ _ sized bad (λ many. ap (read_call slots) (read-many (numbers_in slots) area sheet many mark))

      pub read-served : Fit (length slots) → read_call slots (read_sheet sheet (numbers_in slots) area mark) ≡ curlew_sheet_read sheet slots area mark reply
      unfolding curlew_sheet_read
      read-served f = guarded-served reply_size reply slots _ _ _ sized f
