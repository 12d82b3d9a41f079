-- What each way out of a call leaves is what the definition gives.
use Prim.Native.Nat.{ℕ, ◌*◌, ◌<◌}
use native.Mathlib.Omega.{arith}
use mathlib.Core.Path.{◌≡◌, sym, ap, ◌∙◌}
use mathlib.Core.Bool.{true, false}
use mathlib.Core.List.{List}
use borrow.Author.Tests.{lt-leb, eq-eqb, ne_eqb}
use lib.Dec.{eqb}
use lib.ListN.{length, take}
use Rattle.layout.specs.declared.Refusal.TheVariants.{BadSize}
use Rattle.layout.specs.Refusals.{number_of}
use Rattle.record.specs.Bytes.{store_at}
use Rattle.record.specs.Table.{max_slots, slot_width}
use Rattle.record.proofs.Bytes.{All}
use Rattle.host.specs.Numbers.{number_size, numbers_in, numbers_bytes}
use Rattle.host.proofs.numbers.NumberLaws.{length-numbers_in, bytes-stored}
use Rattle.host.specs.inside.Small.{slot_bytes_fit}
use Rattle.host.proofs.Guards.{Fit, guarded-unwritten, guarded-refused, guarded-served}
use Rattle.rescue.specs.declared.fill.Rescued.{Rescued}
use Rattle.rescue.specs.Rescue.{rescue_refused, rescues, rescue}
use Rattle.rescue.proofs.Unset.{over, rescue-over}
use Rattle.host_sheet.specs.Rescuing.{rescue_reply_size, rescue_reply, rescue_call, curlew_sheet_rescue}

-- more slots than a call may be lent are refused with 1
rescue-many : (sheet : List ℕ) (legs : ℕ) (ns area : List ℕ) (mark : ℕ) → slot_width * max_slots < length ns
    → record { answer = rescue_refused BadSize 0; slots = ns; area = area } ≡ rescue sheet legs ns area mark
unfolding rescue rescues
rescue-many sheet legs ns area mark many = rw (lt-leb (length ns) (slot_width * max_slots) many)

module _ (sheet : List ℕ) (legs : ℕ) (slots area : List ℕ) (mark : ℕ) where
  module _ (ns : List ℕ) {ns' area' reply' : List ℕ} {a : Rescued} {r : ℕ} (size : length slots ≡ length ns * number_size)
      (p : record { answer = a; slots = ns'; area = area' } ≡ rescue sheet legs ns area mark) (q : (r ≡ a.number) × (reply' ≡ rescue_reply a)) where
    -- the numbers lent for the slots may be any
    lent : rescue sheet legs (numbers_in slots) area mark ≡ over legs (numbers_in slots) (record { answer = a; slots = ns'; area = area' })
    lent =
        let same : length ns ≡ length (numbers_in slots) = rw length-numbers_in (omega arith) in
        rescue-over sheet legs area mark ns (numbers_in slots) same ∙ ap (over legs (numbers_in slots)) (sym p)

    -- a refusal leaves the slots
    pub rescue-left : (a.number ≡ 0 → ⊥) → record { returned = r; slots = slots; area = area'; reply = reply' } ≡ rescue_call slots (rescue sheet legs (numbers_in slots) area mark)
    unfolding rescue_call
    rescue-left h = rw (lent, ne_eqb a.number 0 h, q.0, q.1)

    -- and an accepted rescue the bytes of those past the legs
    pub rescue-set : {slots' : List ℕ} → a.number ≡ 0 → All (λ b. b < 256) slots → slots' ≡ store_at slots 0 (numbers_bytes (take (legs * slot_width) ns'))
        → record { returned = r; slots = slots'; area = area'; reply = reply' } ≡ rescue_call slots (rescue sheet legs (numbers_in slots) area mark)
    unfolding rescue_call
    rescue-set h below s = rw (lent, eq-eqb a.number 0 h, bytes-stored slots (take (legs * slot_width) ns') (omega arith) below, s, q.0, q.1)

  module _ (reply : List ℕ) where
    pub rescue-unwritten : eqb (length reply) rescue_reply_size ≡ false
        → record { returned = number_of BadSize; slots = slots; area = area; reply = reply } ≡ curlew_sheet_rescue sheet
        legs slots area mark reply
    unfolding curlew_sheet_rescue
    rescue-unwritten h = guarded-unwritten rescue_reply_size reply slots _ _ _ h

    module _ (sized : eqb (length reply) rescue_reply_size ≡ true) where
      pub rescue-refused : {a : Rescued} {r : ℕ} {reply' : List ℕ} → slot_bytes_fit (length slots) ≡ false → a ≡ rescue_refused BadSize 0 → (r ≡ a.number) × (reply' ≡ rescue_reply a)
          → record { returned = r; slots = slots; area = area; reply = reply' } ≡ curlew_sheet_rescue sheet legs slots area mark reply
      unfolding curlew_sheet_rescue rescue_call
      rescue-refused {a} {r} {reply'} bad e q =
          let here : record { returned = r; slots = slots; area = area; reply = reply' } ≡ rescue_call slots
          (record { answer = rescue_refused BadSize 0; slots = numbers_in slots; area = area }) = rw (
            q.0,
            q.1,
            e,
          ) in
          here ∙ guarded-refused rescue_reply_size reply slots _ _ _ sized bad (λ many. ap (rescue_call slots) (rescue-many sheet legs (numbers_in slots) area mark many))

      pub rescue-served : Fit (length slots) → rescue_call slots (rescue sheet legs (numbers_in slots) area mark) ≡ curlew_sheet_rescue sheet legs slots area mark reply
      unfolding curlew_sheet_rescue
      rescue-served f = guarded-served rescue_reply_size reply slots _ _ _ sized f
