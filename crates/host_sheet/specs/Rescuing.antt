-- Rescuing a damaged sheet for a C host (02, M-109; 01, Slot tables). THE EFFECT OF A CALL is `curlew_sheet_rescue`, at
-- the end.
use Rattle.std.specs.Prelude.{ℕ, ◌*◌, ◌≡◌, List, [], ◌∷◌, eqb, if◌then◌else◌}
use Rattle.layout.specs.declared.Refusal.TheVariants.{BadSize}
use Rattle.layout.specs.Refusals.{number_of}
use Rattle.host.specs.Numbers.{number_size, numbers_in, numbers_bytes}
use Rattle.host.specs.Host.{ReadCall, guarded}
use Rattle.rescue.specs.declared.fill.Rescued.{Rescued}
use Rattle.rescue.specs.Rescue.{rescue_refused, Outcome, rescue}

-- the reply: an answer's four numbers
unfoldable pub rescue_reply : Rescued → List ℕ
unfolding numbers_bytes
rescue_reply a = numbers_bytes (a.number ∷ a.first ∷ a.second ∷ a.third ∷ [])

abbrev pub rescue_reply_size : ℕ
rescue_reply_size = number_size * 4

-- what the call on numbers leaves, as a C host sees it: a refusal writes the reply alone
unfoldable pub rescue_call : List ℕ → Outcome → ReadCall
unfolding numbers_bytes rescue_reply
rescue_call slots o =
    record {
      returned = o.answer.number;
      slots = if eqb o.answer.number 0 then numbers_bytes o.slots else slots;
      area = o.area;
      reply = rescue_reply o.answer;
    }

unfoldable pub curlew_sheet_rescue : List ℕ → ℕ → List ℕ → List ℕ → ℕ → List ℕ → ReadCall
unfolding rescue_call numbers_in rescue
curlew_sheet_rescue sheet legs slots area mark reply =
    guarded rescue_reply_size reply slots
    (record { returned = number_of BadSize; slots = slots; area = area; reply = reply })
    (rescue_call slots (record { answer = rescue_refused BadSize 0; slots = numbers_in slots; area = area }))
    (rescue_call slots (rescue sheet legs (numbers_in slots) area mark))

-- what a call promises that returned r; and what it promises where the reply is written and the slots are whole
abbrev pub HostRescues : List ℕ → ℕ → List ℕ → List ℕ → List ℕ → List ℕ → ℕ → List ℕ → List ℕ → ℕ → Type 0
HostRescues sheet legs slots slots' area area' mark reply reply' r =
    record { returned = r; slots = slots'; area = area'; reply = reply' }
    ≡ curlew_sheet_rescue sheet legs slots area mark reply

abbrev pub RescueServed : List ℕ → ℕ → List ℕ → List ℕ → List ℕ → List ℕ → ℕ → List ℕ → List ℕ → ℕ → Type 0
RescueServed sheet legs slots slots' area area' mark reply reply' r =
    record { returned = r; slots = slots'; area = area'; reply = reply' }
    ≡ rescue_call slots (rescue sheet legs (numbers_in slots) area mark)
