-- Reading for a C host (document 01, Slot tables). THE EFFECT OF A CALL is `curlew_read`.
use Rattle.std.specs.Prelude.{ℕ, ◌≡◌, List}
use Rattle.layout.specs.declared.Refusal.TheVariants.{BadSize}
use Rattle.layout.specs.Refusals.{number_of}
use Rattle.record.specs.Packing.{refusal}
use Rattle.record.specs.Reading.{read, read_steps, ReadAll, left_of, read_all}
use Rattle.host.specs.Numbers.{numbers_in}
use Rattle.host.specs.Host.{long_reply_size, long_reply, ReadCall, read_call, with_reply, guarded}

-- what the call on numbers leaves, as a C host sees it; the reply's fourth number are the steps (02, M-112)
unfoldable pub steps_call : List ℕ → ReadAll → ReadCall
unfolding read_call long_reply
steps_call slots x = with_reply (long_reply x.answer.answer x.answer.steps) (read_call slots (left_of x))

unfoldable pub curlew_read : List ℕ → List ℕ → List ℕ → List ℕ → ℕ → List ℕ → ReadCall
unfolding steps_call numbers_in read read_steps
curlew_read layout bytes slots area mark reply =
    guarded long_reply_size reply slots
    (record { returned = number_of BadSize; slots = slots; area = area; reply = reply })
    (steps_call slots
    (record { answer = record { answer = refusal BadSize 0; steps = 0 }; slots = numbers_in slots; area = area }))
    (steps_call slots (read_all layout bytes (numbers_in slots) area mark))

-- what a call promises that returned r
abbrev pub HostReads : List ℕ → List ℕ → List ℕ → List ℕ → List ℕ → List ℕ → ℕ → List ℕ → List ℕ → ℕ → Type 0
HostReads layout bytes slots slots' area area' mark reply reply' r =
    record { returned = r; slots = slots'; area = area'; reply = reply' }
    ≡ curlew_read layout bytes slots area mark reply
