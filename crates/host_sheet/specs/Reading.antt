-- Reading sheets for a C host (02, M-100). THE EFFECT OF A CALL is `curlew_sheet_read`.
use Rattle.std.specs.Prelude.{ℕ, ◌≡◌, List}
use Rattle.layout.specs.declared.Refusal.TheVariants.{BadSize}
use Rattle.layout.specs.Refusals.{number_of}
use Rattle.record.specs.Packing.{refusal}
use Rattle.host.specs.Numbers.{numbers_in}
use Rattle.host.specs.Host.{reply_size, ReadCall, read_call, guarded}
use Rattle.sheet.specs.Sheet.{read_sheet}

unfoldable pub curlew_sheet_read : List ℕ → List ℕ → List ℕ → ℕ → List ℕ → ReadCall
unfolding read_call numbers_in read_sheet
curlew_sheet_read sheet slots area mark reply =
    guarded reply_size reply slots
    (record { returned = number_of BadSize; slots = slots; area = area; reply = reply })
    (read_call slots (record { answer = refusal BadSize 0; slots = numbers_in slots; area = area }))
    (read_call slots (read_sheet sheet (numbers_in slots) area mark))

-- what a call promises that returned r; and what it promises where the reply is written and the slots are whole
abbrev pub HostReadsSheet : List ℕ → List ℕ → List ℕ → List ℕ → List ℕ → ℕ → List ℕ → List ℕ → ℕ → Type 0
HostReadsSheet sheet slots slots' area area' mark reply reply' r =
    record { returned = r; slots = slots'; area = area'; reply = reply' }
    ≡ curlew_sheet_read sheet slots area mark reply

abbrev pub ReadServed : List ℕ → List ℕ → List ℕ → List ℕ → List ℕ → ℕ → List ℕ → List ℕ → ℕ → Type 0
ReadServed sheet slots slots' area area' mark reply reply' r =
    record { returned = r; slots = slots'; area = area'; reply = reply' }
    ≡ read_call slots (read_sheet sheet (numbers_in slots) area mark)
