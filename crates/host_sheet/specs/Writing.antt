-- Writing sheets for a C host (02, M-100). THE EFFECT OF A CALL is `curlew_sheet_write`.
use Rattle.std.specs.Prelude.{ℕ, ◌≡◌, List}
use Rattle.layout.specs.declared.Refusal.TheVariants.{BadSize}
use Rattle.layout.specs.Refusals.{number_of}
use Rattle.record.specs.Packing.{refusal}
use Rattle.host.specs.Numbers.{numbers_in}
use Rattle.host.specs.Host.{reply_size, PackCall, pack_call, guarded}
use Rattle.sheet.specs.Sheet.{write_sheet}

unfoldable pub curlew_sheet_write : List ℕ → List ℕ → List ℕ → List ℕ → PackCall
unfolding pack_call numbers_in write_sheet
curlew_sheet_write slots area buffer reply =
    guarded reply_size reply slots
    (record { returned = number_of BadSize; output = buffer; reply = reply })
    (pack_call (record { answer = refusal BadSize 0; output = buffer }))
    (pack_call (write_sheet (numbers_in slots) area buffer))

-- what a call promises that returned r; and what it promises where the reply is written and the slots are whole
abbrev pub HostWritesSheet : List ℕ → List ℕ → List ℕ → List ℕ → List ℕ → List ℕ → ℕ → Type 0
HostWritesSheet slots area sheet sheet' reply reply' r =
    record { returned = r; output = sheet'; reply = reply' }
    ≡ curlew_sheet_write slots area sheet reply

abbrev pub WriteServed : List ℕ → List ℕ → List ℕ → List ℕ → List ℕ → List ℕ → ℕ → Type 0
WriteServed slots area sheet sheet' reply reply' r =
    record { returned = r; output = sheet'; reply = reply' }
    ≡ pack_call (write_sheet (numbers_in slots) area sheet)
