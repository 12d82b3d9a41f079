-- Packing for a C host (document 01, Slot tables). THE EFFECT OF A CALL is `curlew_pack`.
use Rattle.std.specs.Prelude.{ℕ, ◌≡◌, List}
use Rattle.layout.specs.declared.Refusal.TheVariants.{BadSize}
use Rattle.layout.specs.Refusals.{number_of}
use Rattle.record.specs.Packing.{refusal, pack}
use Rattle.host.specs.Numbers.{numbers_in}
use Rattle.host.specs.Host.{reply_size, PackCall, pack_call, guarded}

unfoldable pub curlew_pack : List ℕ → List ℕ → List ℕ → List ℕ → List ℕ → PackCall
unfolding pack_call numbers_in pack
curlew_pack layout slots area output reply =
    guarded reply_size reply slots
    (record { returned = number_of BadSize; output = output; reply = reply })
    (pack_call (record { answer = refusal BadSize 0; output = output }))
    (pack_call (pack layout (numbers_in slots) area output))

-- what a call promises that returned r
abbrev pub HostPacks : List ℕ → List ℕ → List ℕ → List ℕ → List ℕ → List ℕ → List ℕ → ℕ → Type 0
HostPacks layout slots area out out' reply reply' r =
    record { returned = r; output = out'; reply = reply' }
    ≡ curlew_pack layout slots area out reply
