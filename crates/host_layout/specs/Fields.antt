-- The fields of a layout for a C host (document 01, Slot tables). THE EFFECT OF A CALL is `curlew_fields`.
use Rattle.std.specs.Prelude.{ℕ, ◌≡◌, List, eqb, length, if◌then◌else◌}
use Rattle.layout.specs.declared.Refusal.TheVariants.{BadSize}
use Rattle.layout.specs.Refusals.{number_of}
use Rattle.host.specs.Host.{reply_size, PackCall, pack_call}
use Rattle.describe.specs.Rows.{listed}

-- the call; a reply of another size than the call's own: nothing is written
unfoldable pub curlew_fields : List ℕ → List ℕ → List ℕ → PackCall
unfolding pack_call listed
curlew_fields layout output reply =
    if eqb (length reply) reply_size then pack_call (listed layout output)
    else record { returned = number_of BadSize; output = output; reply = reply }

-- what a call promises that returned r
abbrev pub HostLists : List ℕ → List ℕ → List ℕ → List ℕ → List ℕ → ℕ → Type 0
HostLists layout out out' reply reply' r =
    record { returned = r; output = out'; reply = reply' }
    ≡ curlew_fields layout out reply
