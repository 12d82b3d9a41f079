-- What a layout promises, as a C host asks it (document 01, Slot tables). THE EFFECTS OF THE CALLS are `curlew_promises`
-- and `curlew_extends`.
use Rattle.std.specs.Prelude.{ℕ, ◌≡◌, List, eqb, length, if◌then◌else◌}
use Rattle.layout.specs.declared.Refusal.TheVariants.{BadSize}
use Rattle.layout.specs.Refusals.{number_of}
use Rattle.host.specs.Host.{long_reply_size, long_reply}
use Rattle.promises.specs.declared.Told.{Told}
use Rattle.promises.specs.Promises.{promised, extended}

-- all that a call leaves: the number that it returns, and every byte of the reply
pub record ToldCall : Type 0 where
  pub returned : ℕ
  pub reply : List ℕ

-- what a call leaves that answers four numbers; a reply of another size than the call's own: nothing is written
unfoldable pub told_call : Told → List ℕ → ToldCall
unfolding long_reply
told_call t reply =
    if eqb (length reply) long_reply_size
    then record { returned = t.answer.number; reply = long_reply t.answer t.fourth }
    else record { returned = number_of BadSize; reply = reply }

unfoldable pub curlew_promises : List ℕ → List ℕ → ToldCall
unfolding told_call promised
curlew_promises layout reply = told_call (promised layout) reply

unfoldable pub curlew_extends : List ℕ → List ℕ → List ℕ → ToldCall
unfolding told_call extended
curlew_extends old new reply = told_call (extended old new) reply

-- what a call promises that returned r
abbrev pub Tells : Told → List ℕ → List ℕ → ℕ → Type 0
Tells t reply reply' r = record { returned = r; reply = reply' } ≡ told_call t reply

abbrev pub HostPromises : List ℕ → List ℕ → List ℕ → ℕ → Type 0
HostPromises layout reply reply' r =
    record { returned = r; reply = reply' } ≡ curlew_promises layout reply

abbrev pub HostExtends : List ℕ → List ℕ → List ℕ → List ℕ → ℕ → Type 0
HostExtends old new reply reply' r =
    record { returned = r; reply = reply' } ≡ curlew_extends old new reply
