-- Layouts described for a C host (document 01, Slot tables). THE EFFECT OF A CALL is `curlew_layout`.
use Rattle.std.specs.Prelude.{ℕ, ◌≡◌, List, eqb, length, if◌then◌else◌}
use Rattle.layout.specs.declared.Refusal.TheVariants.{BadSize}
use Rattle.layout.specs.Refusals.{number_of}
use Rattle.record.specs.declared.Answer.{Answer}
use Rattle.host.specs.Host.{reply_size, reply_of}
use Rattle.describe.specs.Description.{described}

-- all that a call leaves: the number that it returns, and every byte of the reply
pub record LayoutCall : Type 0 where
  pub returned : ℕ
  pub reply : List ℕ

-- what the call leaves, as a C host sees it
unfoldable pub layout_call : Answer → LayoutCall
unfolding reply_of
layout_call a = record { returned = a.number; reply = reply_of a }

-- the call; a reply of another size than the call's own: nothing is written
unfoldable pub curlew_layout : List ℕ → List ℕ → LayoutCall
unfolding layout_call described
curlew_layout layout reply =
    if eqb (length reply) reply_size then layout_call (described layout)
    else record { returned = number_of BadSize; reply = reply }

-- what a call promises that returned r
abbrev pub HostDescribes : List ℕ → List ℕ → List ℕ → ℕ → Type 0
HostDescribes layout reply reply' r =
    record { returned = r; reply = reply' } ≡ curlew_layout layout reply
