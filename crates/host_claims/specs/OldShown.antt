-- A slot that a reading leaves alone goes on showing its value, if that ends at or before the mark (document 01,
-- Reading), as a C program sees it. The proof is in proofs/OldShown.antt.
use Rattle.std.specs.Prelude.{ℕ, ◌≤◌, ◌<◌, ◌≡◌, List, get_or}
use Rattle.record.specs.Table.{shown}
use Rattle.record.specs.Slots.{slot_at, value_end}
use Rattle.host.specs.Numbers.{numbers_in}
use Rattle.host.specs.Host.{ReadCall}
use Rattle.host_record.specs.Reading.{curlew_read}
use Rattle.host_record.specs.Claims.{slots_set_by_call}

-- slot number i of a run of bytes was lent, and ends at or before the mark: after the call it shows what it showed
pub record HostOld (slots area : List ℕ) (mark i : ℕ) (c : ReadCall) : Type 0 where
  pub slot : slot_at (numbers_in c.slots) i ≡ slot_at (numbers_in slots) i
  pub value :
      value_end (slot_at (numbers_in slots) i) ≤ mark
      → shown c.area (slot_at (numbers_in c.slots) i) ≡ shown area (slot_at (numbers_in slots) i)

-- `HostOld` holds of every slot after those that the reading set, as the reply counts them, whatever the call is lent
abbrev pub HostOldValues : Type 0
HostOldValues =
    (layout bytes slots area : List ℕ) (mark : ℕ) (reply : List ℕ) (i : ℕ) → ((j : ℕ) → get_or slots j 0 < 256)
    → slots_set_by_call (curlew_read layout bytes slots area mark reply) ≤ i
    → HostOld slots area mark i (curlew_read layout bytes slots area mark reply)
