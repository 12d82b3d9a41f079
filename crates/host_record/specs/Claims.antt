-- What a C host is promised of the slots that a reading does not set (proved in `proofs/read/Theorems.antt`).
use Rattle.std.specs.Prelude.{ℕ, ◌*◌, ◌<◌, ◌≡◌, List, eqb, drop, get_or, if◌then◌else◌}
use Rattle.record.specs.Bytes.{number_at}
use Rattle.host.specs.Numbers.{number_size}
use Rattle.host.specs.Host.{slot_size, ReadCall}
use Rattle.host_record.specs.Reading.{curlew_read}

-- how many slots a reading set: the reply's second number, where it was accepted
abbrev pub slots_set_by_call : ReadCall → ℕ
slots_set_by_call r = if eqb r.returned 0 then number_at number_size r.reply number_size else 0

-- the slots that a reading did not set stay as lent, byte for byte
pub record Stay (slots : List ℕ) (r : ReadCall) : Type 0 where
  pub unset : drop (slot_size * slots_set_by_call r) r.slots ≡ drop (slot_size * slots_set_by_call r) slots

-- every reading leaves the slots that it does not set as lent, accepted or refused
abbrev pub UnsetStay : Type 0
UnsetStay =
    (layout bytes slots area : List ℕ) (mark : ℕ) (reply : List ℕ) → ((i : ℕ) → get_or slots i 0 < 256)
    → Stay slots (curlew_read layout bytes slots area mark reply)
