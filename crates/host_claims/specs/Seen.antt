-- What a C program lends and sees (document 01, Slot tables; include/curlew.h): slots and replies are runs of bytes.
use Rattle.std.specs.Prelude.{ℕ, ◌*◌, ◌%◌, ◌<◌, ◌≡◌, List, ◌++◌, length, take, drop, get_or}
use Rattle.record.specs.declared.slots.Slot.{Slot}
use Rattle.record.specs.Bytes.{number_at}
use Rattle.record.specs.Table.{slots_of}
use Rattle.record.specs.Packing.{accepted}
use Rattle.host.specs.Numbers.{number_size, numbers_in}
use Rattle.host.specs.Host.{slot_size, reply_of, PackCall}

-- ---- what it lends

-- a run of slots: whole ones, and every element is a byte
pub record Slots (slots : List ℕ) : Type 0 where
  pub whole : length slots % slot_size ≡ 0
  pub bytes : (i : ℕ) → get_or slots i 0 < 256

-- a run of slots, and a reply of the call's own size
pub record Lends (slots reply : List ℕ) (size : ℕ) : Type 0 where
  pub are-slots : Slots slots
  pub reply-size : length reply ≡ size

-- the bytes of the first n slots
abbrev pub first_slots : ℕ → List ℕ → List ℕ
first_slots n slots = take (slot_size * n) slots

-- ---- what it sees

-- number i of a reply, as curlew_get_answer takes it out
abbrev pub replied : ℕ → List ℕ → ℕ
replied i reply = number_at number_size reply (i * number_size)

-- the slots in a run of bytes, as curlew_get_slot takes them out
abbrev pub slots_in : List ℕ → List Slot
slots_in slots = slots_of (numbers_in slots)

-- what a call put at the front of its buffer: as many bytes as its reply says
abbrev pub result_in : PackCall → List ℕ
result_in c = take (replied 1 c.reply) c.output

-- a call that was accepted and put bs at the front of a buffer: it returned 0, replied 0, the length of bs and 0, and
-- the bytes of the buffer after bs stay
abbrev pub filled_with : List ℕ → List ℕ → PackCall
filled_with buffer bs = record {
  returned = 0;
  output = bs ++ drop (length bs) buffer;
  reply = reply_of (accepted (length bs) 0);
}
