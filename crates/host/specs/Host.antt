-- What the calls for a C host share (document 01, Slot tables): slots and replies are runs of bytes, each number four
-- of them, big-endian.
use Rattle.std.specs.Prelude.{ℕ, ◌*◌, ◌%◌, List, [], ◌∷◌, length, eqb, if◌then◌else◌}
use Rattle.record.specs.declared.Answer.{Answer}
use Rattle.record.specs.Table.{slot_width}
use Rattle.record.specs.Packing.{Packed}
use Rattle.record.specs.Reading.{Read}
use Rattle.host.specs.Numbers.{number_size, numbers_bytes}

-- ---- slots and replies as bytes

-- the bytes of a slot, and of a reply, which is an answer's three numbers
abbrev pub slot_size : ℕ
slot_size = number_size * slot_width

abbrev pub reply_size : ℕ
reply_size = number_size * 3

-- the bytes of a reply that has a fourth number
abbrev pub long_reply_size : ℕ
long_reply_size = number_size * 4

-- the reply to an answer of three numbers
unfoldable pub reply_of : Answer → List ℕ
unfolding numbers_bytes
reply_of a = numbers_bytes (a.number ∷ a.first ∷ a.second ∷ [])

-- the reply to an answer of three numbers and a fourth one
unfoldable pub long_reply : Answer → ℕ → List ℕ
unfolding numbers_bytes
long_reply a fourth = numbers_bytes (a.number ∷ a.first ∷ a.second ∷ fourth ∷ [])

-- ---- what the calls share

-- A reply of another size than the call's own: nothing is written. Slot bytes that are no whole slots: refused with 1.
-- Else the call is served on the numbers that the bytes make, where more slots than a call may be lent are refused with
-- 1.
abbrev pub guarded : {A : Type 0} → ℕ → List ℕ → List ℕ → A → A → A → A
guarded size reply slots unwritten refused served =
    if eqb (length reply) size then (if eqb (length slots % slot_size) 0 then served else refused) else unwritten

-- ---- what a call leaves

-- A call that fills a buffer leaves: the number that it returns, every byte of the buffer, and every byte of the reply.
pub record PackCall : Type 0 where
  pub returned : ℕ
  pub output : List ℕ
  pub reply : List ℕ

-- what the call on numbers leaves, as a C host sees it
unfoldable pub pack_call : Packed → PackCall
unfolding reply_of
pack_call p = record { returned = p.answer.number; output = p.output; reply = reply_of p.answer }

-- A call that sets slots leaves: the number that it returns, and every byte of the slots, of the area and of the reply.
pub record ReadCall : Type 0 where
  pub returned : ℕ
  pub slots : List ℕ
  pub area : List ℕ
  pub reply : List ℕ

-- what the call on numbers leaves, as a C host sees it: a refusal writes the reply alone
unfoldable pub read_call : List ℕ → Read → ReadCall
unfolding numbers_bytes reply_of
read_call slots r =
    record {
      returned = r.answer.number;
      slots = if eqb r.answer.number 0 then numbers_bytes r.slots else slots;
      area = r.area;
      reply = reply_of r.answer;
    }

-- what a call leaves, with another reply
abbrev pub with_reply : List ℕ → ReadCall → ReadCall
with_reply reply c = record { returned = c.returned; slots = c.slots; area = c.area; reply = reply }
