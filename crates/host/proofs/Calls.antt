-- What a C host sees of a call on numbers: its answer is the reply, and an accepted reading writes the bytes of the
-- slots that it set.
use Prim.Native.Nat.{ℕ, ◌*◌, ◌%◌, ◌<◌}
use mathlib.Core.Path.{◌≡◌}
use mathlib.Core.List.{List}
use borrow.Author.Tests.{eq-eqb, ne_eqb}
use lib.ListN.{length, take}
use Rattle.record.specs.declared.Answer.{Answer}
use Rattle.record.specs.Bytes.{store_at}
use Rattle.record.specs.Table.{slot_width}
use Rattle.record.specs.Packing.{Packed}
use Rattle.record.specs.Reading.{Read}
use Rattle.record.proofs.Bytes.{All}
use Rattle.record.proofs.Readings.{over}
use Rattle.host.specs.Numbers.{number_size, numbers_in, numbers_bytes}
use Rattle.host.proofs.numbers.NumberLaws.{bytes-stored}
use Rattle.host.specs.Host.{reply_of, pack_call, read_call}

module _ {a : Answer} {r : ℕ} {reply' : List ℕ} (q : (r ≡ a.number) × (reply' ≡ reply_of a)) where
  pub pack-replied : {out : List ℕ} {p : Packed} → record { answer = a; output = out } ≡ p → record { returned = r; output = out; reply = reply' } ≡ pack_call p
  unfolding pack_call
  pack-replied e = rw (← e, q.0, q.1)

  -- a reading over slots that held other numbers
  module _ (slots ns : List ℕ) {area : List ℕ} {x : Read} (lent : x ≡ over (numbers_in slots) (record { answer = a; slots = ns; area = area })) where
    -- a refusal leaves the slots
    pub read_left : (a.number ≡ 0 → ⊥) → record { returned = r; slots = slots; area = area; reply = reply' } ≡ read_call slots x
    unfolding read_call
    read_left h = rw (lent, ne_eqb a.number 0 h, q.0, q.1)

    -- and an accepted reading the bytes of those that it did not set
    pub read_set : {slots' : List ℕ} → a.number ≡ 0 → length slots % number_size ≡ 0 → All (λ b. b < 256) slots → slots' ≡ store_at slots 0 (numbers_bytes (take (a.first * slot_width) ns))
        → record { returned = r; slots = slots'; area = area; reply = reply' } ≡ read_call slots x
    unfolding read_call
    read_set h whole below s = rw (lent, eq-eqb a.number 0 h, bytes-stored slots (take (a.first * slot_width) ns) whole below, s, q.0, q.1)
