-- What the functions of packing and reading for a C host promise each other.
use Rattle.std.specs.Prelude.{ℕ, ◌*◌, ◌%◌, ◌≡◌, List, length, take, eqb, if◌then◌else◌}
use Rattle.record.specs.declared.Answer.{Answer}
use Rattle.record.specs.Table.{slot_width}
use Rattle.record.specs.Packing.{pack}
use Rattle.host.specs.Numbers.{number_size, numbers_in, numbers_bytes}
use Rattle.record.specs.Bytes.{store_at}
use Rattle.record.specs.Reading.{read_all}
use Rattle.host_record.specs.Reading.{steps_call}

-- `room` has as many numbers as the bytes of `slots` make, and these are whole slots
abbrev pub RoomFor : List ℕ → List ℕ → Type 0
RoomFor slots room = (length slots ≡ length room * number_size) × (length room % slot_width ≡ 0)

abbrev pub Packs : List ℕ → List ℕ → List ℕ → List ℕ → List ℕ → Answer → Type 0
Packs layout slots area out out' a =
    record { answer = a; output = out' }
    ≡ pack layout (numbers_in slots) area out

-- the slots once the answer a is given: an accepted reading sets the first of them to `numbers`
unfoldable pub written_back : List ℕ → List ℕ → Answer → List ℕ
unfolding numbers_bytes
written_back slots numbers a =
    if eqb a.number 0 then store_at slots 0 (numbers_bytes (take (a.first * slot_width) numbers)) else slots

abbrev pub Reads : List ℕ → List ℕ → List ℕ → List ℕ → List ℕ → List ℕ → ℕ → List ℕ → List ℕ → ℕ → Type 0
Reads layout bytes slots slots' area area' mark reply reply' r =
    record { returned = r; slots = slots'; area = area'; reply = reply' }
    ≡ steps_call slots (read_all layout bytes (numbers_in slots) area mark)
