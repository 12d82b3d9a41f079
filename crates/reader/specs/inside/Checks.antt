-- The checks of a reading, before anything is written: THE EFFECT OF A CALL of `check`.
use Rattle.std.specs.Prelude.{ℕ, ◌/◌, false, List, ltb, if◌then◌else◌}
use Rattle.std.specs.declared.result.Result as Std
use Rattle.std.specs.declared.result.Result.TheVariants.{Ok, Err}
use Rattle.layout.specs.declared.Field.{Field}
use Rattle.layout.specs.declared.Refused.{Refused}
use Rattle.layout.specs.declared.Refusal.TheVariants.{BadSlots, NoRoom}
use Rattle.layout.specs.Refusals.{Result, ok, refused, ◌>>=◌}
use Rattle.layout.specs.Layout.{fields_of, slot_count}
use Rattle.record.specs.declared.Answer.{Answer}
use Rattle.record.specs.Table.{slot_width}
use Rattle.record.specs.Packing.{accepted, refusal}
use Rattle.record.specs.Reading.{reads}

-- the answer: a refusal of the reading, or 0, the fields that take a slot, 0
abbrev pub check_answer : Result (List Field) → Answer
check_answer (ok fs) = accepted (slot_count fs) 0
check_answer (refused why place) = refusal why place

unfoldable pub read_checked : List ℕ → List ℕ → List ℕ → List ℕ → ℕ → Answer
unfolding reads fields_of slot_count
read_checked layout bs slots area mark = check_answer (reads layout bs slots area mark >>= (λ _. fields_of false layout))

-- numbers 5 and 11, where `slots` numbers of slots and `room` bytes of the area are lent, for fields of which `taken`
-- take a slot and whose values have `size` bytes
unfoldable pub fitting : ℕ → ℕ → ℕ → ℕ → Std.Result (Unit {0}) Refused
fitting slots taken room size =
    if ltb (slots / slot_width) taken then Err (record { why = BadSlots; place = 0 })
    else if ltb room size then Err (record { why = NoRoom; place = 0 })
    else Ok (tt {0})
