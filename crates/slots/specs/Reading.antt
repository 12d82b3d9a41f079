-- Reading over a slice of slot records (01, Slot tables): THE EFFECT OF A CALL is `read_slots`.
use Rattle.std.specs.Prelude.{ℕ, ◌*◌, ◌≡◌, List, [], take, leb, if◌then◌else◌}
use Rattle.layout.specs.declared.Refusal.TheVariants.{BadSize}
use Rattle.layout.specs.Refusals.{refused}
use Rattle.record.specs.declared.ReadAnswer.{ReadAnswer}
use Rattle.record.specs.Table.{max_slots, slot_width}
use Rattle.record.specs.Reading.{read, read_steps, read_effect, ReadAll, with_steps, read_all}
use Rattle.slots.specs.declared.SlotRecord.{SlotRecord}
use Rattle.slots.specs.Slots.{slots_numbers, slots_from}

-- all that a call of the reader leaves: its answer, the slots and the area
pub record ReadSlots : Type 0 where
  pub answer : ReadAnswer
  pub slots : List SlotRecord
  pub area : List ℕ

-- what a call on numbers leaves, with the slots put together out of their numbers
abbrev pub with_slots : ReadAll → ReadSlots
with_slots e = record { answer = e.answer; slots = slots_from e.slots; area = e.area }

unfoldable pub read_slots : List ℕ → List ℕ → List SlotRecord → List ℕ → ℕ → ReadSlots
unfolding slots_numbers slots_from read read_steps
read_slots layout bs slots area mark = with_slots (read_all layout bs (slots_numbers slots) area mark)

-- ---- the steps of a call

-- the reading on the numbers of the first n slots; where these are more than a table may have, number 1
unfoldable pub read_first : List ℕ → List ℕ → List ℕ → ℕ → List ℕ → ℕ → ReadAll
unfolding read read_steps
read_first layout bs ns n area mark =
    if leb n max_slots then read_all layout bs (take (n * slot_width) ns) area mark
    else with_steps (read_effect (take (n * slot_width) ns) area mark [] (refused BadSize 0)) 0

-- the answer r, the numbers of the first n slots and the area are what the reader leaves
abbrev pub ReadsFirst : List ℕ → List ℕ → List ℕ → List ℕ → ℕ → List ℕ → List ℕ → ℕ → ReadAnswer → Type 0
ReadsFirst layout bytes numbers numbers' n area area' mark r =
    record { answer = r; slots = take (n * slot_width) numbers'; area = area' }
    ≡ read_first layout bytes numbers n area mark
