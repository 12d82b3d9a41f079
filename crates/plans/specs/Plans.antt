-- Layouts prepared once. A plan is a run of numbers, one for each field of a layout and nothing else; a host may hand
-- in any numbers, and each is checked whenever the plan is used. THE EFFECTS OF THE CALLS are `prepare`, `pack_plan` and
-- `read_plan`, at the end.
use Rattle.std.specs.Prelude.{ℕ, suc, ◌/◌, ◌%◌, Bool, true, false, ◌&&◌, not, List, [], ◌∷◌, ◌++◌, map, length, drop, eqb, leb, if◌then◌else◌}
use Rattle.layout.specs.declared.Field.{Field}
use Rattle.layout.specs.declared.Refusal.TheVariants.{BadSize, BadType, BadCount, BadMove, NoRoom}
use Rattle.layout.specs.Refusals.{Result, ok, refused, ◌>>=◌, demand}
use Rattle.layout.specs.Layout.{max_layout, in_limit, has_meaning, fields_of, slot_count}
use Rattle.layout.specs.Codes.{last_data, skip_number, last_type, flag_unit, count_unit, count_from, field_of, code_for}
use Rattle.record.specs.declared.Answer.{Answer}
use Rattle.record.specs.Packing.{accepted, refusal, Packed, pack_fields}
use Rattle.record.specs.Reading.{ReadAll, read_fields}

-- ---- the fields of a plan

-- the number that no type character has: 7 would be the big-endian integer of one byte, and `c` has 6
abbrev pub spare_number : ℕ
spare_number = 7

-- some type character has the number d
abbrev pub is_type : ℕ → Bool
is_type d = if leb d last_data then not (eqb d spare_number) else (leb skip_number d && leb d last_type)

-- what number i of a plan stands for: a field, or the first of the refusals 2, 3 and 4, with i as its place
unfoldable pub planned_field : Bool → ℕ → ℕ → Result Field
unfolding field_of
planned_field packing i w = do
  _ ← demand (is_type (w % flag_unit)) BadType i
  _ ← demand (in_limit (count_from (w / count_unit))) BadCount i
  _ ← demand (has_meaning packing (field_of w).role (field_of w).count) BadMove i
  ok (field_of w)

-- the fields of the numbers from number i on
unfoldable pub planned_from : Bool → ℕ → List ℕ → Result (List Field)
unfolding planned_field
planned_from packing i [] = ok []
planned_from packing i (w ∷ ws) =
    planned_field packing i w >>= (λ f. planned_from packing (suc i) ws >>= (λ fs. ok (f ∷ fs)))

-- THE FIELDS OF A PLAN, for packing (true) or reading (false), or the first refusal
unfoldable pub plan_fields : Bool → List ℕ → Result (List Field)
unfolding planned_from
plan_fields packing plan = planned_from packing 0 plan

-- ---- a layout prepared

-- the plan of fields: their codes
abbrev pub plan_of : List Field → List ℕ
plan_of fs = map code_for fs

-- the fields of a layout, judged as reading judges them, or the first refusal; last where a run of `room` numbers is
-- too short for them
unfoldable pub prepares : List ℕ → ℕ → Result (List Field)
unfolding fields_of
prepares layout room = do
  _ ← demand (leb (length layout) max_layout) BadSize 0
  fs ← fields_of false layout
  _ ← demand (leb (length fs) room) NoRoom 0
  ok fs

-- all that a call leaves: its answer and the run for the plan
pub record Planned : Type 0 where
  pub answer : Answer
  pub plan : List ℕ

-- the plan at the front of the run, whose other numbers stay, with how many there are and how many slots they take; a
-- refusal changes nothing
abbrev pub prepare_effect : List ℕ → Result (List Field) → Planned
prepare_effect run (ok fs) =
    record { answer = accepted (length fs) (slot_count fs); plan = plan_of fs ++ drop (length fs) run }
prepare_effect run (refused why place) = record { answer = refusal why place; plan = run }

unfoldable pub prepare : List ℕ → List ℕ → Planned
unfolding prepares code_for slot_count
prepare layout run = prepare_effect run (prepares layout (length run))

-- ---- packing and reading by a plan: as by a layout, with the fields of the plan

unfoldable pub pack_plan : List ℕ → List ℕ → List ℕ → List ℕ → Packed
unfolding pack_fields plan_fields
pack_plan plan slots area output = pack_fields (length plan) (plan_fields true plan) slots area output

unfoldable pub read_plan : List ℕ → List ℕ → List ℕ → List ℕ → ℕ → ReadAll
unfolding read_fields plan_fields
read_plan plan bs slots area mark = read_fields (length plan) (plan_fields false plan) bs slots area mark
