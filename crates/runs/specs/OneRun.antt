-- A reading is one run over the fields (document 01, Reading; 02, M-110 and M-112): values, positions and steps are its
-- parts.
use Rattle.std.specs.Prelude.{ℕ, suc, ◌+◌, ◌-◌, ◌≡◌, false, ◌&&◌, List, [], ◌∷◌, length, take, leb, if◌then◌else◌}
use Rattle.layout.specs.declared.Role.TheVariants.{Data, Move}
use Rattle.layout.specs.declared.Field.{Field}
use Rattle.layout.specs.declared.Refusal.TheVariants.{BadSize, BadSlots, NoRoom}
use Rattle.layout.specs.Refusals.{Result, ok, refused, ◌>>=◌, demand}
use Rattle.layout.specs.Layout.{fields_of, slot_count}
use Rattle.record.specs.Table.{slots_of, Value, value_bytes}
use Rattle.record.specs.Geometry.{bytes_for, items_of, moved_in, sizes_fit}
use Rattle.record.specs.Packing.{refusal}
use Rattle.record.specs.Reading.{loaded, value_at, values_from, positions_from, steps_from, put_into, ReadAll, with_steps, read_all}

-- ---- the run

-- what a run finds: the values; for each of them the position at which its field began; and the fields that it went
-- through
pub record Found : Type 0 where
  pub values : List Value
  pub positions : List ℕ
  pub steps : ℕ

-- what it finds at its end: nothing
abbrev pub found_nothing : Found
found_nothing = record { values = []; positions = []; steps = 0 }

-- what it finds from a field on that has no value: one step, and what it finds after that (x)
abbrev pub found_step : Found → Found
found_step x = record { values = x.values; positions = x.positions; steps = suc x.steps }

-- what it finds from a field on that begins at `at` and has the value v: that value, one step, and what it finds after
-- that (x)
abbrev pub found_value : Value → ℕ → Found → Found
found_value v at x = record { values = v ∷ x.values; positions = at ∷ x.positions; steps = suc x.steps }

-- The run over the fields from the place `at` on. A field for which too few bytes are left is its last step.
unfoldable pub run : List ℕ → ℕ → List Field → Found
unfolding loaded
run bs at [] = found_nothing
run bs at (f ∷ fs) = elim f.role [
  | Data s ↦
      let left = length bs - at in
      let n = items_of s f.count left in
      let need = bytes_for s n in
      if leb need left
      then found_value (value_at bs at s f.unsigned n) at (run bs (at + need) fs)
      else found_step found_nothing
  | Move m ↦ found_step (run bs (moved_in (length bs) m f.count at) fs)
]

-- ---- the parts of the run

-- The three recursions of the reader's definition are the parts of the run. (`positions_from` goes on after a field
-- that comes up short, where there are no values: no slot takes those positions.)
pub record PartsOf (bs : List ℕ) (at : ℕ) (fs : List Field) : Type 0 where
  pub values : values_from bs at fs ≡ (run bs at fs).values
  pub positions : take (length (values_from bs at fs)) (positions_from (length bs) at fs) ≡ (run bs at fs).positions
  pub steps : steps_from (length bs) at fs ≡ (run bs at fs).steps
  -- a position for each value
  pub pairs : length (run bs at fs).positions ≡ length (run bs at fs).values

abbrev pub OneRun : Type 0
OneRun = (bs : List ℕ) (at : ℕ) (fs : List Field) → PartsOf bs at fs

-- ---- the call

-- what the run over a record finds, or the first refusal in 01's order
unfoldable pub finds : List ℕ → List ℕ → List ℕ → List ℕ → ℕ → Result Found
unfolding fields_of slots_of slot_count run value_bytes
finds layout bs slots area mark = do
  _ ← demand (sizes_fit layout slots bs area && leb mark (length area)) BadSize 0
  fs ← fields_of false layout
  _ ← demand (leb (slot_count fs) (length (slots_of slots))) BadSlots 0
  let x = run bs 0 fs
  _ ← demand (leb (mark + length (value_bytes x.values)) (length area)) NoRoom 0
  ok x

-- what is left where the run found x: the values, with their positions, in the table and the area, and the steps as the
-- fourth number; a refusal changes nothing and has no steps
abbrev pub left_by_run : List ℕ → List ℕ → ℕ → Result Found → ReadAll
left_by_run slots area mark (ok x) = with_steps (put_into slots area mark x.positions x.values) x.steps
left_by_run slots area mark (refused why place) =
    with_steps (record { answer = refusal why place; slots = slots; area = area }) 0

-- EVERY CALL OF THE READER is that of the one run
abbrev pub ReadsByRun : Type 0
ReadsByRun =
    (layout bs slots area : List ℕ) (mark : ℕ)
    → read_all layout bs slots area mark ≡ left_by_run slots area mark (finds layout bs slots area mark)
