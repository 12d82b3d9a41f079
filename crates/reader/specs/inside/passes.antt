-- A reading by the fields of the codes: once the fields are known.
use Rattle.std.specs.Prelude.{ℕ, ◌-◌, ◌*◌, ◌/◌, ◌≤◌, ◌≡◌, Bool, ◌&&◌, ◌||◌, List, leb, length}
use Rattle.layout.specs.Layout.{max_layout, slot_count}
use Rattle.layout.specs.inside.Parsing.{decoded}
use Rattle.std.specs.declared.result.Result as Std
use Rattle.std.specs.declared.result.Result.TheVariants.{Ok, Err}
use Rattle.layout.specs.declared.Refused.{Refused}
use Rattle.record.specs.Packing.{refusal}
use Rattle.record.specs.declared.ReadAnswer.{ReadAnswer}
use Rattle.record.specs.Table.{slot_width, max_slots, max_record, max_area, value_bytes}
use Rattle.record.specs.Reading.{ReadAll}
use Rattle.reading.specs.inside.Run.{values_of}
use Rattle.reading.specs.inside.Bounds.{value_bound}
use Rattle.reading.specs.inside.Tables.{put_all}
use Rattle.reader.specs.inside.Sizes.{surely_fits}
use Rattle.reader.specs.inside.Checks.{fitting}

-- the first n codes hold the fields, of which `taken` take a slot, and what is lent keeps to its size
pub record ReadReady (n taken : ℕ) (codes bs slots area : List ℕ) (mark : ℕ) : Type 0 where
  pub few : n ≤ length codes
  pub room : length codes ≤ max_layout
  pub count : taken ≡ slot_count (decoded n codes)
  pub whole : length bs ≤ max_record
  pub table : length slots ≤ slot_width * max_slots
  pub limit : length area ≤ max_area
  pub start : mark ≤ length area

-- the values of the fields fit whatever a record of `bytes` bytes holds: by the lengths alone, or by the fields
unfoldable pub surely_read : ℕ → ℕ → List ℕ → ℕ → ℕ → ℕ → Bool
surely_read n taken codes bytes slots room =
    surely_fits n taken bytes slots room
    || (leb taken (slots / slot_width) && leb (value_bound bytes (decoded n codes)) room)

-- what a reading leaves: the values put in, as `all` has it, if they fit; and else all as lent
abbrev pub read_fitting : Std.Result (Unit {0}) Refused → ReadAll → List ℕ → List ℕ → ReadAll
read_fitting (Ok u) all slots area = all
read_fitting (Err e) all slots area =
    record { answer = record { answer = refusal e.why e.place; steps = 0 }; slots = slots; area = area }

unfoldable pub read_codes : ℕ → ℕ → List ℕ → List ℕ → List ℕ → List ℕ → ℕ → ReadAll
unfolding fitting
read_codes n taken codes bs slots area mark =
    read_fitting (fitting (length slots) taken (length area - mark) (length (value_bytes (values_of n codes bs))))
    (put_all n codes bs slots area mark) slots area

-- the answer r, the slots and the area are what a reading by the codes leaves
abbrev pub ReadsCodes : ℕ → ℕ → List ℕ → List ℕ → List ℕ → List ℕ → List ℕ → List ℕ → ℕ → ReadAnswer → Type 0
ReadsCodes n taken codes bytes slots slots' area area' mark r =
    record { answer = r; slots = slots'; area = area' }
    ≡ read_codes n taken codes bytes slots area mark
