-- The measuring pass: the arguments checked and the cursor moved, field by field; nothing is written.
use Rattle.std.specs.Prelude.{ℕ, ◌+◌, ◌*◌, ◌/◌, ◌≤◌, ◌<◌, ◌≡◌, List, [], ◌∷◌, length, drop}
use Rattle.layout.specs.declared.Role.{Role}
use Rattle.layout.specs.declared.Role.TheVariants.{Data, Move}
use Rattle.layout.specs.declared.Count.{Count}
use Rattle.layout.specs.declared.Field.{Field}
use Rattle.std.specs.declared.result.Result as Std
use Rattle.std.specs.declared.result.Result.TheVariants.{Ok, Err}
use Rattle.layout.specs.declared.Refused.{Refused}
use Rattle.layout.specs.Refusals.{Result, ok, refused, ◌>>=◌}
use Rattle.layout.specs.inside.Parsing.{decoded, FitRole, FitCount}
use Rattle.layout.specs.Layout.{slots_taken, max_layout, slot_count, takes_slot, to_nat}
use Rattle.record.specs.declared.Cursor.{Cursor}
use Rattle.record.specs.declared.slots.Slot.{Slot}
use Rattle.record.specs.Table.{slot_width, max_slots}
use Rattle.record.specs.Geometry.{amount, bytes_for}
use Rattle.record.specs.inside.Cursor.{past, moved}
use Rattle.record.specs.Packing.{argument_fits, next_slot}

-- the cursor past one field, whose argument has `have` items
abbrev pub advance : Cursor → Role → Count → ℕ → Cursor
advance c (Data s) n have = past c (bytes_for s (amount n have))
advance c (Move m) n have = moved c m n

-- one field: the check of slot number k, which is t, and the cursor after the field
unfoldable pub field_checked : List ℕ → ℕ → Slot → Cursor → Role → Count → Result Cursor
unfolding argument_fits
field_checked area k t c (Data s) n = argument_fits area s n k t >>= (λ _. ok (advance c (Data s) n t.len))
field_checked area k t c (Move m) n = ok (advance c (Move m) n 0)

-- all fields, each with its slot, from number k on: the checks, and the cursor after the last field
unfoldable pub arguments_checked : List ℕ → ℕ → List Slot → List Field → Cursor → Result Cursor
unfolding field_checked
arguments_checked area k ts [] c = ok c
arguments_checked area k ts (f ∷ fs) c =
    field_checked area k (next_slot ts) c f.role f.count >>= arguments_checked area (k + slots_taken f)
    (drop (slots_taken f) ts) fs

-- a cursor is reached, and the result has room in `size` bytes
abbrev pub HasRoom : Result Cursor → ℕ → Type 0
HasRoom (ok c) size = c.end ≤ size
HasRoom (refused why place) size = ⊥

-- ---- what the code relies on

-- there is a slot for each field of the codes that takes one (number 5 is not given)
pub record Prepared (ws ns : List ℕ) : Type 0 where
  pub room : length ws ≤ max_layout
  pub slots : slot_count (decoded (length ws) ws) ≡ length ns / slot_width
  pub limit : length ns ≤ slot_width * max_slots

-- one field can be taken: its slot is there, and the cursor is far from wrapping
pub record StepReady (ns : List ℕ) (k : ℕ) (c : Cursor) (role : Role) (n : Count) : Type 0 where
  pub role_fits : FitRole role
  pub count_fits : FitCount n
  pub slot : slot_width * (k + to_nat (takes_slot role)) ≤ length ns
  pub near : c.at < 1152921504606846976

-- ---- the code's answers

abbrev pub measured_of : Result Cursor → Std.Result ℕ Refused
measured_of (ok c) = Ok c.end
measured_of (refused why place) = Err (record { why = why; place = place })

-- the slot number of a refusal is one of a table, so it fits the answer; a length is bounded where the output is lent
abbrev pub PlaceFits : Std.Result ℕ Refused → Type 0
PlaceFits (Ok n) = Unit {0}
PlaceFits (Err e) = e.place ≤ max_slots

pub record Measures (o : Result Cursor) (r : Std.Result ℕ Refused) : Type 0 where
  pub same : r ≡ measured_of o
  pub small : PlaceFits r
