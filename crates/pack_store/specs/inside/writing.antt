-- The writing pass: the fields put into the lent buffer one after the other.
use Rattle.std.specs.Prelude.{ℕ, ◌-◌, ◌≤◌, ◌≡◌, List, [], ◌∷◌, drop, length, replicate}
use Rattle.layout.specs.declared.Role.{Role}
use Rattle.layout.specs.declared.Role.TheVariants.{Data, Move}
use Rattle.layout.specs.declared.Motion.{Motion}
use Rattle.layout.specs.declared.Motion.TheVariants.{Skip, Back, Goto}
use Rattle.layout.specs.declared.Count.{Count}
use Rattle.layout.specs.declared.Field.{Field}
use Rattle.layout.specs.Codes.{field_of}
use Rattle.layout.specs.inside.Parsing.{decoded}
use Rattle.layout.specs.Layout.{slots_taken}
use Rattle.record.specs.declared.Cursor.{Cursor}
use Rattle.record.specs.Bytes.{store_at}
use Rattle.record.specs.declared.slots.Slot.{Slot}
use Rattle.record.specs.Table.{slots_of, shown, max_record}
use Rattle.record.specs.Geometry.{amount, goto_in}
use Rattle.record.specs.Packing.{stored, next_slot}
use Rattle.record.specs.Slots.{slot_at}
use Rattle.record.specs.inside.Cursor.{origin, moved}
use Rattle.pack_check.specs.inside.measuring.{advance, field_checked, arguments_checked, HasRoom, StepReady, Prepared}

-- `x` stores zeros; `@` past the highest position fills the gap with them
abbrev pub put_move : List ℕ → Cursor → Motion → Count → List ℕ
put_move out c Skip n = store_at out c.at (replicate (amount n 0) 0)
put_move out c Back n = out
put_move out c Goto n = store_at out c.end (replicate (goto_in c.end n - c.end) 0)

-- the buffer after one field, whose argument is the slot t
unfoldable pub put : List ℕ → Slot → List ℕ → Cursor → Role → Count → List ℕ
unfolding stored shown
put area t out c (Data s) n = store_at out c.at (stored s (amount n t.len) (shown area t).items)
put area t out c (Move m) n = put_move out c m n

-- the field of a code is put into the buffer, and r is the cursor after it
abbrev pub Puts : ℕ → List ℕ → Slot → Cursor → List ℕ → Cursor → List ℕ → Type 0
Puts code area t c out r out' =
    (r ≡ advance c (field_of code).role (field_of code).count t.len)
    × (out' ≡ put area t out c (field_of code).role (field_of code).count)

unfoldable pub written : List ℕ → List Slot → List Field → Cursor → List ℕ → List ℕ
unfolding put
written area ts [] c out = out
written area ts (f ∷ fs) c out =
    written area (drop (slots_taken f) ts) fs (advance c f.role f.count (next_slot ts).len)
    (put area (next_slot ts) out c f.role f.count)

-- ---- what the code relies on

-- a move has room in a buffer of `size` bytes
pub record Movable (c : Cursor) (m : Motion) (n : Count) (size : ℕ) : Type 0 where
  pub within : c.at ≤ c.end
  pub room : (moved c m n).end ≤ size

-- a field whose argument was checked has room in a buffer of `size` bytes
pub record Puttable (area ns : List ℕ) (k : ℕ) (c : Cursor) (role : Role) (n : Count) (size : ℕ) : Type 0 where
  pub ready : StepReady ns k c role n
  pub within : c.at ≤ c.end
  pub room : HasRoom (field_checked area k (slot_at ns k) c role n) size
  pub limit : size ≤ max_record

-- all fields of the codes have room in a buffer of `size` bytes
pub record Writable (area ws ns : List ℕ) (size : ℕ) : Type 0 where
  pub prepared : Prepared ws ns
  pub room : HasRoom (arguments_checked area 0 (slots_of ns) (decoded (length ws) ws) origin) size
  pub limit : size ≤ max_record
