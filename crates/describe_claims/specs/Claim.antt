-- What the rows of a layout's fields say: of its text (document 01, Layout text), of the packings by it (01, Packing),
-- of what `described` answers, and of the positions that a reading gives (02, M-110; 01, demand 3). THE THEOREM is
-- `Fields`, at the end. The proof is in proofs/Claims.antt.
use Rattle.std.specs.Prelude.{ℕ, zero, suc, ◌+◌, ◌*◌, ◌≤◌, max, ◌≡◌, true, false, ◌&&◌, List, [], ◌∷◌, ◌++◌, map, ◌⊎◌, length, take, replicate, T, eqb, ltb, if◌then◌else◌}
use Rattle.layout.specs.declared.Field.{Field}
use Rattle.layout.specs.Refusals.{ok}
use Rattle.layout.specs.Layout.{max_layout, fields_of, slot_count}
use Rattle.record.specs.Bytes.{join, big_endian_in}
use Rattle.record.specs.Table.{slots_of}
use Rattle.record.specs.Geometry.{amount}
use Rattle.record.specs.Packing.{Run, start, pack_one, Filled, filled}
use Rattle.record.specs.Reading.{positions_from}
use Rattle.runs.specs.Ends.{plain_role, end_of}
use Rattle.runs.specs.OneRun.{run}
use Rattle.describe.specs.Description.{layout_reach, fewest, described}
use Rattle.describe.specs.Claim.{starless, Packing}
use Rattle.evolution.specs.Claim.{plain, starts_from, Layouts, starts}
use Rattle.describe.specs.Placed.{Placed, fields_in, placed_fields}
use Rattle.describe.specs.Places.{MadeOf}
use Rattle.describe.specs.declared.fields.Row.{Row}
use Rattle.describe.specs.Rows.{none, star, rows_of, number_size, row_size, row_numbers, row_bytes, list_effect, listed}

-- each of two statements follows from the other
infixr 5 ◌⇔◌
abbrev pub ◌⇔◌ : Type 0 → Type 0 → Type 0
A ⇔ B = (A → B) × (B → A)

-- ---- the layouts that the call takes

-- a layout that keeps to its limit and that reading reads: its fields with their places
pub record Taken (layout : List ℕ) : Type 0 where
  pub placed : List Placed
  pub short : length layout ≤ max_layout
  pub has-fields : placed_fields false layout ≡ ok placed

abbrev pub fields_taken : {layout : List ℕ} → Taken layout → List Field
fields_taken a = fields_in a.placed

abbrev pub rows_by : {layout : List ℕ} → Taken layout → List Row
rows_by a = rows_of a.placed

-- packing reads the layout too: it has no `x*`
abbrev pub PackedToo : {layout : List ℕ} → Taken layout → Type 0
PackedToo {layout} a = fields_of true layout ≡ ok (fields_taken a)

-- ---- the rows of the fields that take a slot

unfoldable pub takers : List Row → List Row
takers [] = []
takers (r ∷ rs) = if eqb r.slot none then takers rs else (r ∷ takers rs)

abbrev pub slots_shown : List Row → List ℕ
slots_shown rs = map (λ r. r.slot) (takers rs)

abbrev pub positions : List Row → List ℕ
positions rs = map (λ r. r.position) (takers rs)

-- n numbers from k on
unfoldable pub count_up : ℕ → ℕ → List ℕ
count_up k zero = []
count_up k (suc n) = k ∷ count_up (suc k) n

-- ---- packing

-- In front of a field the run of a packing stands where the field's row says, or the position is open. After a value or
-- an `x` it has come further by the bytes that the row says, or those are open.
pub record Met (r : Run) (f : Filled) (row : Row) : Type 0 where
  pub position : (row.position ≡ none) ⊎ (row.position ≡ r.at)
  pub bytes : T (plain_role f.field.role)
      → (row.bytes ≡ none) ⊎ ((pack_one r f.field.role f.field.count f.items).at ≡ r.at + row.bytes)

-- every field of a packing meets its row, where the run stands at r in front of the first
abbrev pub AllMet : Run → List Filled → List Row → Type 0
AllMet r [] [] = Unit {0}
AllMet r [] (row ∷ rows) = ⊥
AllMet r (f ∷ fs) [] = ⊥
AllMet r (f ∷ fs) (row ∷ rows) = Met r f row × AllMet (pack_one r f.field.role f.field.count f.items) fs rows

-- ---- what is open

-- a field with as many items as its count asks for, and `many` where it is starred; the digit 0 (48) serves every type,
-- as in `fewest`
abbrev pub having : ℕ → Field → Filled
having many f = record { field = f; items = replicate (amount f.count many) 48 }

-- The position of a row is open just where starred values decide it: where the run with all of them empty stands
-- elsewhere than the run with `many` items in each.
abbrev pub Decided : ℕ → Run → Run → List Field → List Row → Type 0
Decided many r q [] [] = Unit {0}
Decided many r q [] (row ∷ rows) = ⊥
Decided many r q (f ∷ fs) [] = ⊥
Decided many r q (f ∷ fs) (row ∷ rows) =
    ((row.position ≡ none) ⇔ (r.at ≡ q.at → ⊥))
    × Decided many (pack_one r f.role f.count (fewest f).items)
    (pack_one q f.role f.count (having many f).items) fs rows

-- a number of items that fill more bytes than all other fields of a layout
abbrev pub many_items : ℕ
many_items = 8 * (2 * layout_reach + 1)

-- ---- the length of a record

-- how far a field reaches: an `@` (byte 64) with a count to that position, every other field to the end of the bytes
-- that it fills
abbrev pub reach : Row → ℕ
reach r = if eqb r.letter 64 && ltb r.count star then r.count else (r.position + r.bytes)

unfoldable pub furthest : List Row → ℕ
furthest [] = 0
furthest (r ∷ rs) = max (reach r) (furthest rs)

-- ---- the claim

pub record Says (layout : List ℕ) (a : Taken layout) : Type 0 where
  -- the call answers the rows of the fields wherever there is room
  pub answers :
      (output : List ℕ) → length (rows_by a) * row_size ≤ length output
      → listed layout output ≡ list_effect output (ok (rows_by a))
  -- the bytes of the rows are those of just their numbers: none is cut
  pub numbers : (rest : List ℕ)
      → big_endian_in number_size (length (rows_by a) * 8) (row_bytes (rows_by a) ++ rest) ≡ join (map row_numbers (rows_by a))
  -- without their places the fields are those that reading reads, and the text is made of them and of spaces
  pub fields : fields_of false layout ≡ ok (fields_taken a)
  pub made : MadeOf false layout 0 a.placed
  -- the slots are counted from 0 up, as many as the fields take
  pub slots : slots_shown (rows_by a) ≡ count_up 0 (slot_count (fields_taken a))
  -- every packing that is accepted meets the rows
  pub met : (p : Packing layout) → AllMet start (filled p.area (slots_of p.slots) (fields_taken a)) (rows_by a)
  -- no position is open that starred values do not decide
  pub decided : PackedToo a → (many : ℕ) → many_items ≤ many → Decided many start start (fields_taken a) (rows_by a)
  -- the description of the layout has as many slots as its fields take; and where no value is starred, as many bytes as
  -- the fields reach
  pub described-slots : PackedToo a → (described layout).first ≡ length (takers (rows_by a))
  pub described-length : PackedToo a → T (starless (fields_taken a)) → (described layout).second ≡ furthest (rows_by a)
  -- in a plain layout the positions are the ends of the fields before, as demand 3 has them
  pub begins : T (plain (fields_taken a)) → positions (rows_by a) ≡ starts_from 0 (fields_taken a)
  -- a reading by a plain layout gives the positions of the rows, of every record that is long enough (02, M-110)
  pub whole : T (plain (fields_taken a)) → (size : ℕ) → end_of (fields_taken a) ≤ size
      → positions_from size 0 (fields_taken a) ≡ positions (rows_by a)
  -- a reading by a plain layout gives of a shorter record the position of each value that it finds
  pub cut : T (plain (fields_taken a)) → (bs : List ℕ)
      → (run bs 0 (fields_taken a)).positions ≡ take (length (run bs 0 (fields_taken a)).values) (positions (rows_by a))

-- THE THEOREM: `Says` holds of every layout that the call takes
abbrev pub Fields : Type 0
Fields = (layout : List ℕ) (a : Taken layout) → Says layout a

-- the positions of the new layout's rows are those of every slot that a reading of demand 3 sets (crates/evolution,
-- `ReadsBack`)
abbrev pub Starts : Type 0
Starts = (l : Layouts) (a : Taken l.new) → positions (rows_by a) ≡ starts l
