-- Reading loses nothing (02, M-107): one claim about a layout and every record that it fills.
-- Each part names the words of the request that it states. The proof is in proofs/LosesNothing.antt.
use Rattle.std.specs.Prelude.{ℕ, ◌+◌, ◌%◌, ◌≤◌, ◌≡◌, Bool, true, false, ◌&&◌, not, List, [], ◌∷◌, ◌++◌, map, length, drop, T, leb, ltb, eqb}
use Rattle.layout.specs.declared.Role.{Role}
use Rattle.layout.specs.declared.Role.TheVariants.{Data, Move}
use Rattle.layout.specs.declared.Shape.{Shape}
use Rattle.layout.specs.declared.Shape.TheVariants.{Text, Digits, Integers, Reals}
use Rattle.layout.specs.declared.Count.{Count}
use Rattle.layout.specs.declared.Field.{Field}
use Rattle.layout.specs.Refusals.{ok}
use Rattle.layout.specs.Layout.{fields_of, slot_count}
use Rattle.record.specs.Table.{slots_of, Value, shown, value_bytes}
use Rattle.record.specs.Geometry.{amount, sizes_fit}
use Rattle.record.specs.Packing.{accepted, Packed, pack}
use Rattle.record.specs.Reading.{values_from, positions_from, Read, put_into, read}
use Rattle.runs.specs.Ends.{plain_count, end_of}

-- ---- which layouts (02, M-107, the fields that it lists)

-- n items of a shape show every bit of the bytes that they fill; those of `A`, whose pad is a blank, do not
abbrev pub shows_all : Shape → ℕ → Bool
shows_all (Text pad) n = eqb pad 0  -- `a`
shows_all (Digits false high) n = eqb (n % 8) 0  -- `b B`
shows_all (Digits true high) n = eqb (n % 2) 0  -- `h H`
shows_all (Integers w big) n = true  -- `c s S i I w W`
shows_all (Reals single big) n = not single  -- `q Q` (02, M-108); of `r R` an infinity is shown but not stored

-- a field shows every bit of the bytes that it fills; `x X @` show nothing
abbrev pub lossless_role : Role → Count → Bool
lossless_role (Data s) n = shows_all s (amount n 0)
lossless_role (Move m) n = false

-- Each field shows all, and its count is absent or a number from 1 on. Digits without a count are one digit, which is
-- neither eight nor even. The flag `u` (02, M-101) may stand in any field: nothing here looks at it.
unfoldable pub lossless : List Field → Bool
lossless [] = true
lossless (f ∷ fs) = lossless_role f.role f.count && plain_count f.count && lossless fs

-- a lossless layout: its text and its fields
pub record Layout : Type 0 where
  pub text : List ℕ
  pub fields : List Field
  pub has-fields : fields_of true text ≡ ok fields
  pub is-lossless : T (lossless fields)

-- ---- which records (02, M-107, the length and the premise)

-- Every element is a byte. A call is lent nothing else, but here a record is a list of whole numbers, and 256 in a
-- field `c` would come back as 0, the lowest byte of the value that was read.
unfoldable pub are_bytes : List ℕ → Bool
are_bytes [] = true
are_bytes (b ∷ bs) = ltb b 256 && are_bytes bs

-- A record of the layout; the table, area and mark that its reading is lent, and the buffer that the packing after it
-- is lent, whatever they hold.
pub record Archived (l : Layout) : Type 0 where
  pub bytes : List ℕ
  pub slots : List ℕ
  pub area : List ℕ
  pub mark : ℕ
  pub output : List ℕ
  pub are-bytes : T (are_bytes bytes)
  -- the fields fill just these bytes
  pub is-full : length bytes ≡ end_of l.fields
  -- as many slots are lent as the layout has fields
  pub slot-for-each : length (slots_of slots) ≡ slot_count l.fields
  -- room for the values in the area after the mark, and for the record in the buffer
  pub area-room : mark + length (value_bytes (values_from bytes 0 l.fields)) ≤ length area
  pub output-room : length bytes ≤ length output
  -- number 1 applies to neither call; the packing is lent what the reading leaves, which has the sizes of what that was
  -- lent
  pub read-sizes : T (sizes_fit l.text slots bytes area && leb mark (length area))
  pub pack-sizes : T (sizes_fit l.text slots output area)

-- ---- the two calls (02, M-107, what is read and packed)

abbrev pub reading_of : (l : Layout) → Archived l → Read
reading_of l r = read l.text r.bytes r.slots r.area r.mark

-- the packing, by the same layout, of the slots and the area that the reading leaves
abbrev pub packing_of : (l : Layout) → Archived l → Packed
packing_of l r = pack l.text (reading_of l r).slots (reading_of l r).area r.output

-- what the slots show, kind and items, wherever in the area they stand
abbrev pub shown_by : (l : Layout) → Archived l → List Value
shown_by l r = map (shown (reading_of l r).area) (slots_of (reading_of l r).slots)

-- ---- the claim

pub record LosesNothing (l : Layout) : Type 0 where
  -- the reading puts the values of all fields into the table and the area
  pub reads : (r : Archived l)
      → reading_of l r
      ≡ put_into r.slots r.area r.mark (positions_from (length r.bytes) 0 l.fields)
      (values_from r.bytes 0 l.fields)
  -- the reading sets every slot
  pub sets-all :
      (r : Archived l)
      → (reading_of l r).answer
      ≡ accepted (slot_count l.fields) (r.mark + length (value_bytes (values_from r.bytes 0 l.fields)))
  -- packing the values again answers the record's length and stores the record, byte for byte; bytes of the buffer past
  -- it stay
  pub gives_back :
      (r : Archived l) → packing_of l r
      ≡ record { answer = accepted (length r.bytes) 0; output = r.bytes ++ drop (length r.bytes) r.output }
  -- two records of the layout that show the same values are the same bytes, whatever else their readings were lent
  pub tells-apart : (r s : Archived l) → shown_by l r ≡ shown_by l s → r.bytes ≡ s.bytes
