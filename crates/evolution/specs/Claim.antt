-- Demand 3 (document 01, "What demand 3 reads back"): one claim about both packings and every reading. THE THEOREM is
-- `Demand3`, at the end. Each definition names the part of that section that it states. The proof is in
-- proofs/ReadsBack.antt.
use Rattle.std.specs.Prelude.{ℕ, suc, ◌+◌, ◌*◌, ◌%◌, ◌^◌, ◌≤◌, ◌<◌, ◌≡◌, Bool, true, false, ◌&&◌, List, [], ◌∷◌, ◌++◌, map, length, get_or, take, drop, replicate, T, leb, eqb, if◌then◌else◌}
use Rattle.layout.specs.declared.Role.TheVariants.{Data, Move}
use Rattle.layout.specs.declared.Shape.{Shape}
use Rattle.layout.specs.declared.Shape.TheVariants.{Text, Digits, Integers, Reals}
use Rattle.layout.specs.declared.Field.{Field}
use Rattle.layout.specs.Refusals.{ok}
use Rattle.layout.specs.Layout.{fields_of, slot_count, real_size}
use Rattle.record.specs.Bytes.{fit}
use Rattle.record.specs.Table.{string, real, integer_kind, slots_of, Value, shown, slot_width, no_position, value_bytes}
use Rattle.record.specs.Slots.{slot_at}
use Rattle.record.specs.Geometry.{amount, sizes_fit}
use Rattle.record.specs.Packing.{patterns, stored, Filled, filled, arguments_fit, accepted, Packed, pack}
use Rattle.record.specs.Reading.{trimmed, widened, doubles, Read, put_into, read, read_steps}
use Rattle.runs.specs.Ends.{plain_role, plain_count, fills, end_of, record_of}

-- ---- a plain layout: no star, no `X`, no `@`, no count of 0

unfoldable pub plain : List Field → Bool
plain [] = true
plain (f ∷ fs) = plain_role f.role && plain_count f.count && plain fs

-- ---- the bytes of a record

-- Those of its fields, one after the other: of a field that takes a slot what is stored of its argument's items, of an
-- `x` as many zeros as it fills (01, Packing).
unfoldable pub record_bytes : List Filled → List ℕ
unfolding fills stored
record_bytes [] = []
record_bytes (a ∷ rest) =
    let later = record_bytes rest in
    elim a.field.role [
      | Data s ↦ stored s (amount a.field.count 0) a.items ++ later
      | Move m ↦ replicate (fills (Move m) a.field.count) 0 ++ later
    ]

-- ---- what comes back of an argument's items xs, in a field of n items

-- a hex digit as a reading shows it: its small letter
unfoldable pub lowered : ℕ → ℕ
lowered c = if leb 65 c && leb c 70 then c + 32 else c

unfoldable pub read_back : Shape → Bool → ℕ → List ℕ → Value
unfolding lowered trimmed widened fit
-- text: brought to n bytes by its pad; of `A` the blanks at its end are not part of the value
read_back (Text pad) u n xs =
    record { kind = string; items = if eqb pad 32 then trimmed (fit n pad xs) else fit n pad xs }
-- digits: brought to n by zeros; text and digits are kind 1
read_back (Digits hex high) u n xs = record { kind = string; items = map lowered (fit n 48 xs) }
-- integers: n of them, each cut to the bits of its type and read again with its sign (kind 2), or with `u` without one
-- (kind 3)
read_back (Integers w big) u n xs =
    record { kind = integer_kind u; items = map (λ x. widened w u (x % 256 ^ w)) (take n xs) }
-- reals (02, M-108): n of them, of `r R` each as the double of its nearest single, of `q Q` as it is; kind 4 with `u`
-- too. (Every single is below 256 ^ 4 and every double below 256 ^ 8, so cutting them to their bits changes none:
-- proofs/Reals.antt.)
read_back (Reals single big) u n xs =
    record { kind = real; items = doubles single (map (λ x. x % 256 ^ real_size single) (patterns single (take n xs))) }

-- the values of all fields that take a slot, in their order: the first slot is due to the first of them, and so on
unfoldable pub all_back : List Filled → List Value
unfolding read_back
all_back [] = []
all_back (a ∷ rest) =
    let later = all_back rest in
    elim a.field.role [
      | Data s ↦ read_back s a.field.unsigned (amount a.field.count 0) a.items ∷ later
      | Move m ↦ later
    ]

-- ---- what a reading of a cut record sets

-- The values of exactly the fields that take a slot and end at or before the cut; `before` is the end of the fields
-- before. An `x` has no value, wherever the cut is.
unfoldable pub set_by : ℕ → ℕ → List Filled → List Value
unfolding fills read_back
set_by cut before [] = []
set_by cut before (a ∷ rest) =
    let end = before + fills a.field.role a.field.count in
    let later = set_by cut end rest in
    elim a.field.role [
      | Data s ↦
          if leb end cut
          then read_back s a.field.unsigned (amount a.field.count 0) a.items ∷ later
          else later
      | Move m ↦ later
    ]

-- ---- where fields begin

-- for each field that takes a slot the end of the fields before (02, M-110)
unfoldable pub starts_from : ℕ → List Field → List ℕ
unfolding fills
starts_from before [] = []
starts_from before (f ∷ fs) =
    let later = starts_from (before + fills f.role f.count) fs in
    elim f.role [
      | Data s ↦ before ∷ later
      | Move m ↦ later
    ]

-- ---- the steps of a reading of a cut record

-- All fields up to the first value field that ends past the cut, and that one, which comes up short (02, M-112).
-- `before` is the end of the fields before. An `x` is carried out wherever it ends; after one that ends past the cut
-- the next value field is short.
unfoldable pub carried_out : ℕ → ℕ → List Field → ℕ
unfolding fills
carried_out cut before [] = 0
carried_out cut before (f ∷ fs) =
    let end = before + fills f.role f.count in
    let on = suc (carried_out cut end fs) in
    elim f.role [
      | Data s ↦ if leb end cut then on else 1
      | Move m ↦ on
    ]

-- ---- the premises

-- An old layout, a new one with fields added at its end, the arguments and the buffers of the two packings.
pub record Layouts : Type 0 where
  pub old : List ℕ
  pub new : List ℕ
  pub fields : List Field
  pub added : List Field
  -- one table of arguments serves both packings: it is the new layout's, and the old layout uses the first of them
  pub slots : List ℕ
  pub area : List ℕ
  pub old_output : List ℕ
  pub new_output : List ℕ
  -- what is added is added as fields, whatever the texts: fields that agree in type, flag and count are the same
  pub old-fields : fields_of true old ≡ ok fields
  pub new-fields : fields_of true new ≡ ok (fields ++ added)
  pub is_plain : T (plain (fields ++ added))
  -- the arguments are such as the packer takes for the new layout: a slot for each field (no number 5), and each serves
  -- its field (no number 6 to 10, nor 16)
  pub slot-for-each : length (slots_of slots) ≡ slot_count (fields ++ added)
  pub served : arguments_fit area 0 (slots_of slots) (fields ++ added) ≡ ok tt
  -- both packings keep to the sizes (no number 1), and their results have room (no number 11)
  pub new-sizes : T (sizes_fit new slots new_output area)
  pub old-sizes : T (sizes_fit old (take (slot_width * slot_count fields) slots) old_output area)
  pub new-room : end_of (fields ++ added) ≤ length new_output
  pub old-room : end_of fields ≤ length old_output

-- Which of the two layouts, packings or records is meant: `true` is the new one, `false` the old one.

abbrev pub text_of : Layouts → Bool → List ℕ
text_of l true = l.new
text_of l false = l.old

abbrev pub fields_by : Layouts → Bool → List Field
fields_by l true = l.fields ++ l.added
fields_by l false = l.fields

abbrev pub slots_by : Layouts → Bool → List ℕ
slots_by l true = l.slots
slots_by l false = take (slot_width * slot_count l.fields) l.slots

abbrev pub output_by : Layouts → Bool → List ℕ
output_by l true = l.new_output
output_by l false = l.old_output

-- the fields with their arguments
abbrev pub arguments_by : Layouts → Bool → List Filled
arguments_by l which = filled l.area (slots_of l.slots) (fields_by l which)

-- the packing, and the record that it makes
abbrev pub packed_by : Layouts → Bool → Packed
packed_by l which = pack (text_of l which) (slots_by l which) l.area (output_by l which)

abbrev pub record_by : Layouts → Bool → List ℕ
record_by l which = record_of (packed_by l which)

-- ALL THAT A PACKING LEAVES: its answer is 0, the end of the last field and 0; the fields' bytes are at the front of
-- its buffer, whose other bytes stay
abbrev pub packed_whole : Layouts → Bool → Packed
packed_whole l which =
    record {
      answer = accepted (end_of (fields_by l which)) 0;
      output = record_bytes (arguments_by l which) ++ drop (end_of (fields_by l which)) (output_by l which);
    }

-- a record cut at k: its first k bytes
abbrev pub cut_record : Layouts → Bool → ℕ → List ℕ
cut_record l which k = take k (record_by l which)

-- the values due to a reading by a layout of a record that is cut at k
abbrev pub due : Layouts → Bool → ℕ → List Value
due l layout k = set_by k 0 (arguments_by l layout)

-- where the fields begin, those of the old layout first
abbrev pub starts : Layouts → List ℕ
starts l = starts_from 0 (l.fields ++ l.added)

-- ---- the claim

-- A reading by either layout of either record: k is the cut, and the record's length where it is not cut. Slots and
-- area may hold anything before; what is asked is that they, and the mark, keep to the sizes (no number 1), that there
-- is a slot for each field of the layout (no number 5), and that the values due have room after the mark (no number
-- 11). Room is asked for no other value, so the claim covers more readings.
pub record Reading (l : Layouts) (packing layout : Bool) (k : ℕ) (slots area : List ℕ) (mark : ℕ) : Type 0 where
  pub within : k ≤ length (record_by l packing)
  pub sizes : T (sizes_fit (text_of l layout) slots (cut_record l packing k) area && leb mark (length area))
  pub enough-slots : slot_count (fields_by l layout) ≤ length (slots_of slots)
  pub room : mark + length (value_bytes (due l layout k)) ≤ length area

-- What values leave as lent that are put into the first n slots and, with `bytes` bytes, into the area from the mark
-- on.
pub record AsLent (slots area : List ℕ) (mark n bytes : ℕ) (after : Read) : Type 0 where
  -- every slot after the first n
  pub slots-after : drop (slot_width * n) after.slots ≡ drop (slot_width * n) slots
  -- every byte of the area outside the values
  pub area-before : take mark after.area ≡ take mark area
  pub area-after : drop (mark + bytes) after.area ≡ drop (mark + bytes) area

-- A reading set the values of the old layout's fields, all of them, and nothing else.
pub record OwnFields (l : Layouts) (slots area : List ℕ) (mark : ℕ) (after : Read) : Type 0 where
  -- answer, table and area are those of the values of the old layout's fields
  pub values : after ≡ put_into slots area mark (starts l) (all_back (arguments_by l false))
  -- there is a value for each of the old layout's fields that takes a slot; so the slots of added fields stay
  pub count : length (all_back (arguments_by l false)) ≡ slot_count l.fields
  pub others : AsLent slots area mark (slot_count l.fields) (length (value_bytes (all_back (arguments_by l false))))
      after

-- a reading of a record that is not cut
abbrev pub Whole : Layouts → Bool → Bool → List ℕ → List ℕ → ℕ → Type 0
Whole l packing layout slots area mark = Reading l packing layout (length (record_by l packing)) slots area mark

pub record ReadsBack (l : Layouts) : Type 0 where
  -- both packings are accepted, with every byte of their records and of their buffers
  pub packings : (which : Bool) → packed_by l which ≡ packed_whole l which
  -- a record has the fields' bytes and no others, as many as the end of the last field says
  pub records : (which : Bool) → record_by l which ≡ record_bytes (arguments_by l which)
  pub ends : (which : Bool) → length (record_by l which) ≡ end_of (fields_by l which)
  -- the old record is the front of the new one
  pub front : record_by l false ≡ take (end_of l.fields) (record_by l true)
  -- Every reading leaves what `put_into` says of the values due: its answer counts them and gives the place after the
  -- last one; slot by slot they have their kind, the place where the value before ended, their length and where their
  -- field begins, and there the area holds them. All other slots and bytes stay.
  pub readings :
      (packing layout : Bool) (k : ℕ) (slots area : List ℕ) (mark : ℕ) → Reading l packing layout k slots area mark
      → read (text_of l layout) (cut_record l packing k) slots area mark
      ≡ put_into slots area mark (starts l) (due l layout k)
  -- the count that a reading reports is the number of the values due, and all that they do not cover stays
  pub answers :
      (packing layout : Bool) (k : ℕ) (slots area : List ℕ) (mark : ℕ) → Reading l packing layout k slots area mark
      → (read (text_of l layout) (cut_record l packing k) slots area mark).answer
      ≡ accepted (length (due l layout k)) (mark + length (value_bytes (due l layout k)))
  pub others :
      (packing layout : Bool) (k : ℕ) (slots area : List ℕ) (mark : ℕ) → Reading l packing layout k slots area mark
      → AsLent slots area mark (length (due l layout k)) (length (value_bytes (due l layout k)))
      (read (text_of l layout) (cut_record l packing k) slots area mark)
  -- each set slot shows its value
  pub shows :
      (packing layout : Bool) (k : ℕ) (slots area : List ℕ) (mark : ℕ) → Reading l packing layout k slots area mark
      → let after = read (text_of l layout) (cut_record l packing k) slots area mark in
      map (shown after.area) (take (length (due l layout k)) (slots_of after.slots)) ≡ due l layout k
  -- In each set slot the position is the end of the fields before its own: the same whichever layout reads which
  -- record, wherever that is cut.
  pub positions :
      (packing layout : Bool) (k : ℕ) (slots area : List ℕ) (mark : ℕ) → Reading l packing layout k slots area mark
      → (i : ℕ) → i < length (due l layout k)
      → (slot_at (read (text_of l layout) (cut_record l packing k) slots area mark).slots i).position
      ≡ get_or (starts l) i no_position
  -- The values due are the first ones of the layout's fields, so each stands in the slot of its own field.
  pub in_order : (layout : Bool) (k : ℕ)
      → due l layout k ≡ take (length (due l layout k)) (all_back (arguments_by l layout))
  -- The fourth number of the answer: the steps.
  pub steps :
      (packing layout : Bool) (k : ℕ) (slots area : List ℕ) (mark : ℕ) → Reading l packing layout k slots area mark
      → read_steps (text_of l layout) (cut_record l packing k) slots area mark ≡ carried_out k 0 (fields_by l layout)
  -- The old layout reads from the whole new record its own fields and nothing else.
  pub old-reads-new :
      (slots area : List ℕ) (mark : ℕ) → Whole l true false slots area mark
      → OwnFields l slots area mark (read l.old (record_by l true) slots area mark)
  -- The new layout reads from the whole old record the values of the old layout's fields; the slots of the added fields
  -- stay as lent.
  pub new-reads-old :
      (slots area : List ℕ) (mark : ℕ) → Whole l false true slots area mark
      → OwnFields l slots area mark (read l.new (record_by l false) slots area mark)

-- DEMAND 3: `ReadsBack` holds for all layouts, arguments and buffers
abbrev pub Demand3 : Type 0
Demand3 = (l : Layouts) → ReadsBack l
