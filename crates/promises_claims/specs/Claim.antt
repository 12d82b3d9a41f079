-- What the answers of `promises` and `extends` have to do with the three theorems: demand 3 (document 01), M-107 and
-- M-113 (02). Each answer says just what the theorem asks of a layout, no less and no more; so where it is given, the
-- theorem holds, and there is something of which it speaks. The proof is in proofs/Promises.antt, proofs/Extends.antt
-- and proofs/NotEmpty.antt.
use Rattle.std.specs.Prelude.{ℕ, suc, ◌+◌, ◌*◌, ◌≤◌, ◌<◌, ◌≡◌, Bool, true, List, [], ◌∷◌, ◌++◌, length, get_or, take, drop, T}
use Rattle.layout.specs.declared.Field.{Field}
use Rattle.layout.specs.Refusals.{ok}
use Rattle.layout.specs.Layout.{max_layout, field, step_of, fields_of, slot_count}
use Rattle.record.specs.Table.{max_slots, max_record, slots_of, slot_width}
use Rattle.record.specs.Geometry.{sizes_fit}
use Rattle.record.specs.Packing.{arguments_fit, pack}
use Rattle.runs.specs.Ends.{end_of, record_of}
use Rattle.evolution.specs.Claim.{plain, Layouts, record_by, Reading, ReadsBack}
use Rattle.lossless.specs.Claim.{lossless, Layout, are_bytes, Archived, LosesNothing}
use Rattle.joining.specs.Claim.{forward, join_templates, Gives}
use Rattle.promises.specs.Placed.{Placed, without_places, placed_fields}
use Rattle.promises.specs.Promises.{nowhere, same_field, told, promised, extended}

-- each of two statements follows from the other
infixr 5 ◌⇔◌
abbrev pub ◌⇔◌ : Type 0 → Type 0 → Type 0
A ⇔ B = (A → B) × (B → A)

-- ---- places

-- A field stands in a text at its place, which is `from` or after it: there the layout reader finds this very field,
-- with n bytes after its type character.
pub record StandsAt (text : List ℕ) (from : ℕ) (p : Placed) (n : ℕ) : Type 0 where
  pub after : from ≤ p.place
  pub inside : p.place < length text
  pub found : step_of true p.place (get_or text p.place 0) (drop (suc p.place) text) ≡ field p.what n

-- the fields stand in a text from the byte `from` on, each after the end of the one before it; so their places rise
abbrev pub Stand : List ℕ → ℕ → List Placed → Type 0
Stand text from [] = Unit {0}
Stand text from (p ∷ ps) = (n : ℕ) × StandsAt text from p n × Stand text (p.place + 1 + n) ps

pub record PlacesOf (text : List ℕ) : Type 0 where
  -- without their places the fields are those that the layout reader gives, and a refusal is the same
  pub fields : without_places (placed_fields text) ≡ fields_of true text
  pub stand : (ps : List Placed) → placed_fields text ≡ ok ps → Stand text 0 ps

-- ---- fields that are the same

-- the test holds of two fields just where they are equal
abbrev pub SameFields : Type 0
SameFields = (f g : Field) → (same_field f g ≡ true) ⇔ (f ≡ g)

-- ---- `promises`

-- a layout that keeps to its limit and that packing reads: its fields
pub record Accepted (layout : List ℕ) : Type 0 where
  pub fields : List Field
  pub short : length layout ≤ max_layout
  pub has-fields : fields_of true layout ≡ ok fields

-- a packing by a layout that was accepted
pub record Packing (layout area : List ℕ) : Type 0 where
  pub slots : List ℕ
  pub output : List ℕ
  pub accepted : (pack layout slots area output).answer.number ≡ 0

abbrev pub result_by : {layout area : List ℕ} → Packing layout area → List ℕ
result_by {layout} {area} p = record_of (pack layout p.slots area p.output)

-- the limits of the calls (01, Slot tables, sizes): no more slots than a table may have, an end within the longest
-- record
pub record Limited (fs : List Field) : Type 0 where
  pub slots : slot_count fs ≤ max_slots
  pub end : end_of fs ≤ max_record

-- what the call tells of a layout that may grow, and of one by which reading loses nothing
abbrev pub MayGrow : List ℕ → Type 0
MayGrow layout = ((promised layout).answer.number ≡ 0) × ((promised layout).answer.first ≡ nowhere)

abbrev pub KeepsAll : List ℕ → Type 0
KeepsAll layout = ((promised layout).answer.number ≡ 0) × ((promised layout).answer.second ≡ nowhere)

-- M-107 speaks of a layout: some record of it meets the premises
pub record Archivable (layout : List ℕ) : Type 0 where
  pub form : Layout
  pub is-text : form.text ≡ layout
  pub one : Archived form

-- every run of bytes that the fields of a layout fill meets the premises of M-107
abbrev pub EachRecord : Layout → Type 0
EachRecord l =
    (bs : List ℕ) → T (are_bytes bs) → length bs ≡ end_of l.fields → (r : Archived l) × (r.bytes ≡ bs)

pub record Promises (layout : List ℕ) : Type 0 where
  -- the call accepts the layouts that keep to their limit and that packing reads, and no others
  pub accepts : ((promised layout).answer.number ≡ 0) ⇔ Accepted layout
  -- the three numbers say whether the layout is one of which a theorem speaks: demand 3, M-107, M-113
  pub grows : (a : Accepted layout)
      → ((promised layout).answer.first ≡ nowhere) ⇔ (T (plain a.fields) × Limited a.fields)
  pub keeps : (a : Accepted layout)
      → ((promised layout).answer.second ≡ nowhere) ⇔ (T (lossless a.fields) × Limited a.fields)
  pub joins : (a : Accepted layout) → ((promised layout).fourth ≡ nowhere) ⇔ T (forward a.fields)
  -- where no place is told for losing nothing, reading by the layout loses nothing (02, M-107), whatever the record
  pub loses-nothing : KeepsAll layout → (l : Layout) × (l.text ≡ layout) × LosesNothing l × EachRecord l
  -- no place is told for losing nothing of just those layouts of which M-107 speaks
  pub archives : KeepsAll layout ⇔ Archivable layout
  -- Where no place is told for being joined, of this layout and of another, packing by the two joined gives the two
  -- results joined (02, M-113).
  pub joined-packing :
      (other area : List ℕ) (p : Packing layout area) (q : Packing other area) → (promised layout).fourth ≡ nowhere
      → (promised other).fourth ≡ nowhere
      → Gives area
      (join_templates (record { text = layout; slots = p.slots }) (record { text = other; slots = q.slots }))
      (result_by p ++ result_by q)

-- ---- `extends`

-- what demand 3 asks of two layouts (01, What demand 3 reads back): fields are added at the end, the new layout is
-- plain, and it keeps to the limits
pub record Extension (old new : List ℕ) : Type 0 where
  pub fields : List Field
  pub added : List Field
  pub old-short : length old ≤ max_layout
  pub new-short : length new ≤ max_layout
  pub old-fields : fields_of true old ≡ ok fields
  pub new-fields : fields_of true new ≡ ok (fields ++ added)
  pub is_plain : T (plain (fields ++ added))
  pub limited : Limited (fields ++ added)

-- all else that demand 3 asks: the arguments, and the buffers of the two packings (the premises of `Layouts` in
-- crates/evolution)
pub record LentToPack {old new : List ℕ} (e : Extension old new) : Type 0 where
  pub slots : List ℕ
  pub area : List ℕ
  pub old_output : List ℕ
  pub new_output : List ℕ
  pub slot-for-each : length (slots_of slots) ≡ slot_count (e.fields ++ e.added)
  pub served : arguments_fit area 0 (slots_of slots) (e.fields ++ e.added) ≡ ok tt
  pub new-sizes : T (sizes_fit new slots new_output area)
  pub old-sizes : T (sizes_fit old (take (slot_width * slot_count e.fields) slots) old_output area)
  pub new-room : end_of (e.fields ++ e.added) ≤ length new_output
  pub old-room : end_of e.fields ≤ length old_output

abbrev pub layouts_of : {old new : List ℕ} (e : Extension old new) → LentToPack e → Layouts
layouts_of {old} {new} e a =
    record {
      old = old;
      new = new;
      fields = e.fields;
      added = e.added;
      slots = a.slots;
      area = a.area;
      old_output = a.old_output;
      new_output = a.new_output;
      old-fields = e.old-fields;
      new-fields = e.new-fields;
      is_plain = e.is_plain;
      slot-for-each = a.slot-for-each;
      served = a.served;
      new-sizes = a.new-sizes;
      old-sizes = a.old-sizes;
      new-room = a.new-room;
      old-room = a.old-room;
    }

-- a reading of a record that is cut at k, into some table and area from some mark on (the premise `Reading` in
-- crates/evolution)
pub record SomeReading (l : Layouts) (packing layout : Bool) (k : ℕ) : Type 0 where
  pub slots : List ℕ
  pub area : List ℕ
  pub mark : ℕ
  pub reading : Reading l packing layout k slots area mark

-- Demand 3 has something to say of two layouts: there are arguments and buffers; and whatever those are, either layout
-- reads either record, wherever that is cut.
pub record NotEmpty {old new : List ℕ} (e : Extension old new) : Type 0 where
  pub lent : LentToPack e
  pub readings : (a : LentToPack e) (packing layout : Bool) (k : ℕ) → k ≤ length (record_by (layouts_of e a) packing)
      → SomeReading (layouts_of e a) packing layout k

-- demand 3 speaks of two layouts: its premises can be met with their texts
pub record Spoken (old new : List ℕ) : Type 0 where
  pub layouts : Layouts
  pub is-old : layouts.old ≡ old
  pub is-new : layouts.new ≡ new

pub record Extends (old new : List ℕ) : Type 0 where
  -- the call accepts two layouts just where the new one is the old one with fields added, plain and within the limits
  pub accepts : ((extended old new).answer.number ≡ 0) ⇔ Extension old new
  -- of an extension the call tells how many fields the old layout has, and how many are added
  pub counts : (e : Extension old new) → extended old new ≡ told (length e.fields) (length e.added) 0
  -- WHERE THE CALL ACCEPTS, DEMAND 3 HOLDS: whatever the arguments and buffers, both packings and every reading keep it
  pub keeps : (extended old new).answer.number ≡ 0
      → (e : Extension old new) × ((a : LentToPack e) → ReadsBack (layouts_of e a))
  -- DEMAND 3 THEN SAYS SOMETHING: there are arguments, buffers and readings
  pub not-empty : (e : Extension old new) → NotEmpty e
  -- demand 3 speaks of just those layouts that the call accepts
  pub speaks : ((extended old new).answer.number ≡ 0) ⇔ Spoken old new
  -- what extends an extension extends the first layout: the fields added each time are added up
  pub chain : (newer : List ℕ) → (extended old new).answer.number ≡ 0 → (extended new newer).answer.number ≡ 0
      → extended old newer
      ≡ told (extended old new).answer.first ((extended old new).answer.second + (extended new newer).answer.second) 0

-- ---- both calls

-- a layout may grow just where it extends itself
abbrev pub GrowsItself : Type 0
GrowsItself = (layout : List ℕ) → MayGrow layout ⇔ ((extended layout layout).answer.number ≡ 0)

-- A layout that may grow, and another one that may, put right after it: where the two together keep to the limits, the
-- text of both extends the first, by the fields of the second. (`curlew_layout` tells the slots and the end of each.)
abbrev pub GrowsBy : Type 0
GrowsBy =
    (layout other : List ℕ) (a : Accepted layout) (b : Accepted other)
    → (promised layout).answer.first ≡ nowhere
    → (promised other).answer.first ≡ nowhere
    → length (layout ++ other) ≤ max_layout
    → slot_count a.fields + slot_count b.fields ≤ max_slots
    → end_of a.fields + end_of b.fields ≤ max_record
    → extended layout (layout ++ other) ≡ told (length a.fields) (length b.fields) 0
