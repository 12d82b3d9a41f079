-- The proof of demand 3. Packing a plain layout joins the bytes of its fields, so the old record is the front of the
-- new one; a reader that stands where the packer stood finds each field's own bytes as long as they end at or before
-- the cut, and stops at the first that does not.
use Rattle.std.specs.Prelude.{if◌then◌else◌}
use Prim.Native.Nat.{ℕ, suc, ◌+◌, ◌≤◌, ◌<◌, suc-le-suc}
use native.Mathlib.Nat.{le_refl}
use native.Mathlib.Omega.{arith}
use mathlib.Core.Path.{◌≡◌, refl, sym, ap, ◌∙◌, subst}
use mathlib.Core.Bool.{Bool, true, false, ◌&&◌}
use mathlib.Core.List.{List, [], ◌∷◌, ◌++◌, map, append-nil}
use lib.ListN.{length, get_or, take, drop, length-append}
use lib.Seq.{take_at, take-append-le, take-length, length-take-le}
use lib.Dec.{T}
use Rattle.layout.specs.declared.Field.{Field}
use Rattle.layout.specs.Layout.{takes_slot, fields_of, slot_count}
use Rattle.layout.specs.Refusals.{ok}
use Rattle.layout.proofs.Laws.{AllSound, packed-reads}
use Rattle.record.specs.Table.{slots_of, no_position, Value, shown, value_bytes}
use Rattle.record.specs.Slots.{slot_at}
use Rattle.record.specs.Packing.{accepted, Filled, filled, arguments_fit, packed, pack, pack_effect}
use Rattle.record.specs.Geometry.{sizes_fit}
use Rattle.record.specs.Reading.{Read, values_from, positions_from, read, read_steps, put_into}
use Rattle.runs.specs.Ends.{plain_role, plain_count, end_of, record_of}
use Rattle.runs.proofs.Joined.{joined, joined-append, packed-joined}
use Rattle.runs.proofs.Calls.{T→true, packs-by, read_by, steps-by}
use Rattle.runs.proofs.Shown.{shows-put, put_same, position-put}
use Rattle.evolution.specs.Claim.{record_bytes, all_back, set_by, starts_from, starts, carried_out, plain, Layouts, packed_by, packed_whole, record_by, text_of, output_by, slots_by, fields_by, arguments_by, due, cut_record, Reading, AsLent, Whole, OwnFields, ReadsBack, Demand3}
use Rattle.record.proofs.Tables.{slots-take}
use Rattle.record.proofs.Bytes.{both}
use Rattle.evolution.proofs.Run.{AllGood, fields_in, length-joined, all-forward, agree, begun, carried}
use Rattle.evolution.proofs.Whole.{joined_bytes, due-first, all-due, none-due, due-both, good-behind, count-back, rest-stays}
use Rattle.evolution.proofs.Proper.{set-proper}
use Rattle.evolution.proofs.Arguments.{fields-filled, front, spare, fit-front, all-good}

-- ---- the front of a layout

count-front : (fs gs : List Field) → slot_count fs ≤ slot_count (fs ++ gs)
unfolding slot_count
count-front [] gs = omega arith
count-front (f ∷ fs) gs = step (takes_slot f.role) (count-front fs gs)
  where
    step : (t : Bool) → slot_count fs ≤ slot_count (fs ++ gs) → (if t then suc (slot_count fs) else slot_count fs) ≤ (if t then suc (slot_count (fs ++ gs)) else slot_count (fs ++ gs))
    step true h = suc-le-suc h
    step false h = h

plain-front : (fs gs : List Field) → T (plain (fs ++ gs)) → T (plain fs)
unfolding plain
plain-front [] gs h = tt
plain-front (f ∷ fs) gs h =
    let (x, y) = both (plain_role f.role && plain_count f.count) (plain (fs ++ gs)) h in
    joint (plain_role f.role && plain_count f.count) (plain fs) x (plain-front fs gs y)
  where
    joint : (a b : Bool) → T a → T b → T (a && b)
    joint true b h k = k
    joint false b h k = h

-- ---- the two packings

module _ (l : Layouts) where
  abbrev args : Bool → List Filled
  args b = arguments_by l b

  fits : (b : Bool) → arguments_fit l.area 0 (slots_of l.slots) (fields_by l b) ≡ ok tt
  fits true = l.served
  fits false = fit-front l.area l.fields l.added 0 (slots_of l.slots) l.served

  text-reads : (b : Bool) → (fields_of false (text_of l b) ≡ ok (fields_by l b)) × AllSound (fields_by l b)
  text-reads true = packed-reads l.new (l.fields ++ l.added) l.new-fields
  text-reads false = packed-reads l.old l.fields l.old-fields

  is-plain-by : (b : Bool) → T (plain (fields_by l b))
  is-plain-by true = l.is_plain
  is-plain-by false = plain-front l.fields l.added l.is_plain

  good : (b : Bool) → AllGood (args b)
  good b = all-good l.area 0 (slots_of l.slots) (fields_by l b) (is-plain-by b) (text-reads b).1 (fits b)

  end_by : (b : Bool) → length (joined (args b)) ≡ end_of (fields_by l b)
  end_by b = length-joined (args b) (good b) ∙ ap end_of (fields-filled l.area (slots_of l.slots) (fields_by l b))

  enough-slots : slot_count l.fields ≤ length (slots_of l.slots)
  enough-slots = omega (arith, count-front l.fields l.added, l.slot-for-each)

  -- the slots that a packing is lent serve its fields as all the slots do

  own-filled : (b : Bool) → filled l.area (slots_of (slots_by l b)) (fields_by l b) ≡ args b
  own-filled true = refl
  own-filled false = rw slots-take (spare l.area l.fields 0 (slot_count l.fields) (slots_of l.slots) (le_refl _)).0

  own-fits : (b : Bool) → arguments_fit l.area 0 (slots_of (slots_by l b)) (fields_by l b) ≡ ok tt
  own-fits true = fits true
  own-fits false = rw slots-take ((spare l.area l.fields 0 (slot_count l.fields) (slots_of l.slots) (le_refl _)).1 ∙ fits false)

  own-count : (b : Bool) → length (slots_of (slots_by l b)) ≡ slot_count (fields_by l b)
  own-count true = l.slot-for-each
  own-count false = rw slots-take (length-take-le (slot_count l.fields) (slots_of l.slots) enough-slots)

  own-bytes : (b : Bool) → packed (filled l.area (slots_of (slots_by l b)) (fields_by l b)) ≡ joined (args b)
  own-bytes b = ap packed (own-filled b) ∙ packed-joined (args b) (all-forward (args b) (good b))

  parsed : (b : Bool) → fields_of true (text_of l b) ≡ ok (fields_by l b)
  parsed true = l.new-fields
  parsed false = l.old-fields

  sizes : (b : Bool) → T (sizes_fit (text_of l b) (slots_by l b) (output_by l b) l.area)
  sizes true = l.new-sizes
  sizes false = l.old-sizes

  room : (b : Bool) → end_of (fields_by l b) ≤ length (output_by l b)
  room true = l.new-room
  room false = l.old-room

  packing-is : (b : Bool) → packed_by l b ≡ pack_effect (output_by l b) (ok (joined (args b)))
  unfolding pack
  packing-is b =
      ap (pack_effect (output_by l b))
      (packs-by (text_of l b) (slots_by l b) l.area (output_by l b) (fields_by l b) (parsed b) (T→true _ (sizes b)) (own-count b) (own-fits b) (rw (own-bytes b) (rw (end_by b) (room b)))
      ∙ ap ok (own-bytes b))

  record_is : (b : Bool) → record_of (packed_by l b) ≡ joined (args b)
  record_is b = ap record_of (packing-is b) ∙ take_at (joined (args b)) _ (length (joined (args b))) refl

  packings : (b : Bool) → packed_by l b ≡ packed_whole l b
  packings b = packing-is b ∙ rw (end_by b, joined_bytes (args b) (good b))

  records : (b : Bool) → record_by l b ≡ record_bytes (args b)
  records b = record_is b ∙ joined_bytes (args b) (good b)

  ends : (b : Bool) → length (record_by l b) ≡ end_of (fields_by l b)
  ends b = ap length (record_is b) ∙ end_by b

  -- ---- the readings

  whole : List ℕ
  whole = joined (args true)

  begins : (b : Bool) → (after : List ℕ) × (whole ≡ joined (args b) ++ after)
  unfolding whole
  begins true = ([], sym (append-nil (joined (args true))))
  begins false = (
    joined (filled l.area (drop (slot_count l.fields) (slots_of l.slots)) l.added),
    ap joined (front l.area l.fields l.added (slots_of l.slots)) ∙ joined-append (args false) _,
  )

  old-front : record_by l false ≡ take (end_of l.fields) (record_by l true)
  unfolding whole
  old-front =
      record_is false
      ∙ sym (take_at (joined (args false)) (begins false).0 (end_of l.fields) (end_by false))
      ∙ ap (take (end_of l.fields)) (sym (begins false).1 ∙ sym (record_is true))

  cut-is : (b : Bool) (cut : ℕ) → cut ≤ length (record_of (packed_by l b)) → take cut (record_of (packed_by l b)) ≡ take cut whole
  cut-is b cut h =
      ap (take cut) (record_is b)
      ∙ sym (ap (take cut) (begins b).1 ∙ take-append-le cut (joined (args b)) (begins b).0 (subst (λ (r : List ℕ). cut ≤ length r) (record_is b) h))

  inside : (b : Bool) (cut : ℕ) → cut ≤ length (record_of (packed_by l b)) → cut ≤ length whole
  inside b cut h =
      let k : cut ≤ length (joined (args b)) = subst (λ (r : List ℕ). cut ≤ length r) (record_is b) h in
      rw ((begins b).1, length-append) (omega arith)

  pub values : (p q : Bool) (cut : ℕ) → cut ≤ length (record_of (packed_by l p)) → values_from (take cut (record_of (packed_by l p))) 0 (fields_by l q) ≡ due l q cut
  values p q cut h =
      rw (cut-is p cut h)
      (ap (values_from (take cut whole) 0) (sym (fields-filled l.area (slots_of l.slots) (fields_by l q)))
      ∙ agree whole cut (inside p cut h) (args q) (good q) 0 (begins q).0 (omega arith) (begins q).1)

  -- a value's field begins where it begins in the new layout
  started : (q : Bool) (bs : List ℕ) (i : ℕ) → i < length (values_from bs 0 (fields_by l q)) → get_or (positions_from (length bs) 0 (fields_by l q)) i no_position ≡ get_or (starts l) i no_position
  started q bs = by q (fields-filled l.area (slots_of l.slots) (fields_by l q)) (begun bs (rest q) (args q) (good q) 0 (omega arith))
    where
      rest : Bool → List Field
      rest true = []
      rest false = l.added

      by : (q : Bool) {fs : List Field} → fs ≡ fields_by l q
          → ((i : ℕ) → i < length (values_from bs 0 fs) → get_or (positions_from (length bs) 0 fs) i no_position ≡ get_or (starts_from 0 (fs ++ rest q)) i no_position)
          → (i : ℕ) → i < length (values_from bs 0 (fields_by l q)) → get_or (positions_from (length bs) 0 (fields_by l q)) i no_position ≡ get_or (starts l) i no_position
      by true e h i le = (rw e at h) i le ∙ rw (append-nil (l.fields ++ l.added))
      by false e h i le = (rw e at h) i le

  module _ (p q : Bool) (cut : ℕ) (slots area : List ℕ) (mark : ℕ) (h : Reading l p q cut slots area mark) where
    v : values_from (cut_record l p cut) 0 (fields_by l q) ≡ due l q cut
    v = values p q cut h.within

    reading : read (text_of l q) (cut_record l p cut) slots area mark ≡ put_into slots area mark (starts l) (due l q cut)
    reading =
        let at : List ℕ = positions_from (length (cut_record l p cut)) 0 (fields_by l q) in
        read_by (text_of l q) (cut_record l p cut) slots area mark (fields_by l q) (text-reads q).0 (T→true _ h.sizes) h.enough-slots (rw v h.room)
        ∙ ap (put_into slots area mark at) v
        ∙ put_same slots area mark (due l q cut) at (starts l) (λ i le. started q (cut_record l p cut) i (rw (← v) at le))

    showing : map (shown (read (text_of l q) (cut_record l p cut) slots area mark).area) (take (length (due l q cut))
        (slots_of (read (text_of l q) (cut_record l p cut) slots area mark).slots)) ≡ due l q cut
    showing =
        ap (λ (r : Read). map (shown r.area) (take (length (due l q cut)) (slots_of r.slots))) reading
        ∙ shows-put slots area mark (starts l) (due l q cut) (set-proper cut 0 (args q) (good q)) (omega (arith, h.room))

    placing : (i : ℕ) → i < length (due l q cut) → (slot_at (read (text_of l q) (cut_record l p cut) slots area mark).slots i).position ≡ get_or (starts l) i no_position
    placing i inside = ap (λ (r : Read). (slot_at r.slots i).position) reading ∙ position-put slots area mark (starts l) (due l q cut) i inside

    working : read_steps (text_of l q) (cut_record l p cut) slots area mark ≡ carried_out cut 0 (fields_by l q)
    working =
        steps-by (text_of l q) (cut_record l p cut) slots area mark (fields_by l q) (text-reads q).0 (T→true _ h.sizes) h.enough-slots (rw v h.room)
        ∙ rw (
          cut-is p cut h.within,
          length-take-le cut whole (inside p cut h.within),
          ← fields-filled l.area
              (slots_of l.slots) (fields_by l q),
        ) (carried cut (args q) (good q) 0 (omega arith))

    answering : (read (text_of l q) (cut_record l p cut) slots area mark).answer ≡ accepted (length (due l q cut)) (mark + length (value_bytes (due l q cut)))
    unfolding put_into
    answering = ap (λ (r : Read). r.answer) reading

    staying : AsLent slots area mark (length (due l q cut)) (length (value_bytes (due l q cut))) (read (text_of l q) (cut_record l p cut) slots area mark)
    staying = rw reading (rest-stays slots area mark (starts l) (due l q cut) (omega (arith, h.room)))

  -- ---- records that are not cut

  abbrev own : List Value
  own = all_back (args false)

  old-due : due l false (length (record_by l true)) ≡ own
  unfolding whole
  old-due =
      let few : length (record_by l false) ≤ length whole = inside false (length (record_by l false)) (le_refl _) in
      let long : length (record_by l true) ≡ length whole = ap length (record_is true) in
      all-due (length (record_by l true)) 0 (args false) (omega (arith, length-joined (args false) (good false), ap length (record_is false)))

  -- the arguments of the added fields
  more : List Filled
  more = filled l.area (drop (slot_count l.fields) (slots_of l.slots)) l.added

  new-args : args true ≡ args false ++ more
  unfolding more
  new-args = front l.area l.fields l.added (slots_of l.slots)

  new-due : due l true (length (record_by l false)) ≡ own
  new-due =
      let k : ℕ = length (record_by l false) in
      let end : k ≡ end_of (fields_in (args false)) = ap length (record_is false) ∙ length-joined (args false) (good false) in
      let good_more : AllGood more = good-behind (args false) more (rw (← new-args) (good true)) in
      ap (set_by k 0) new-args
      ∙ due-both k 0 (args false) more
      ∙ rw (all-due k 0 (args false) (omega arith), none-due k (0 + end_of (fields_in (args false))) more good_more (omega arith)) (append-nil own)

  own_read : (p q : Bool) → due l q (length (record_by l p)) ≡ own → (slots area : List ℕ) (mark : ℕ)
      → Whole l p q slots area mark → OwnFields l slots area mark (read (text_of l q) (record_by l p) slots area mark)
  own_read p q e slots area mark h =
      let count : length own ≡ slot_count l.fields = count-back l.area (slots_of l.slots) l.fields in
      let values : read (text_of l q) (record_by l p) slots area mark ≡ put_into slots area mark (starts l) own =
      rw (take-length (record_by l p), e) at (reading p q (length (record_by l p)) slots area mark h) in
      record {
        values = values;
        count = count;
        others = rw (values, ← count) (rest-stays slots area mark (starts l) own (omega (arith, h.room)));
      }

  pub reads-back : ReadsBack l
  reads-back =
      record {
        packings = packings;
        records = records;
        ends = ends;
        front = old-front;
        readings = reading;
        answers = answering;
        others = staying;
        shows = showing;
        positions = placing;
        in_order = λ q cut. due-first cut 0 (args q);
        steps = working;
        old-reads-new = own_read true false old-due;
        new-reads-old = own_read false true new-due;
      }

-- DEMAND 3
pub demand3 : Demand3
demand3 l = reads-back l
