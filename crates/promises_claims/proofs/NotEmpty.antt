-- No theorem speaks of nothing. Within the limits one area of zero bytes serves the fields of every layout: strings and
-- digits are empty, and integers and reals are zeros. A reading that only goes forward finds values of at most eight
-- bytes for each byte of the record, and the area may be that large.
use Rattle.std.specs.Prelude.{if◌then◌else◌}
use Prim.Native.Nat.{ℕ, zero, suc, ◌+◌, ◌-◌, ◌*◌, ◌≤◌, min}
use native.Mathlib.Omega.{arith}
use mathlib.Core.Path.{◌≡◌, refl}
use mathlib.Core.Bool.{Bool, true, false, not}
use mathlib.Core.List.{List, [], ◌∷◌, ◌++◌}
use lib.ListN.{length, take, drop, replicate, length-append, length-take, length-replicate}
use lib.Seq.{length-take-le}
use lib.Dec.{T, eqb, leb}
use borrow.Author.Tests.{le-leb, leb-true}
use Rattle.layout.specs.declared.Role.{Role}
use Rattle.layout.specs.declared.Role.TheVariants.{Data, Move}
use Rattle.layout.specs.declared.Motion.TheVariants.{Skip, Back, Goto}
use Rattle.layout.specs.declared.Shape.{Shape}
use Rattle.layout.specs.declared.Shape.TheVariants.{Text, Digits, Integers, Reals}
use Rattle.layout.specs.declared.Count.{Count}
use Rattle.layout.specs.declared.Count.TheVariants.{Absent, Star, Times}
use Rattle.layout.specs.declared.Field.{Field}
use Rattle.layout.specs.Refusals.{ok}
use Rattle.layout.specs.Layout.{max_layout, slot_count}
use Rattle.layout.specs.inside.Parsing.{FitRole}
use Rattle.layout.proofs.Laws.{AllSound, packed-reads}
use Rattle.layout.proofs.Decoded.{count-append}
use Rattle.record.specs.declared.slots.Slot.{Slot}
use Rattle.record.specs.Bytes.{join, pieces, number, big_endian_in, ordered}
use Rattle.record.specs.Table.{max_slots, max_record, max_area, slot_width, string, signed, real, slots_of, Value, area_bytes, shown, value_bytes}
use Rattle.record.specs.Slots.{is_inside}
use Rattle.record.specs.Geometry.{amount, bytes_for, items_of, sizes_fit}
use Rattle.record.specs.Packing.{kind_fits, amount_fits, enough, digits_fit, all_digits, reals_fit, no_nan, argument_fits, arguments_fit}
use Rattle.record.specs.Reading.{value_at, values_from}
use Rattle.record.proofs.Bounds.{product_small}
use Rattle.record.proofs.Bytes.{All, all_take, all_drop, all_replicate, all-ordered, both}
use Rattle.record.proofs.Sizes.{Sized, sized, sized-fits}
use Rattle.record.proofs.Tables.{length-slots}
use Rattle.runs.specs.Ends.{plain_role, plain_count, fills, end_of}
use Rattle.runs.proofs.Calls.{T→true}
use Rattle.runs.proofs.Joined.{ForwardFields}
use Rattle.reading.proofs.measure.Room.{value_room}
use Rattle.evolution.specs.Claim.{plain, Layouts, text_of, fields_by, record_by, cut_record, due}
use Rattle.evolution.proofs.ReadsBack.{reads-back, values}
use Rattle.lossless.specs.Claim.{lossless_role, lossless, Layout, are_bytes, Archived}
use Rattle.promises.specs.Promises.{plain_field, lossless_field}
use Rattle.promises_claims.specs.Claim.{Limited, EachRecord, Extension, LentToPack, layouts_of, SomeReading, NotEmpty, Spoken}
use Rattle.promises_claims.proofs.Kept.{true→T, and_both}

-- ---- runs of zeros

unfoldable zeros : ℕ → List ℕ
zeros n = replicate n 0

zeros-length : (n : ℕ) → length (zeros n) ≡ n
unfolding zeros
zeros-length n = length-replicate n 0

abbrev Zero : ℕ → Type 0
Zero x = x ≡ 0

zeros-all : (n : ℕ) → All Zero (zeros n)
unfolding zeros
zeros-all n = all_replicate Zero n 0 refl

zeros-bytes : (n : ℕ) → T (are_bytes (zeros n))
unfolding zeros are_bytes
zeros-bytes zero = tt
zeros-bytes (suc n) = zeros-bytes n

number-zero : (ds : List ℕ) → All Zero ds → number 256 ds ≡ 0
unfolding number
number-zero [] h = refl
number-zero (d ∷ ds) h = rw (h.0, number-zero ds h.1)

items-zero : (w n : ℕ) (bs : List ℕ) → All Zero bs → All Zero (big_endian_in w n bs)
unfolding big_endian_in pieces
items-zero w zero bs h = tt
items-zero w (suc n) bs h = (
  number-zero (ordered true (take w bs)) (all-ordered Zero true (take w bs) (all_take Zero w bs h)),
  items-zero w n (drop w bs) (all_drop Zero w bs h),
)

no-nan : (xs : List ℕ) → All Zero xs → no_nan xs ≡ true
unfolding no_nan
no-nan [] h = refl
no-nan (x ∷ xs) h = rw (h.0, no-nan xs h.1)

-- ---- arguments

abbrev made : Role → Bool → Count → Field
made k u n = record { role = k; unsigned = u; count = n }

abbrev kind_for : Shape → ℕ
kind_for (Text pad) = string
kind_for (Digits hex high) = string
kind_for (Integers w big) = signed
kind_for (Reals single big) = real

abbrev length_for : Shape → Count → ℕ
length_for (Text pad) n = 0
length_for (Digits hex high) n = 0
length_for (Integers w big) n = amount n 0
length_for (Reals single big) n = amount n 0

-- for each field that takes a slot, one that begins with the area
unfoldable arguments_for : List Field → List ℕ
arguments_for [] = []
arguments_for (f ∷ fs) =
    elim f.role [ Data s ↦ kind_for s ∷ 0 ∷ length_for s f.count ∷ 0 ∷ arguments_for fs | Move m ↦ arguments_for fs ]

arguments-length : (fs : List Field) → length (arguments_for fs) ≡ slot_width * slot_count fs
unfolding arguments_for slot_count
arguments-length [] = refl
arguments-length (f ∷ fs) = step f.role f.unsigned f.count (arguments-length fs)
  where
    step : (k : Role) (u : Bool) (n : Count) → length (arguments_for fs) ≡ slot_width * slot_count fs
        → length (arguments_for (made k u n ∷ fs)) ≡ slot_width * slot_count (made k u n ∷ fs)
    step (Data s) u n h = omega arith
    step (Move m) u n h = h

-- no argument has more items than its field fills bytes
length-few : (s : Shape) (n : Count) → FitRole (Data s) → length_for s n ≤ fills (Data s) n
unfolding fills
length-few (Text pad) n h = omega arith
length-few (Digits hex high) n h = omega arith
length-few (Integers w big) n h = omega (arith, product_small (amount n 0) 1 (amount n 0) w (omega arith) h.0)
length-few (Reals true big) n h = omega arith
length-few (Reals false big) n h = omega arith

enough-amount : (n : Count) → enough n (amount n 0) ≡ true
enough-amount Absent = refl
enough-amount Star = refl
enough-amount (Times n) = le-leb n n (omega arith)

module _ (area : List ℕ) (are-zero : All Zero area) where
  passes : (s : Shape) (n : Count) (i : ℕ) (a : Slot)
      → not (eqb a.kind 0) ≡ true
      → is_inside a (length area) ≡ true
      → kind_fits s a.kind ≡ true
      → amount_fits s n a.len ≡ true
      → digits_fit s (amount n a.len) (shown area a).items ≡ true
      → reals_fit s (amount n a.len) (shown area a).items ≡ true
      → argument_fits area s n i a ≡ ok tt
  unfolding argument_fits
  passes s n i a set inside kind count digit real = rw (set, inside, kind, count, digit, real)

  abbrev slot_for : Shape → Count → Slot
  slot_for s n = record { kind = kind_for s; start = 0; len = length_for s n; position = 0 }

  inside : (s : Shape) (n : Count) → 8 * length_for s n ≤ length area → is_inside (slot_for s n) (length area) ≡ true
  inside (Text pad) n h = le-leb 0 (length area) (omega arith)
  inside (Digits hex high) n h = le-leb 0 (length area) (omega arith)
  inside (Integers w big) n h = le-leb (0 + amount n 0 * 8) (length area) (omega arith)
  inside (Reals single big) n h = le-leb (0 + amount n 0 * 8) (length area) (omega arith)

  serves : (s : Shape) (n : Count) (i : ℕ) → 8 * length_for s n ≤ length area
      → argument_fits area s n i (slot_for s n) ≡ ok tt
  unfolding digits_fit all_digits reals_fit shown
  serves (Text pad) n i h =
      passes (Text pad) n i (slot_for (Text pad) n) refl (inside (Text pad) n h) refl refl refl refl
  serves (Digits hex high) n i h =
      passes (Digits hex high) n i (slot_for (Digits hex high) n) refl (inside (Digits hex high) n h) refl refl
      (none (amount n 0)) refl
    where
      none : (m : ℕ) → all_digits hex (take m []) ≡ true
      none zero = refl
      none (suc m) = refl
  serves (Integers w big) n i h =
      passes (Integers w big) n i (slot_for (Integers w big) n) refl (inside (Integers w big) n h) refl (enough-amount n)
      refl refl
  serves (Reals true big) n i h =
      let m : ℕ = amount n 0 in
      let xs : List ℕ = big_endian_in 8 m area in
      passes (Reals true big) n i (slot_for (Reals true big) n) refl (inside (Reals true big) n h) refl (enough-amount n)
      refl (no-nan (take (amount n m) xs) (all_take Zero (amount n m) xs (items-zero 8 m area are-zero)))
  serves (Reals false big) n i h =
      passes (Reals false big) n i (slot_for (Reals false big) n) refl (inside (Reals false big) n h) refl
      (enough-amount n) refl refl

  all-served : (i : ℕ) (fs : List Field) → AllSound fs → 8 * end_of fs ≤ length area
      → arguments_fit area i (slots_of (arguments_for fs)) fs ≡ ok tt
  unfolding arguments_fit arguments_for slots_of end_of
  all-served i [] sound h = refl
  all-served i (f ∷ fs) sound h =
      step i f.role f.unsigned f.count sound.0 h (λ j k. all-served j fs sound.1 k)
    where
      step : (i : ℕ) (k : Role) (u : Bool) (n : Count) → FitRole k → 8 * (fills k n + end_of fs) ≤ length area
          → ((j : ℕ) → 8 * end_of fs ≤ length area → arguments_fit area j (slots_of (arguments_for fs)) fs ≡ ok tt)
          → arguments_fit area i (slots_of (arguments_for (made k u n ∷ fs))) (made k u n ∷ fs) ≡ ok tt
      step i (Data s) u n fit h ih = rw (serves s n i (omega (arith, length-few s n fit))) (ih (suc i) (omega arith))
      step i (Move m) u n fit h ih = ih i (omega arith)

-- ---- sizes

module _ (text slots bytes area : List ℕ) where
  sizes-fit : length text ≤ max_layout → (n : ℕ) → length slots ≡ slot_width * n → n ≤ max_slots → length bytes ≤ max_record
      → length area ≤ max_area → sizes_fit text slots bytes area ≡ true
  sizes-fit short n long few whole room =
      sized-fits {layout = length text} {slots = length slots} {bytes = length bytes} {area = length area}
      (record { text = short; whole = whole; lent = record { table = omega arith; rows = omega arith; limit = room } })

  fit-sizes : T (sizes_fit text slots bytes area) → Sized (length text) (length slots) (length bytes) (length area)
  fit-sizes h = sized (T→true _ h)

-- slots that fit are no more than a table may have
few-slots : (text slots bytes area : List ℕ) (n : ℕ) → T (sizes_fit text slots bytes area) → length (slots_of slots) ≡ n
    → n ≤ max_slots
few-slots text slots bytes area n h e =
    omega (arith, length-slots slots, (fit-sizes text slots bytes area h).lent.table)

pub end-append : (fs gs : List Field) → end_of (fs ++ gs) ≡ end_of fs + end_of gs
unfolding end_of
end-append [] gs = omega arith
end-append (f ∷ fs) gs = omega (arith, end-append fs gs)

-- the limits of a layout are those of its front
limited-front : (fs gs : List Field) → Limited (fs ++ gs) → Limited fs
limited-front fs gs l =
    record { slots = omega (arith, l.slots, count-append fs gs); end = omega (arith, l.end, end-append fs gs) }

-- ---- demand 3: the arguments and the buffers

module _ (old new : List ℕ) (e : Extension old new) where
  abbrev all : List Field
  all = e.fields ++ e.added

  abbrev slots : List ℕ
  slots = arguments_for all

  abbrev area : List ℕ
  area = zeros (8 * max_record)

  abbrev old-count : ℕ
  old-count = slot_width * slot_count e.fields

  old-slots : length (take old-count slots) ≡ old-count
  old-slots =
      length-take-le old-count slots (omega (arith, arguments-length all, count-append e.fields e.added))

  pub lent : LentToPack e
  lent =
      let front : Limited e.fields = limited-front e.fields e.added e.limited in
      let served : 8 * end_of all ≤ length area = omega (arith, zeros-length (8 * max_record), e.limited.end) in
      let room : length (zeros max_record) ≡ max_record = zeros-length max_record in
      let sizes : (text ns : List ℕ) → length text ≤ max_layout → (fs : List Field) → length ns ≡ slot_width * slot_count fs
      → Limited fs → sizes_fit text ns (zeros max_record) area ≡ true =
      λ text ns short fs long limits. sizes-fit text ns (zeros max_record) area short (slot_count fs) long limits.slots
      (omega arith) (omega (arith, zeros-length (8 * max_record))) in
      record {
        slots = slots;
        area = area;
        old_output = zeros max_record;
        new_output = zeros max_record;
        slot-for-each = omega (arith, length-slots slots, arguments-length all);
        served = all-served area (zeros-all (8 * max_record)) 0 all (packed-reads new all e.new-fields).1 served;
        new-sizes = true→T _ (sizes new slots e.new-short all (arguments-length all) e.limited);
        old-sizes = true→T _ (sizes old (take old-count slots) e.old-short e.fields old-slots front);
        new-room = omega (arith, e.limited.end);
        old-room = omega (arith, front.end);
      }

-- ---- the values of a reading that only goes forward

found-room : (t : Bool) (v : Value) (vs : List Value) (m : ℕ)
    → (t ≡ true → length (area_bytes v) + length (value_bytes vs) ≤ m)
    → length (value_bytes (if t then v ∷ vs else [])) ≤ m
unfolding value_bytes join
found-room true v vs m h = rw length-append (h refl)
found-room false v vs m h = omega arith

forward-room : (bs : List ℕ) (at : ℕ) (fs : List Field) → AllSound fs → ForwardFields fs
    → length (value_bytes (values_from bs at fs)) ≤ 8 * (length bs - at)
unfolding values_from value_bytes join
forward-room bs at [] sound forward = omega arith
forward-room bs at (f ∷ fs) sound forward =
    step at f.role f.unsigned f.count sound.0 forward.0
    (λ to. forward-room bs to fs sound.1 forward.1)
  where
    step : (at : ℕ) (k : Role) (u : Bool) (n : Count) → FitRole k → T (plain_role k)
        → ((to : ℕ) → length (value_bytes (values_from bs to fs)) ≤ 8 * (length bs - to))
        → length (value_bytes (values_from bs at (made k u n ∷ fs))) ≤ 8 * (length bs - at)
    step at (Data s) u n fit p ih =
        let i : ℕ = items_of s n (length bs - at) in
        let need : ℕ = bytes_for s i in
        found-room (leb need (length bs - at)) (value_at bs at s u i) (values_from bs (at + need) fs) _
        (λ t. omega (arith, leb-true need (length bs - at) t, value_room bs at s u i fit, ih (at + need)))
    step at (Move Skip) u n fit p ih = omega (arith, ih (min (at + amount n (length bs)) (length bs)))
    step at (Move Back) u n fit p ih = absurd p
    step at (Move Goto) u n fit p ih = absurd p

-- a plain layout only goes forward, and so does a lossless one
plain-forward : (fs : List Field) → T (plain fs) → ForwardFields fs
unfolding plain
plain-forward [] h = tt
plain-forward (f ∷ fs) h =
    let (x, y) = both (plain_field f) (plain fs) h in
    ((both (plain_role f.role) (plain_count f.count) x).0, plain-forward fs y)

lossless-forward : (fs : List Field) → T (lossless fs) → ForwardFields fs
unfolding lossless
lossless-forward [] h = tt
lossless-forward (f ∷ fs) h =
    let (x, y) = both (lossless_field f) (lossless fs) h in
    (one f.role (both (lossless_role f.role f.count) (plain_count f.count) x).0, lossless-forward fs y)
  where
    one : (k : Role) → T (lossless_role k f.count) → T (plain_role k)
    one (Data s) h = tt
    one (Move m) h = absurd h

forward-front : (fs gs : List Field) → ForwardFields (fs ++ gs) → ForwardFields fs
forward-front [] gs h = tt
forward-front (f ∷ fs) gs h = (h.0, forward-front fs gs h.1)

-- ---- demand 3: the readings

module _ (l : Layouts) where
  texts : (b : Bool) → (length (text_of l b) ≤ max_layout) × AllSound (fields_by l b) × ForwardFields (fields_by l b)
  texts true = (
    (fit-sizes l.new l.slots l.new_output l.area l.new-sizes).text,
    (packed-reads l.new (l.fields ++ l.added) l.new-fields).1,
    plain-forward (l.fields ++ l.added) l.is_plain,
  )
  texts false = (
    (fit-sizes l.old (take (slot_width * slot_count l.fields) l.slots) l.old_output l.area
        l.old-sizes).text,
    (packed-reads l.old l.fields l.old-fields).1,
    forward-front l.fields l.added (plain-forward (l.fields ++ l.added) l.is_plain),
  )

  new-limits : Limited (l.fields ++ l.added)
  new-limits = record {
    slots = few-slots l.new l.slots l.new_output l.area _ l.new-sizes l.slot-for-each;
    end = omega (arith, l.new-room, (fit-sizes l.new l.slots l.new_output l.area l.new-sizes).whole);
  }

  limits-by : (b : Bool) → Limited (fields_by l b)
  limits-by true = new-limits
  limits-by false = limited-front l.fields l.added new-limits

  some-reading : (packing layout : Bool) (k : ℕ) → k ≤ length (record_by l packing) → SomeReading l packing layout k
  some-reading packing layout k h =
      let slots : List ℕ = zeros (slot_width * max_slots) in
      let area : List ℕ = zeros max_area in
      let (short, sound, forward) = texts layout in
      let cut : length (cut_record l packing k) ≤ k = simp length-take (omega arith) in
      let whole : length (cut_record l packing k) ≤ max_record =
      omega (arith, (reads-back l).ends packing, (limits-by packing).end) in
      let room : length area ≡ max_area = zeros-length max_area in
      let table : length slots ≡ slot_width * max_slots = zeros-length (slot_width * max_slots) in
      let fit : sizes_fit (text_of l layout) slots (cut_record l packing k) area ≡ true =
      sizes-fit (text_of l layout) slots (cut_record l packing k) area short max_slots table (omega arith) whole (omega arith) in
      let due-room : length (value_bytes (due l layout k)) ≤ 8 * (length (cut_record l packing k) - 0) =
      rw (← values l packing layout k h) (forward-room (cut_record l packing k) 0 (fields_by l layout) sound forward) in
      record {
        slots = slots;
        area = area;
        mark = 0;
        reading = record {
          within = h;
          sizes = true→T _ (and_both _ _ fit (le-leb 0 (length area) (omega arith)));
          enough-slots = omega (arith, length-slots slots, (limits-by layout).slots);
          room = omega arith;
        };
      }

  -- ---- and back: two layouts of which demand 3 speaks

  extension-of : Extension l.old l.new
  extension-of = record {
    fields = l.fields;
    added = l.added;
    old-short = (texts false).0;
    new-short = (texts true).0;
    old-fields = l.old-fields;
    new-fields = l.new-fields;
    is_plain = l.is_plain;
    limited = new-limits;
  }

pub not-empty : (old new : List ℕ) (e : Extension old new) → NotEmpty e
not-empty old new e = record { lent = lent old new e; readings = λ a. some-reading (layouts_of e a) }

pub spoken : (old new : List ℕ) → Extension old new → Spoken old new
spoken old new e = record { layouts = layouts_of e (lent old new e); is-old = refl; is-new = refl }

pub speaks : (old new : List ℕ) → Spoken old new → Extension old new
speaks old new s = rw (s.is-old, s.is-new) at (extension-of s.layouts)

-- ---- M-107: the records

module _ (l : Layout) where
  pub each-record : length l.text ≤ max_layout → Limited l.fields → EachRecord l
  each-record short limits bs are-bytes full =
      let slots : List ℕ = zeros (slot_width * slot_count l.fields) in
      let area : List ℕ = zeros max_area in
      let values : length (value_bytes (values_from bs 0 l.fields)) ≤ 8 * (length bs - 0) =
      forward-room bs 0 l.fields (packed-reads l.text l.fields l.has-fields).1
      (lossless-forward l.fields l.is-lossless) in
      let whole : length bs ≤ max_record = omega (arith, limits.end) in
      let room : length area ≡ max_area = zeros-length max_area in
      let out : length (zeros max_record) ≡ max_record = zeros-length max_record in
      let table : length slots ≡ slot_width * slot_count l.fields = zeros-length (slot_width * slot_count l.fields) in
      let fit : (bytes : List ℕ) → length bytes ≤ max_record → sizes_fit l.text slots bytes area ≡ true =
      λ bytes h. sizes-fit l.text slots bytes area short (slot_count l.fields) table limits.slots h
      (omega arith) in (
        record {
          bytes = bs;
          slots = slots;
          area = area;
          mark = 0;
          output = zeros max_record;
          are-bytes = are-bytes;
          is-full = full;
          slot-for-each = omega (arith, length-slots slots);
          area-room = omega arith;
          output-room = omega arith;
          read-sizes = true→T _ (and_both _ _ (fit bs whole) (le-leb 0 (length area) (omega arith)));
          pack-sizes = true→T _ (fit (zeros max_record) (omega arith));
        },
        refl,
      )

  pub some-record : length l.text ≤ max_layout → Limited l.fields → Archived l
  some-record short limits =
      (each-record short limits (zeros (end_of l.fields)) (zeros-bytes (end_of l.fields))
      (zeros-length (end_of l.fields))).0

  pub archived-limits : Archived l → (length l.text ≤ max_layout) × Limited l.fields
  archived-limits r = (
    (fit-sizes l.text r.slots r.output r.area r.pack-sizes).text,
    record {
      slots = few-slots l.text r.slots r.output r.area _ r.pack-sizes r.slot-for-each;
      end =
          omega (
            arith,
            r.is-full,
            r.output-room,
            (fit-sizes l.text r.slots r.output r.area
                r.pack-sizes).whole,
          );
    },
  )
