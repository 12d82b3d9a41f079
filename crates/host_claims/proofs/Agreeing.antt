-- Every number that a call puts into a slot is below 2^32: a kind is at most 4, starts and lengths are no more than the
-- area has, and a position no more than the record has. So it comes back from its bytes.
use Rattle.std.specs.Prelude.{if◌then◌else◌}
use Prim.Native.Nat.{ℕ, zero, suc, ◌+◌, ◌-◌, ◌*◌, ◌/◌, ◌≤◌, ◌<◌}
use native.Mathlib.Omega.{arith}
use mathlib.Core.Path.{◌≡◌, refl, subst}
use mathlib.Core.Bool.{Bool, true, false}
use mathlib.Core.List.{List, [], ◌∷◌, ◌++◌}
use borrow.Author.Tests.{leb-true}
use lib.Dec.{eqb, leb}
use lib.ListN.{length, drop, replicate, length-append, length-drop, length-take}
use Rattle.layout.specs.declared.Role.{Role}
use Rattle.layout.specs.declared.Role.TheVariants.{Data, Move}
use Rattle.layout.specs.declared.Motion.{Motion}
use Rattle.layout.specs.declared.Motion.TheVariants.{Skip, Back, Goto}
use Rattle.layout.specs.declared.Shape.{Shape}
use Rattle.layout.specs.declared.Shape.TheVariants.{Text, Digits, Integers, Reals}
use Rattle.layout.specs.declared.Count.{Count}
use Rattle.layout.specs.declared.Field.{Field}
use Rattle.layout.specs.declared.Refusal.TheVariants.{NoRoom}
use Rattle.layout.specs.Refusals.{Result, ok, refused}
use Rattle.layout.specs.Layout.{fields_of, slot_count}
use Rattle.layout.proofs.Laws.{bound, demanded, ok-inj, no-number-zero}
use Rattle.record.specs.Bytes.{part, join, big_endian}
use Rattle.record.specs.Table.{number_limit, slot_width, max_slots, max_record, max_area, max_kind, slots_of, Value, area_bytes, slot_numbers, value_bytes}
use Rattle.record.specs.Geometry.{bytes_for, items_of, moved_in, sizes_fit}
use Rattle.record.specs.Reading.{loaded, value_at, values_from, positions_from, reads, put_into, read_effect, positions_of, Read, read}
use Rattle.record.proofs.Bytes.{and-true, all_append, all_drop}
use Rattle.record.proofs.NumberLaws.{length-big_endian}
use Rattle.record.proofs.Readings.{length-slot-numbers, values-few}
use Rattle.record.proofs.Sizes.{Sized, sized}
use Rattle.record.proofs.Tables.{length-slots}
use Rattle.sheet.specs.Entries.{Entry, entry_values as sheet_values}
use Rattle.sheet.specs.Sheet.{width_in, header_size, entries_at, entry_numbers, entries_numbers as sheet_numbers, put_entries, sheet_read_effect as sheet_effect, reads_sheet, read_sheet}
use Rattle.sheet.specs.inside.Steps.{sheet_lent_fits}
use Rattle.sheet.proofs.Entries.{AllSound, entries-sound}
use Rattle.sheet.proofs.Tables.{length-slot-numbers as length-sheet-numbers}
use Rattle.sheet.proofs.Calls.{lent, read-it, read-put}
use Rattle.rescue.specs.Rescue.{cleared_entry, kept_in, filled_up, Outcome, rescues, rescue_effect, rescue}
use Rattle.rescue.proofs.fill.Calls.{rescue-put, rescued-it}
use Rattle.rescue.proofs.fill.Filled.{filled-values, length-filled}
use Rattle.rescue.proofs.Claims.{sound-take}
use Rattle.host.specs.Numbers.{numbers_in}
use Rattle.host.specs.Host.{read_call}
use Rattle.host_record.specs.Reading.{steps_call}
use Rattle.host_sheet.specs.Rescuing.{rescue_call}
use Rattle.host_claims.specs.Agreeing.{ReadAgrees, SheetReadAgrees, RescueAgrees}
use Rattle.host_claims.proofs.Laws.{read-served, sheet-served, rescue-served, Small, numbers-small, agree}

-- ---- a reading

loaded-kind : (s : Shape) (u : Bool) (n : ℕ) (bs : List ℕ) → (loaded s u n bs).kind ≤ 4
unfolding loaded
loaded-kind (Text pad) u n bs = omega arith
loaded-kind (Digits hex high) u n bs = omega arith
loaded-kind (Integers w big) true n bs = omega arith
loaded-kind (Integers w big) false n bs = omega arith
loaded-kind (Reals single big) u n bs = omega arith

-- an item is a byte of the area or more
items-few : (v : Value) → length v.items ≤ length (area_bytes v)
unfolding area_bytes
items-few v = by_kind (eqb v.kind 1)
  where
    by_kind : (t : Bool) → length v.items ≤ length (if t then v.items else big_endian 8 v.items)
    by_kind true = omega arith
    by_kind false = rw length-big_endian (omega arith)

moved-within : (size : ℕ) (m : Motion) (n : Count) (at : ℕ) → at ≤ size → moved_in size m n at ≤ size
moved-within size Skip n at h = omega arith
moved-within size Back n at h = omega arith
moved-within size Goto n at h = omega arith

-- values put into slots, from the place `start` of the area on, with these positions
abbrev SmallRows : ℕ → List ℕ → List Value → Type 0
SmallRows start ps vs = start + length (value_bytes vs) ≤ max_area → Small (slot_numbers start ps vs)

-- those of the fields fs, from the place `at` of the record on
abbrev SmallFrom : List ℕ → List Field → ℕ → ℕ → Type 0
SmallFrom bs fs at start = at ≤ length bs → SmallRows start (positions_from (length bs) at fs) (values_from bs at fs)

-- a field that has its bytes, or ends the run
one_value : (v : Value) (vs : List Value) (at : ℕ) (ps : List ℕ) (start : ℕ) (t : Bool) → v.kind ≤ 4 → at ≤ max_record
    → (t ≡ true → SmallRows (start + length (area_bytes v)) ps vs) → SmallRows start (at ∷ ps) (if t then v ∷ vs else [])
unfolding slot_numbers value_bytes join
one_value v vs at ps start false kind place later room = tt
one_value v vs at ps start true kind place later room =
    let all : length (area_bytes v ++ value_bytes vs) ≡ length (area_bytes v) + length (value_bytes vs) =
    length-append (area_bytes v) (value_bytes vs) in
    let few : length v.items ≤ length (area_bytes v) = items-few v in
    (omega arith, (omega arith, (omega arith, (omega arith, later refl (omega arith)))))

module _ (bs : List ℕ) (size : length bs ≤ max_record) where
  field-small : (fs : List Field) → ((at start : ℕ) → SmallFrom bs fs at start)
      → (at start : ℕ) (k : Role) (u : Bool) (n : Count)
      → SmallFrom bs (record { role = k; unsigned = u; count = n } ∷ fs) at start
  unfolding values_from positions_from
  field-small fs ih at start (Data s) u n within =
      let left : ℕ = length bs - at in
      let need : ℕ = bytes_for s (items_of s n left) in
      let v : Value = value_at bs at s u (items_of s n left) in
      one_value v (values_from bs (at + need) fs) at (positions_from (length bs) (at + need) fs) start (leb need left)
      (loaded-kind s u (items_of s n left) (part bs at need)) (omega arith)
      (λ fits. ih (at + need) (start + length (area_bytes v)) (omega (arith, leb-true need left fits)))
  field-small fs ih at start (Move m) u n within =
      ih (moved_in (length bs) m n at) start (moved-within (length bs) m n at within)

  values-small : (fs : List Field) (at start : ℕ) → SmallFrom bs fs at start
  unfolding values_from positions_from slot_numbers
  values-small [] at start within room = tt
  values-small (f ∷ fs) at start within room =
      field-small fs (λ to from. values-small fs to from) at start f.role f.unsigned f.count within room

-- what is accepted has room, slots and a record that keeps to its size
abbrev SetBy : List ℕ → List ℕ → List ℕ → ℕ → List Value → Type 0
SetBy layout bs ns mark vs =
    Small (slot_numbers mark (positions_of (length bs) (fields_of false layout)) vs) × (slot_width * length vs ≤ length ns)

set-by : (layout bs ns : List ℕ) (mark : ℕ) (fs : List Field) → fields_of false layout ≡ ok fs
    → Small (slot_numbers mark (positions_from (length bs) 0 fs) (values_from bs 0 fs))
    → slot_width * length (values_from bs 0 fs) ≤ length ns → SetBy layout bs ns mark (values_from bs 0 fs)
set-by layout bs ns mark fs e small rows = rw e (small, rows)

reads-small : (layout bs ns area : List ℕ) (mark : ℕ) (vs : List Value) → reads layout bs ns area mark ≡ ok vs
    → SetBy layout bs ns mark vs
unfolding reads
reads-small layout bs ns area mark vs e =
    let (fit, e₁) = demanded _ _ _ _ vs e in
    let (fs, fields, e₂) = bound (fields_of false layout) _ vs e₁ in
    let (enough, e₃) = demanded _ _ _ _ vs e₂ in
    let found : List Value = values_from bs 0 fs in
    let (room, e₄) = demanded (leb (mark + length (value_bytes found)) (length area)) NoRoom 0 (λ _. ok found) vs e₃ in
    let is : found ≡ vs = ok-inj e₄ in
    let all : Sized (length layout) (length ns) (length bs) (length area) =
    sized (and-true (sizes_fit layout ns bs area) (leb mark (length area)) fit).0 in
    let fits : mark + length (value_bytes found) ≤ length area = leb-true _ _ room in
    let there : mark + length (value_bytes found) ≤ max_area = omega (arith, all.lent.limit) in
    let lent : slot_count fs ≤ length (slots_of ns) = leb-true _ _ enough in
    let few : length found ≤ slot_count fs = values-few bs 0 fs in
    let rows : slot_width * length found ≤ length ns = omega (arith, length-slots ns) in
    subst (SetBy layout bs ns mark) is
    (set-by layout bs ns mark fs fields (values-small bs all.whole fs 0 mark (omega arith) there) rows)

-- what a call leaves of the numbers ns: where it is accepted small ones and as many, else the same
record Kept (ns : List ℕ) (number : ℕ) (after : List ℕ) : Type 0 where
  set : number ≡ 0 → Small after × (length after ≡ length ns)
  left : (number ≡ 0 → ⊥) → after ≡ ns

-- rows put over the first of the numbers
over_first : (rows ns : List ℕ) (n : ℕ) → length rows ≡ slot_width * n → slot_width * n ≤ length ns → Small rows
    → Small ns
    → Small (rows ++ drop (slot_width * n) ns) × (length (rows ++ drop (slot_width * n) ns) ≡ length ns)
over_first rows ns n long there small rest = (
  all_append (λ x. x < number_limit) rows (drop (slot_width * n) ns) small
      (all_drop (λ x. x < number_limit) (slot_width * n) ns rest),
  rw (length-append, length-drop) (omega arith),
)

module _ (ns area : List ℕ) (mark : ℕ) (at : List ℕ) (small : Small ns) where
  effect-kept : (r : Result (List Value))
      → ((vs : List Value) → r ≡ ok vs → Small (slot_numbers mark at vs) × (slot_width * length vs ≤ length ns))
      → Kept ns (read_effect ns area mark at r).answer.number (read_effect ns area mark at r).slots
  unfolding put_into
  effect-kept (ok vs) h = record {
    set =
        λ z.
        over_first (slot_numbers mark at vs) ns (length vs) (length-slot-numbers mark at vs) (h vs refl).1
        (h vs refl).0 small;
    left = λ bad. absurd (bad refl);
  }
  effect-kept (refused why place) h = record { set = λ z. no-number-zero why z; left = λ bad. refl }

read_kept : (layout bs ns area : List ℕ) (mark : ℕ) → Small ns
    → Kept ns (read layout bs ns area mark).answer.number (read layout bs ns area mark).slots
unfolding read
read_kept layout bs ns area mark small =
    effect-kept ns area mark (positions_of (length bs) (fields_of false layout)) small (reads layout bs ns area mark)
    (reads-small layout bs ns area mark)

pub read-agrees : ReadAgrees
unfolding steps_call read_call
read-agrees layout bytes slots area mark reply l =
    let k = read_kept layout bytes (numbers_in slots) area mark (numbers-small slots l.are-slots.bytes) in
    rw (read-served slots reply layout bytes area mark l) (agree slots l.are-slots _ _ k.set k.left)

-- ---- a sheet that is read

-- the numbers of one entry
entry-small : (start : ℕ) (e : Entry) (rest : List ℕ) → e.kind ≤ max_kind → start + length e.value ≤ max_area
    → Small rest
    → Small (entry_numbers start e ++ rest)
entry-small start e rest kind room small =
    (omega arith, (placed (eqb e.kind 0), (counted (eqb e.kind 1), (omega arith, small))))
  where
    placed : (t : Bool) → (if t then 0 else start) < number_limit
    placed true = omega arith
    placed false = omega arith

    counted : (t : Bool) → length e.value / (if t then 1 else 8) < number_limit
    counted true = omega arith
    counted false = omega arith

entries-small : (es : List Entry) (start : ℕ) → AllSound es → start + length (sheet_values es) ≤ max_area
    → Small (sheet_numbers start es)
unfolding sheet_numbers sheet_values join
entries-small [] start sound room = tt
entries-small (e ∷ es) start sound room =
    let all : length (e.value ++ sheet_values es) ≡ length e.value + length (sheet_values es) =
    length-append e.value (sheet_values es) in
    entry-small start e (sheet_numbers (start + length e.value) es) sound.0.kind (omega arith)
    (entries-small es (start + length e.value) sound.1 (omega arith))

-- entries put into a table
put-kept : (ns area : List ℕ) (mark : ℕ) (es : List Entry) → Small ns → AllSound es → length es ≤ length (slots_of ns)
    → mark + length (sheet_values es) ≤ length area → length area ≤ max_area
    → Small (put_entries ns area mark es).slots × (length (put_entries ns area mark es).slots ≡ length ns)
unfolding put_entries
put-kept ns area mark es small sound rows room limit =
    over_first (sheet_numbers mark es) ns (length es) (length-sheet-numbers mark es) (omega (arith, length-slots ns))
    (entries-small es mark sound (omega arith)) small

-- the entries that a sheet has are sound
read-sound : (sheet : List ℕ) → AllSound (entries_at (width_in sheet) sheet)
read-sound sheet = entries-sound (width_in sheet) (drop (header_size (width_in sheet)) sheet)

sheet-left : (ns area : List ℕ) (mark : ℕ) (r : Result (List Entry))
    → ((sheet_effect ns area mark r).answer.number ≡ 0 → ⊥) → (sheet_effect ns area mark r).slots ≡ ns
unfolding put_entries
sheet-left ns area mark (ok es) bad = absurd (bad refl)
sheet-left ns area mark (refused why place) bad = refl

sheet-kept : (sheet ns area : List ℕ) (mark : ℕ) → Small ns
    → Kept ns (read_sheet sheet ns area mark).answer.number (read_sheet sheet ns area mark).slots
unfolding read_sheet
sheet-kept sheet ns area mark small = record {
  set =
      λ z.
      let got = read-it sheet ns area mark z in
      let es : List Entry = entries_at (width_in sheet) sheet in
      let limit : length area ≤ max_area =
      (lent (length ns) (length area) (length sheet) mark got.opened.sizes).lengths.limit in
      subst (λ (r : Read). Small r.slots × (length r.slots ≡ length ns))
      (read-put sheet ns area mark got.opened got.whole got.needed got.rows got.room)
      (put-kept ns area mark es small (read-sound sheet) got.rows got.room limit);
  left = sheet-left ns area mark (reads_sheet sheet ns area mark);
}

pub sheet-read-agrees : SheetReadAgrees
unfolding read_call
sheet-read-agrees sheet slots area mark reply l =
    let k = sheet-kept sheet (numbers_in slots) area mark (numbers-small slots l.are-slots.bytes) in
    rw (sheet-served slots reply sheet area mark l) (agree slots l.are-slots _ _ k.set k.left)

-- ---- a sheet that is rescued

sound-both : (es fs : List Entry) → AllSound es → AllSound fs → AllSound (es ++ fs)
sound-both [] fs s t = t
sound-both (e ∷ es) fs s t = (s.0, sound-both es fs s.1 t)

sound-blanks : (n : ℕ) → AllSound (replicate n cleared_entry)
sound-blanks zero = tt
sound-blanks (suc n) = (record { kind = omega arith; whole = refl }, sound-blanks n)

-- what is kept of a sheet
kept-few : (sheet : List ℕ) (legs : ℕ) → length (kept_in (width_in sheet) legs sheet) ≤ legs
unfolding kept_in
kept-few sheet legs = rw length-take (omega arith)

kept-sound : (sheet : List ℕ) (legs : ℕ) → AllSound (kept_in (width_in sheet) legs sheet)
unfolding kept_in
kept-sound sheet legs = sound-take legs (entries_at (width_in sheet) sheet) (read-sound sheet)

rescue-left : (sheet : List ℕ) (legs : ℕ) (ns area : List ℕ) (mark : ℕ) (r : Result (List Entry))
    → ((rescue_effect sheet legs ns area mark r).answer.number ≡ 0 → ⊥)
    → (rescue_effect sheet legs ns area mark r).slots ≡ ns
rescue-left sheet legs ns area mark (ok es) bad = absurd (bad refl)
rescue-left sheet legs ns area mark (refused why place) bad = refl

rescue-kept : (sheet : List ℕ) (legs : ℕ) (ns area : List ℕ) (mark : ℕ) → Small ns
    → Kept ns (rescue sheet legs ns area mark).answer.number (rescue sheet legs ns area mark).slots
unfolding rescue
rescue-kept sheet legs ns area mark small = record {
  set =
      λ z.
      let got = rescued-it sheet legs ns area mark z in
      let es : List Entry = kept_in (width_in sheet) legs sheet in
      let sizes = and-true (sheet_lent_fits (length ns) (length area) (length sheet) mark) (leb legs max_slots) got.sizes in
      let limit : length area ≤ max_area =
      (lent (length ns) (length area) (length sheet) mark sizes.0).lengths.limit in
      let few : length es ≤ legs = kept-few sheet legs in
      let rows : length (filled_up legs es) ≤ length (slots_of ns) = rw (length-filled legs es few) got.rows in
      let room : mark + length (sheet_values (filled_up legs es)) ≤ length area =
      rw (filled-values legs es) got.room in
      let sound : AllSound (filled_up legs es) =
      sound-both es (replicate (legs - length es) cleared_entry) (kept-sound sheet legs) (sound-blanks (legs - length es)) in
      subst (λ (o : Outcome). Small o.slots × (length o.slots ≡ length ns))
      (rescue-put sheet legs ns area mark got.sizes got.versions got.rows got.room)
      (put-kept ns area mark (filled_up legs es) small sound rows room limit);
  left = rescue-left sheet legs ns area mark (rescues sheet legs ns area mark);
}

pub rescue-agrees : RescueAgrees
unfolding rescue_call
rescue-agrees sheet legs slots area mark reply l =
    let k = rescue-kept sheet legs (numbers_in slots) area mark (numbers-small slots l.are-slots.bytes) in
    rw (rescue-served slots reply sheet legs area mark l) (agree slots l.are-slots _ _ k.set k.left)
