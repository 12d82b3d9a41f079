-- A reading changes the slots that it counts and the bytes from the mark on. So each number of a later slot stays, and
-- a value that ends at or before the mark is made of bytes that stay.
use Rattle.std.specs.Prelude.{if◌then◌else◌}
use Prim.Native.Nat.{ℕ, ◌+◌, ◌-◌, ◌*◌, ◌≤◌, ◌<◌}
use native.Mathlib.Omega.{arith}
use mathlib.Core.Path.{◌≡◌, refl, sym, ap, ◌∙◌}
use mathlib.Core.Bool.{Bool, true, false}
use mathlib.Core.List.{List, [], ◌∷◌, ◌++◌, reverse, append_assoc}
use lib.ListN.{length, get_or, take, drop, replicate}
use lib.Seq.{get_or-drop, take-take, take_at, drop_at, length-take-le, drop-drop, ext_get_or}
use lib.Dec.{eqb, leb}
use borrow.Author.Tests.{leb-true}
use Rattle.layout.specs.Refusals.{Result, ok, refused}
use Rattle.layout.specs.Layout.{fields_of}
use Rattle.layout.specs.Quoted.{bytes}
use Rattle.layout.proofs.Laws.{demanded}
use Rattle.record.specs.declared.slots.Slot.{Slot}
use Rattle.record.specs.Bytes.{part, store_at, number, number_at}
use Rattle.record.specs.Table.{slot_width, string, integer_size, Value, integers_in, shown, slot_numbers, value_bytes}
use Rattle.record.specs.Slots.{slot_at, value_end}
use Rattle.record.specs.Geometry.{sizes_fit}
use Rattle.record.specs.Reading.{Read, reads, put_into, read_effect, positions_of, read}
use Rattle.record.proofs.Bytes.{and-true, drop-take}
use Rattle.record.proofs.NumberLaws.{length-big_endian_in, number_in}
use Rattle.record.proofs.Readings.{length-slot-numbers}
use Rattle.runs.specs.OldValues.{slots_set, Old, OldValues}

-- ---- the slots

module _ (xs ys : List ℕ) (m : ℕ) (same : drop m xs ≡ drop m ys) where
  number-stays : (k : ℕ) → m ≤ k → get_or xs k 0 ≡ get_or ys k 0
  number-stays k h =
      let on : m + (k - m) ≡ k = omega arith in
      let one : get_or xs (m + (k - m)) 0 ≡ get_or ys (m + (k - m)) 0 =
      sym (get_or-drop m xs (k - m) 0) ∙ ap (λ (r : List ℕ). get_or r (k - m) 0) same ∙ get_or-drop m ys (k - m) 0 in
      rw on at one

  slot-stays : (i : ℕ) → m ≤ slot_width * i → slot_at xs i ≡ slot_at ys i
  unfolding slot_at
  slot-stays i h =
      let at : (j : ℕ) → get_or xs (slot_width * i + j) 0 ≡ get_or ys (slot_width * i + j) 0 =
      λ j. number-stays (slot_width * i + j) (omega arith) in
      rw (number-stays (slot_width * i) h, at 1, at 2, at 3)

-- ---- the area

part-before : (mark : ℕ) (xs : List ℕ) (at n : ℕ) → at + n ≤ mark → part (take mark xs) at n ≡ part xs at n
part-before mark xs at n h = ap (take n) (drop-take at mark xs) ∙ take-take n (mark - at) (drop at xs) (omega arith)

module _ (xs ys : List ℕ) (mark : ℕ) (same : take mark xs ≡ take mark ys) where
  part_stays : (at n : ℕ) → at + n ≤ mark → part xs at n ≡ part ys at n
  part_stays at n h =
      sym (part-before mark xs at n h) ∙ ap (λ (zs : List ℕ). part zs at n) same ∙ part-before mark ys at n h

  item-stays : (at n i : ℕ) → at + n * integer_size ≤ mark → i < n
      → number_at integer_size (drop at xs) (i * integer_size) ≡ number_at integer_size (drop at ys) (i * integer_size)
  unfolding number_at
  item-stays at n i h l =
      rw (drop-drop (i * integer_size) at xs, drop-drop (i * integer_size) at ys)
      (ap (λ (bs : List ℕ). number 256 (reverse bs)) (part_stays (at + i * integer_size) integer_size (omega arith)))

  pub integers-stay : (at n : ℕ) → at + n * integer_size ≤ mark → integers_in n (drop at xs) ≡ integers_in n (drop at ys)
  integers-stay at n h =
      ext_get_or 0 _ _
      (length-big_endian_in integer_size n (drop at xs) ∙ sym (length-big_endian_in integer_size n (drop at ys)))
      (λ i l. let inside : i < n = rw length-big_endian_in at l in
      number_in integer_size n (drop at xs) i inside
      ∙ item-stays at n i h inside
      ∙ sym (number_in integer_size n (drop at ys) i inside))

  value_stays : (s : Slot) → value_end s ≤ mark → shown xs s ≡ shown ys s
  unfolding shown
  value_stays s h = ap (λ (items : List ℕ). record { kind = s.kind; items = items }) (by_kind (eqb s.kind string) h)
    where
      by_kind : (t : Bool) → s.start + s.len * (if t then 1 else integer_size) ≤ mark
          → (if t then take s.len (drop s.start xs) else integers_in s.len (drop s.start xs))
          ≡ (if t then take s.len (drop s.start ys) else integers_in s.len (drop s.start ys))
      by_kind true k = part_stays s.start s.len (omega arith)
      by_kind false k = integers-stay s.start s.len k

-- ---- the call

-- an accepted one has a mark within its area
reads-mark : (layout bs slots area : List ℕ) (mark : ℕ) (vs : List Value)
    → reads layout bs slots area mark ≡ ok vs → mark ≤ length area
unfolding reads
reads-mark layout bs slots area mark vs e =
    let (fit, _) = demanded _ _ _ _ vs e in
    leb-true mark (length area) (and-true (sizes_fit layout slots bs area) (leb mark (length area)) fit).1

module _ (slots area : List ℕ) (mark i : ℕ) (at : List ℕ) where
  effect-old : (r : Result (List Value)) → ((vs : List Value) → r ≡ ok vs → mark ≤ length area)
      → slots_set (read_effect slots area mark at r) ≤ i → Old slots area mark i (read_effect slots area mark at r)
  unfolding put_into
  effect-old (ok vs) within h =
      let set : ℕ = slot_width * length vs in
      let rows : List ℕ = slot_numbers mark at vs in
      let after : List ℕ = store_at area mark (value_bytes vs) in
      let behind : drop set (rows ++ drop set slots) ≡ drop set slots =
      drop_at rows (drop set slots) set (length-slot-numbers mark at vs) in
      let here : slot_at (rows ++ drop set slots) i ≡ slot_at slots i = slot-stays _ slots set behind i (omega arith) in
      let front : take mark after ≡ take mark area =
      rw append_assoc (take_at (take mark area) _ mark (length-take-le mark area (within vs refl))) in
      record {
        slot = here;
        value = λ below. ap (shown after) here ∙ value_stays after area mark front (slot_at slots i) below;
      }
  effect-old (refused why place) within h = record { slot = refl; value = λ below. refl }

pub old-values : OldValues
unfolding read
old-values layout bs slots area mark i h =
    effect-old slots area mark i (positions_of (length bs) (fields_of false layout))
    (reads layout bs slots area mark) (reads-mark layout bs slots area mark) h

-- The premises can be met: `ca` sets one slot of a record of one byte, from the mark 2 on, and the second slot goes on
-- showing "OK".
abbrev table : List ℕ
table = 9 ∷ 9 ∷ 9 ∷ 9 ∷ 1 ∷ 0 ∷ 2 ∷ 5 ∷ []

abbrev lent : List ℕ
lent = bytes "OK" ++ replicate 8 9

after_one : Read
after_one = read (bytes "ca") (7 ∷ []) table lent 2

still-ok : shown after_one.area (slot_at after_one.slots 1) ≡ record { kind = string; items = bytes "OK" }
unfolding after_one read slot_at shown
still-ok = (old-values (bytes "ca") (7 ∷ []) table lent 2 1 (omega arith)).value (omega arith)
