-- Each call is the call on the slots' numbers, of which demand 3 is proved; slots that are taken apart and put together
-- again are the same slots.
use Prim.Native.Nat.{ℕ, zero, suc, ◌+◌, ◌*◌}
use native.Mathlib.Omega.{arith}
use mathlib.Core.Path.{◌≡◌, refl, ap, ◌∙◌}
use mathlib.Core.Bool.{Bool, true, false}
use mathlib.Core.List.{List, [], ◌∷◌, ◌++◌, map}
use lib.ListN.{length, take, drop}
use Rattle.layout.specs.Layout.{slot_count}
use Rattle.record.specs.Table.{slot_width, slots_of, Value, shown, slot_numbers, area_bytes}
use Rattle.record.specs.Packing.{Packed, pack}
use Rattle.record.specs.Reading.{Read, put_into, with_steps, read}
use Rattle.runs.specs.Ends.{record_of}
use Rattle.evolution.specs.Claim.{Layouts, ReadsBack, text_of, fields_by, slots_by, output_by, packed_by, cut_record, due, starts, carried_out}
use Rattle.evolution.proofs.ReadsBack.{demand3}
use Rattle.slots.specs.declared.SlotRecord.{SlotRecord}
use Rattle.slots.specs.Slots.{slots_numbers, slots_from}
use Rattle.slots.proofs.Runs.{slots-back}
use Rattle.slots.specs.Reading.{with_slots, read_slots}
use Rattle.slots.specs.ReadBack.{SlotsLent, arguments_of, packing_slots, reading_slots, shown_by_slot, SlotsMeant, SlotsKeepBack, SlotsDemand3}

-- ---- slots and their numbers

four-more : (n : ℕ) → slot_width * suc n ≡ suc (suc (suc (suc (slot_width * n))))
four-more n = omega arith

numbers-take : (n : ℕ) (ss : List SlotRecord) → slots_numbers (take n ss) ≡ take (slot_width * n) (slots_numbers ss)
unfolding slots_numbers
numbers-take zero ss = refl
numbers-take (suc n) [] = rw four-more
numbers-take (suc n) (s ∷ ss) = rw (four-more n, numbers-take n ss)

numbers-drop : (n : ℕ) (ss : List SlotRecord) → drop (slot_width * n) (slots_numbers ss) ≡ slots_numbers (drop n ss)
unfolding slots_numbers
numbers-drop zero ss = refl
numbers-drop (suc n) [] = rw four-more
numbers-drop (suc n) (s ∷ ss) = rw (four-more n, numbers-drop n ss)

-- the slots of values, and after them others
set_first : (start : ℕ) (at : List ℕ) (vs : List Value) (ss : List SlotRecord)
    → slots_from (slot_numbers start at vs ++ slots_numbers ss) ≡ slots_from (slot_numbers start at vs) ++ ss
unfolding slot_numbers slots_from
set_first start at [] ss = slots-back ss
set_first start at (v ∷ vs) ss = rw (set_first (start + length (area_bytes v)) (drop 1 at) vs ss)

-- a table shows the same as slots of numbers and as slot records
shown-same : (area : List ℕ) (n : ℕ) (ns : List ℕ)
    → map (shown_by_slot area) (take n (slots_from ns)) ≡ map (shown area) (take n (slots_of ns))
unfolding slots_from slots_of
shown-same area zero ns = refl
shown-same area (suc n) [] = refl
shown-same area (suc n) (k ∷ []) = refl
shown-same area (suc n) (k ∷ s ∷ []) = refl
shown-same area (suc n) (k ∷ s ∷ m ∷ []) = refl
shown-same area (suc n) (k ∷ s ∷ m ∷ p ∷ rest) =
    ap (λ (vs : List Value). shown area (record { kind = k; start = s; len = m; position = p }) ∷ vs)
    (shown-same area n rest)

-- ---- the two calls

module _ (l : Layouts) (packed layout : Bool) (c : SlotsLent) (h : SlotsMeant l packed layout c) where
  back : ReadsBack l
  back = demand3 l

  arguments-are : (which : Bool) → slots_numbers (arguments_of l which c) ≡ slots_by l which
  arguments-are true = h.arguments
  arguments-are false =
      numbers-take (slot_count l.fields) c.arguments ∙ ap (take (slot_width * slot_count l.fields)) h.arguments

  as-packed : packing_slots l packed c ≡ packed_by l packed
  as-packed = ap (λ (ns : List ℕ). pack (text_of l packed) ns l.area (output_by l packed)) (arguments-are packed)

  abbrev values : List Value
  values = due l layout c.cut

  -- the reading is that of the record of the claim, and leaves what the claim says
  left : Read
  left = read (text_of l layout) (cut_record l packed c.cut) (slots_numbers c.table) c.values c.mark

  as_read : reading_slots l packed layout c ≡ with_slots (with_steps left (carried_out c.cut 0 (fields_by l layout)))
  unfolding read_slots left
  as_read =
      ap
      (λ (p : Packed). read_slots (text_of l layout) (take c.cut (record_of p)) c.table c.values c.mark)
      as-packed
      ∙ ap (λ (k : ℕ). with_slots (with_steps left k))
      (back.steps packed layout c.cut (slots_numbers c.table) c.values c.mark h.reads)

  left_is : left ≡ put_into (slots_numbers c.table) c.values c.mark (starts l) values
  unfolding left
  left_is = back.readings packed layout c.cut (slots_numbers c.table) c.values c.mark h.reads

  slots-are : slots_from (put_into (slots_numbers c.table) c.values c.mark (starts l) values).slots
      ≡ slots_from (slot_numbers c.mark (starts l) values) ++ drop (length values) c.table
  unfolding put_into
  slots-are =
      rw (numbers-drop (length values) c.table)
      (set_first c.mark (starts l) values (drop (length values) c.table))

  keeps-back : SlotsKeepBack l packed layout c
  unfolding left put_into
  keeps-back = record {
    packs = as-packed ∙ back.packings packed;
    reads =
        as_read
        ∙ ap (λ (r : Read). with_slots (with_steps r (carried_out c.cut 0 (fields_by l layout)))) left_is
        ∙ rw slots-are;
    shows =
        rw as_read
        (shown-same left.area (length values) left.slots
        ∙ back.shows packed layout c.cut (slots_numbers c.table) c.values c.mark h.reads);
  }

pub slots-demand3 : SlotsDemand3
slots-demand3 = keeps-back
