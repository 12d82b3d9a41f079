-- Every step of packing goes by a field's type and count, and every step of reading but the value of integers: so the
-- fields may as well have no other flag.
use Prim.Native.Nat.{ℕ, suc, ◌+◌, ◌-◌, ◌≤◌}
use mathlib.Core.Path.{◌≡◌, refl, sym, ap, ◌∙◌}
use mathlib.Core.Bool.{Bool, true, false, ◌&&◌}
use mathlib.Core.List.{List, [], ◌∷◌, map}
use borrow.Author.Tests.{le-leb}
use lib.Dec.{eqb, leb}
use lib.ListN.{length, drop}
use Rattle.layout.specs.declared.Role.{Role}
use Rattle.layout.specs.declared.Role.TheVariants.{Data, Move}
use Rattle.layout.specs.declared.Shape.{Shape}
use Rattle.layout.specs.declared.Shape.TheVariants.{Text, Digits, Integers, Reals}
use Rattle.layout.specs.declared.Count.{Count}
use Rattle.layout.specs.declared.Field.{Field}
use Rattle.layout.specs.declared.Refusal.TheVariants.{BadSize, BadSlots, NoRoom}
use Rattle.layout.specs.Refusals.{Result, ok, refused, ◌>>=◌, demand}
use Rattle.layout.specs.Layout.{max_layout, fields_of, slot_count}
use Rattle.record.specs.declared.slots.Slot.{Slot}
use Rattle.record.specs.Bytes.{part}
use Rattle.record.specs.Table.{slots_of, max_record, Value, value_bytes}
use Rattle.record.specs.Geometry.{bytes_for, items_of, table_fits}
use Rattle.record.specs.Packing.{Run, start, arguments_fit, filled, pack_all, packed, finished, packs, pack, pack_effect}
use Rattle.record.specs.Reading.{loaded, values_from, positions_from, steps_from, reads, read, read_effect, steps_of, read_steps, ReadAll, read_all, with_steps}
use Rattle.ignored.specs.Flags.{unflagged, PackIgnoresFlags, flag_in, flagged_integers, ReadIgnoresFlags}

abbrev flag : Role → Bool → Count → Field
flag k u n = record { role = k; unsigned = u; count = n }

-- fields with another flag
module _ (g : Field → Bool) where
  abbrev other : Field → Field
  other f = flag f.role (g f) f.count

  count-other : (fs : List Field) → slot_count (map other fs) ≡ slot_count fs
  unfolding slot_count
  count-other [] = refl
  count-other (f ∷ fs) = rw (count-other fs)

  -- ---- packing

  module _ (area : List ℕ) where
    argument-other : (fs : List Field)
        → ((i : ℕ) (ts : List Slot) → arguments_fit area i ts (map other fs) ≡ arguments_fit area i ts fs)
        → (i : ℕ) (ts : List Slot) (k : Role) (u v : Bool) (n : Count)
        → arguments_fit area i ts (flag k v n ∷ map other fs) ≡ arguments_fit area i ts (flag k u n ∷ fs)
    unfolding arguments_fit
    argument-other fs ih i ts (Data s) u v n = rw (ih (suc i) (drop 1 ts))
    argument-other fs ih i ts (Move m) u v n = ih i ts

    arguments-other : (fs : List Field) (i : ℕ) (ts : List Slot)
        → arguments_fit area i ts (map other fs) ≡ arguments_fit area i ts fs
    unfolding arguments_fit
    arguments-other [] i ts = refl
    arguments-other (f ∷ fs) i ts =
        argument-other fs (λ j us. arguments-other fs j us) i ts f.role f.unsigned (g f) f.count

    field-other : (fs : List Field)
        → ((r : Run) (ts : List Slot) → pack_all r (filled area ts (map other fs)) ≡ pack_all r (filled area ts fs))
        → (r : Run) (ts : List Slot) (k : Role) (u v : Bool) (n : Count)
        → pack_all r (filled area ts (flag k v n ∷ map other fs)) ≡ pack_all r (filled area ts (flag k u n ∷ fs))
    unfolding pack_all filled
    field-other fs ih r ts (Data s) u v n = ih _ (drop 1 ts)
    field-other fs ih r ts (Move m) u v n = ih _ ts

    fields-other : (fs : List Field) (r : Run) (ts : List Slot)
        → pack_all r (filled area ts (map other fs)) ≡ pack_all r (filled area ts fs)
    unfolding pack_all filled
    fields-other [] r ts = refl
    fields-other (f ∷ fs) r ts =
        field-other fs (λ q us. fields-other fs q us) r ts f.role f.unsigned (g f) f.count

    packed-other : (fs : List Field) (ts : List Slot)
        → packed (filled area ts (map other fs)) ≡ packed (filled area ts fs)
    unfolding packed
    packed-other fs ts = ap (λ (r : Run). r.out) (fields-other fs start ts)

    finished-other : (fs : List Field) (ts : List Slot) (output : List ℕ)
        → finished area ts (map other fs) output ≡ finished area ts fs output
    unfolding finished
    finished-other fs ts output = rw (arguments-other fs 0 ts, packed-other fs ts)

  -- ---- reading

  position-other : (size : ℕ) (fs : List Field)
      → ((at : ℕ) → positions_from size at (map other fs) ≡ positions_from size at fs)
      → (at : ℕ) (k : Role) (u v : Bool) (n : Count)
      → positions_from size at (flag k v n ∷ map other fs) ≡ positions_from size at (flag k u n ∷ fs)
  unfolding positions_from
  position-other size fs ih at (Data s) u v n = ap (λ (ps : List ℕ). at ∷ ps) (ih _)
  position-other size fs ih at (Move m) u v n = ih _

  positions-other : (size : ℕ) (fs : List Field) (at : ℕ)
      → positions_from size at (map other fs) ≡ positions_from size at fs
  unfolding positions_from
  positions-other size [] at = refl
  positions-other size (f ∷ fs) at =
      position-other size fs (λ to. positions-other size fs to) at f.role f.unsigned (g f) f.count

  step_other : (size : ℕ) (fs : List Field) → ((at : ℕ) → steps_from size at (map other fs) ≡ steps_from size at fs)
      → (at : ℕ) (k : Role) (u v : Bool) (n : Count)
      → steps_from size at (flag k v n ∷ map other fs) ≡ steps_from size at (flag k u n ∷ fs)
  unfolding steps_from
  step_other size fs ih at (Data s) u v n = rw (ih (at + bytes_for s (items_of s n (size - at))))
  step_other size fs ih at (Move m) u v n = ap suc (ih _)

  steps-other : (size : ℕ) (fs : List Field) (at : ℕ) → steps_from size at (map other fs) ≡ steps_from size at fs
  unfolding steps_from
  steps-other size [] at = refl
  steps-other size (f ∷ fs) at =
      step_other size fs (λ to. steps-other size fs to) at f.role f.unsigned (g f) f.count

-- the values, where the flags of integers stay
loaded-same : (s : Shape) (u : Bool) (n : ℕ) (bs : List ℕ) → loaded s (flag_in (Data s) u) n bs ≡ loaded s u n bs
unfolding loaded
loaded-same (Text pad) u n bs = refl
loaded-same (Digits hex high) u n bs = refl
loaded-same (Integers w big) u n bs = refl
loaded-same (Reals single big) u n bs = refl

module _ (bs : List ℕ) where
  value_same : (fs : List Field) → ((at : ℕ) → values_from bs at (map flagged_integers fs) ≡ values_from bs at fs)
      → (at : ℕ) (k : Role) (u : Bool) (n : Count)
      → values_from bs at (flag k (flag_in k u) n ∷ map flagged_integers fs) ≡ values_from bs at (flag k u n ∷ fs)
  unfolding values_from
  value_same fs ih at (Data s) u n =
      let m : ℕ = items_of s n (length bs - at) in
      rw (loaded-same s u m (part bs at (bytes_for s m)), ih (at + bytes_for s m))
  value_same fs ih at (Move m) u n = ih _

  values_same : (fs : List Field) (at : ℕ) → values_from bs at (map flagged_integers fs) ≡ values_from bs at fs
  unfolding values_from
  values_same [] at = refl
  values_same (f ∷ fs) at = value_same fs (λ to. values_same fs to) at f.role f.unsigned f.count

-- ---- the calls

-- packing by the fields of a text that keeps to its size
abbrev packs_by : List ℕ → List ℕ → List ℕ → List Field → Result (List ℕ)
packs_by slots area output fs = do
  _ ← demand (leb (length output) max_record && table_fits (length slots) (length area)) BadSize 0
  _ ← demand (eqb (length (slots_of slots)) (slot_count fs)) BadSlots 0
  finished area (slots_of slots) fs output

packs-by-fields : (layout slots area output : List ℕ) (fs : List Field) → fields_of true layout ≡ ok fs
    → length layout ≤ max_layout
    → packs layout slots area output ≡ packs_by slots area output (map unflagged fs)
unfolding packs
packs-by-fields layout slots area output fs f short =
    let all = finished-other (λ _. false) area fs (slots_of slots) output in
    rw (le-leb (length layout) max_layout short, f, count-other (λ _. false) fs, all)

pub pack-ignores-flags : PackIgnoresFlags
unfolding pack
pack-ignores-flags layout layout' a slots area output =
    ap (pack_effect output)
    (packs-by-fields layout slots area output a.fields a.has-fields a.short
    ∙ ap (packs_by slots area output) a.same
    ∙ sym (packs-by-fields layout' slots area output a.fields' a.has-fields' a.short'))

-- and reading
abbrev reads_by : List ℕ → List ℕ → List ℕ → ℕ → List Field → Result (List Value)
reads_by bs slots area mark fs = do
  _ ← demand (leb (length bs) max_record && table_fits (length slots) (length area) && leb mark (length area)) BadSize 0
  _ ← demand (leb (slot_count fs) (length (slots_of slots))) BadSlots 0
  let vs = values_from bs 0 fs
  _ ← demand (leb (mark + length (value_bytes vs)) (length area)) NoRoom 0
  ok vs

abbrev all_by : List ℕ → List ℕ → List ℕ → ℕ → List Field → ReadAll
all_by bs slots area mark fs =
    with_steps (read_effect slots area mark (positions_from (length bs) 0 fs) (reads_by bs slots area mark fs))
    (steps_of (length bs) (ok fs) (reads_by bs slots area mark fs))

module _ (layout bs slots area : List ℕ) (mark : ℕ) (fs : List Field) (f : fields_of false layout ≡ ok fs)
    (short : length layout ≤ max_layout) where
  abbrev g : Field → Bool
  g f = flag_in f.role f.unsigned

  reads-by-fields : reads layout bs slots area mark ≡ reads_by bs slots area mark (map flagged_integers fs)
  unfolding reads
  reads-by-fields = rw (le-leb (length layout) max_layout short, f, count-other g fs, values_same bs fs 0)

  steps-by : (r : Result (List Value))
      → steps_of (length bs) (ok fs) r ≡ steps_of (length bs) (ok (map flagged_integers fs)) r
  steps-by (ok vs) = sym (steps-other g (length bs) fs 0)
  steps-by (refused why place) = refl

  all-by-fields : read_all layout bs slots area mark ≡ all_by bs slots area mark (map flagged_integers fs)
  unfolding read read_steps
  all-by-fields =
      let steps = steps-by (reads_by bs slots area mark (map flagged_integers fs)) in
      rw (reads-by-fields, f, positions-other g (length bs) fs 0, steps)

pub read-ignores-flags : ReadIgnoresFlags
read-ignores-flags layout layout' a bs slots area mark =
    all-by-fields layout bs slots area mark a.fields a.has-fields a.short
    ∙ ap (all_by bs slots area mark) a.same
    ∙ sym (all-by-fields layout' bs slots area mark a.fields' a.has-fields' a.short')
