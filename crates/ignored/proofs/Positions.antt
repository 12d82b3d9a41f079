-- A slot without its position serves every test and shows every value as it did, and two tables that differ in
-- positions alone have the same slots without them.
use Prim.Native.Nat.{ℕ, suc, ◌+◌, ◌*◌, ◌≤◌, ◌<◌}
use native.Mathlib.Nat.{add-zero}
use native.Mathlib.Omega.{arith}
use mathlib.Core.Path.{◌≡◌, refl, sym, ap, ◌∙◌}
use mathlib.Core.Bool.{Bool, true}
use mathlib.Core.List.{List, [], ◌∷◌, map}
use lib.ListN.{length, get_or, length-map, get_or-map}
use lib.Seq.{ext_get_or, get_or-drop}
use lib.Dec.{eqb}
use Rattle.layout.specs.declared.Role.{Role}
use Rattle.layout.specs.declared.Role.TheVariants.{Data, Move}
use Rattle.layout.specs.declared.Count.{Count}
use Rattle.layout.specs.declared.Field.{Field}
use Rattle.layout.specs.declared.Refusal.TheVariants.{BadSize, BadSlots}
use Rattle.layout.specs.Refusals.{Result, ok, refused, ◌>>=◌, demand}
use Rattle.layout.specs.Layout.{fields_of, slot_count}
use Rattle.record.specs.declared.slots.Slot.{Slot}
use Rattle.record.specs.Table.{slot_width, slots_of, shown}
use Rattle.record.specs.Slots.{slot_at}
use Rattle.record.specs.Geometry.{sizes_fit}
use Rattle.record.specs.Packing.{argument_fits, arguments_fit, filled, finished, packs, pack, pack_effect}
use Rattle.record.proofs.SlotLaws.{slot-here}
use Rattle.record.proofs.Tables.{length-slots}
use Rattle.sheet.specs.Entries.{Entry}
use Rattle.sheet.specs.Sheet.{entry_of, entries_of, slots_writable, writes_sheet, write_sheet}
use Rattle.mean.specs.Mean.{leg_of, legs_of, legs, mean}
use Rattle.ignored.specs.Positions.{ButPositions, PackIgnoresPositions, WriteIgnoresPositions, MeanIgnoresPositions}

-- a slot without its position
abbrev bare : Slot → Slot
bare s = record { kind = s.kind; start = s.start; len = s.len; position = 0 }

abbrev no_slot : Slot
no_slot = record { kind = 0; start = 0; len = 0; position = 0 }

-- ---- the same slots but for positions

slot-no : (ns : List ℕ) (i : ℕ) → i < length (slots_of ns) → get_or (slots_of ns) i no_slot ≡ slot_at ns i
slot-no ns i h =
    let there : slot_width * i + slot_width ≤ length ns = omega (arith, length-slots ns) in
    ap (λ (k : ℕ). get_or (slots_of ns) k no_slot) (sym (add-zero i))
    ∙ sym (get_or-drop i (slots_of ns) 0 no_slot)
    ∙ ap (λ (ss : List Slot). get_or ss 0 no_slot) (slot-here ns i there)

module _ (xs ys : List ℕ) (e : ButPositions xs ys) where
  bare-at : (i : ℕ) → bare (slot_at xs i) ≡ bare (slot_at ys i)
  unfolding slot_at
  bare-at i =
      let kind = e.others (slot_width * i) (λ z. omega arith) in
      let start = e.others (slot_width * i + 1) (λ z. omega arith) in
      let len = e.others (slot_width * i + 2) (λ z. omega arith) in
      rw (kind, start, len)

  as_many : length (slots_of xs) ≡ length (slots_of ys)
  as_many = rw (length-slots xs, length-slots ys, e.as_many)

  same-bare : map bare (slots_of xs) ≡ map bare (slots_of ys)
  same-bare =
      ext_get_or no_slot (map bare (slots_of xs)) (map bare (slots_of ys)) (rw (length-map, length-map) as_many)
      (λ i l.
      let inside : i < length (slots_of xs) = rw length-map at l in
      get_or-map bare (slots_of xs) i no_slot
      ∙ ap bare (slot-no xs i inside)
      ∙ bare-at i
      ∙ ap bare (sym (slot-no ys i (omega (arith, as_many))))
      ∙ sym (get_or-map bare (slots_of ys) i no_slot))

-- ---- packing

module _ (area : List ℕ) where
  argument-bare : (fs : List Field)
      → ((i : ℕ) (ts : List Slot) → arguments_fit area i (map bare ts) fs ≡ arguments_fit area i ts fs)
      → (i : ℕ) (ts : List Slot) (k : Role) (u : Bool) (n : Count)
      → arguments_fit area i (map bare ts) (record { role = k; unsigned = u; count = n } ∷ fs)
      ≡ arguments_fit area i ts (record { role = k; unsigned = u; count = n } ∷ fs)
  unfolding arguments_fit argument_fits shown
  argument-bare fs ih i [] k u n = refl
  argument-bare fs ih i (t ∷ ts) (Data s) u n = rw (ih (suc i) ts)
  argument-bare fs ih i (t ∷ ts) (Move m) u n = ih i (t ∷ ts)

  arguments-bare : (fs : List Field) (i : ℕ) (ts : List Slot)
      → arguments_fit area i (map bare ts) fs ≡ arguments_fit area i ts fs
  unfolding arguments_fit
  arguments-bare [] i ts = refl
  arguments-bare (f ∷ fs) i ts =
      argument-bare fs (λ j us. arguments-bare fs j us) i ts f.role f.unsigned f.count

  fill-bare : (fs : List Field) → ((ts : List Slot) → filled area (map bare ts) fs ≡ filled area ts fs)
      → (ts : List Slot) (k : Role) (u : Bool) (n : Count)
      → filled area (map bare ts) (record { role = k; unsigned = u; count = n } ∷ fs)
      ≡ filled area ts (record { role = k; unsigned = u; count = n } ∷ fs)
  unfolding filled shown
  fill-bare fs ih [] k u n = refl
  fill-bare fs ih (t ∷ ts) (Data s) u n = rw (ih ts)
  fill-bare fs ih (t ∷ ts) (Move m) u n = rw (ih (t ∷ ts))

  filled-bare : (fs : List Field) (ts : List Slot) → filled area (map bare ts) fs ≡ filled area ts fs
  unfolding filled
  filled-bare [] ts = refl
  filled-bare (f ∷ fs) ts = fill-bare fs (λ us. filled-bare fs us) ts f.role f.unsigned f.count

  finished-bare : (output : List ℕ) (fs : List Field) (ts : List Slot)
      → finished area (map bare ts) fs output ≡ finished area ts fs output
  unfolding finished
  finished-bare output fs ts = rw (arguments-bare fs 0 ts, filled-bare fs ts)

-- what follows a test does not matter where that refuses
bind-same : {A B : Type 0} (r : Result A) (f g : A → Result B) → ((a : A) → f a ≡ g a) → (r >>= f) ≡ (r >>= g)
bind-same (ok a) f g h = h a
bind-same (refused why place) f g h = refl

module _ (slots slots' area : List ℕ) (e : ButPositions slots slots') where
  finished-same : (output : List ℕ) (fs : List Field)
      → finished area (slots_of slots) fs output ≡ finished area (slots_of slots') fs output
  finished-same output fs =
      sym (finished-bare area output fs (slots_of slots))
      ∙ ap (λ (ts : List Slot). finished area ts fs output) (same-bare slots slots' e)
      ∙ finished-bare area output fs (slots_of slots')

  packs-same : (layout output : List ℕ) → packs layout slots area output ≡ packs layout slots' area output
  unfolding packs
  packs-same layout output =
      rw (e.as_many, as_many slots slots' e)
      (bind-same (demand (sizes_fit layout slots' output area) BadSize 0) _ _
      (λ _.
      bind-same (fields_of true layout) _ _
      (λ fs.
      bind-same (demand (eqb (length (slots_of slots')) (slot_count fs)) BadSlots 0) _ _
      (λ _. finished-same output fs))))

pub pack-ignores-positions : PackIgnoresPositions
unfolding pack
pack-ignores-positions layout slots slots' area output e =
    ap (pack_effect output) (packs-same slots slots' area e layout output)

-- ---- sheets

slots-fit-bare : (area : List ℕ) (ts : List Slot) (i : ℕ) → slots_writable area i (map bare ts) ≡ slots_writable area i ts
unfolding slots_writable
slots-fit-bare area [] i = refl
slots-fit-bare area (t ∷ ts) i = rw (slots-fit-bare area ts (suc i))

entries-bare : (area : List ℕ) (ts : List Slot) → entries_of area (map bare ts) ≡ entries_of area ts
unfolding entries_of entry_of
entries-bare area [] = refl
entries-bare area (t ∷ ts) = ap (λ (es : List Entry). entry_of area t ∷ es) (entries-bare area ts)

pub write-ignores-positions : WriteIgnoresPositions
unfolding write_sheet writes_sheet
write-ignores-positions slots slots' area buffer e =
    let fits : slots_writable area 0 (slots_of slots) ≡ slots_writable area 0 (slots_of slots') =
    sym (slots-fit-bare area (slots_of slots) 0)
    ∙ ap (slots_writable area 0) (same-bare slots slots' e)
    ∙ slots-fit-bare area (slots_of slots') 0 in
    let entries : entries_of area (slots_of slots) ≡ entries_of area (slots_of slots') =
    sym (entries-bare area (slots_of slots))
    ∙ ap (entries_of area) (same-bare slots slots' e)
    ∙ entries-bare area (slots_of slots') in
    rw (e.as_many, fits, entries)

-- ---- the mean

legs-bare : (area : List ℕ) (ts : List Slot) (i : ℕ) → legs_of area i (map bare ts) ≡ legs_of area i ts
unfolding legs_of leg_of shown
legs-bare area [] i = refl
legs-bare area (t ∷ ts) i = rw (legs-bare area ts (suc i))

pub mean-ignores-positions : MeanIgnoresPositions
unfolding mean legs
mean-ignores-positions slots slots' area e =
    let same : legs_of area 0 (slots_of slots) ≡ legs_of area 0 (slots_of slots') =
    sym (legs-bare area (slots_of slots) 0)
    ∙ ap (legs_of area 0) (same-bare slots slots' e)
    ∙ legs-bare area (slots_of slots') 0 in
    rw (e.as_many, same)
