-- A call that passes each test, in the order of its definition, is accepted with its result; and what is accepted has
-- passed each test.
use Prim.Native.Nat.{ℕ, ◌+◌, ◌≤◌}
use mathlib.Core.Path.{◌≡◌, refl, ap, ◌∙◌}
use mathlib.Core.Bool.{Bool, true, false, ◌&&◌}
use mathlib.Core.List.{List}
use lib.ListN.{length}
use lib.Seq.{take_at}
use lib.Dec.{T, leb, eqb}
use borrow.Author.Tests.{le-leb, eq-eqb, leb-true, eqb-true}
use Rattle.layout.specs.declared.Field.{Field}
use Rattle.layout.specs.Layout.{fields_of, slot_count}
use Rattle.layout.specs.declared.Refusal.TheVariants.{BadSize, BadSlots, NoRoom}
use Rattle.layout.specs.Refusals.{Result, ok, refused}
use Rattle.layout.proofs.Laws.{bound, demanded, ok-inj, no-number-zero}
use Rattle.record.specs.Table.{slots_of, value_bytes}
use Rattle.record.specs.Packing.{filled, arguments_fit, packed, finished, packs, Packed, pack_effect}
use Rattle.record.specs.Geometry.{sizes_fit}
use Rattle.record.specs.Reading.{values_from, positions_from, steps_from, reads, put_into, read, read_steps}
use Rattle.runs.specs.Ends.{record_of}

pub T→true : (t : Bool) → T t → t ≡ true
T→true true h = refl
T→true false h = absurd h

pub packs-by : (text slots area output : List ℕ) (fs : List Field) → fields_of true text ≡ ok fs → sizes_fit text slots output area ≡ true
    → length (slots_of slots) ≡ slot_count fs → arguments_fit area 0 (slots_of slots) fs ≡ ok tt
    → length (packed (filled area (slots_of slots) fs)) ≤ length output → packs text slots area output ≡ ok (packed (filled area (slots_of slots) fs))
unfolding packs finished
packs-by text slots area output fs f s c a r = rw (s, f, eq-eqb _ _ c, a, le-leb _ _ r)

pub read_by : (text bs slots area : List ℕ) (mark : ℕ) (fs : List Field) → fields_of false text ≡ ok fs → (sizes_fit text slots bs area && leb mark (length area)) ≡ true
    → slot_count fs ≤ length (slots_of slots) → mark + length (value_bytes (values_from bs 0 fs)) ≤ length area
    → read text bs slots area mark ≡ put_into slots area mark (positions_from (length bs) 0 fs) (values_from bs 0 fs)
unfolding read reads
read_by text bs slots area mark fs f s c r = rw (s, f, le-leb _ _ c, le-leb _ _ r)

pub steps-by : (text bs slots area : List ℕ) (mark : ℕ) (fs : List Field) → fields_of false text ≡ ok fs → (sizes_fit text slots bs area && leb mark (length area)) ≡ true
    → slot_count fs ≤ length (slots_of slots) → mark + length (value_bytes (values_from bs 0 fs)) ≤ length area
    → read_steps text bs slots area mark ≡ steps_from (length bs) 0 fs
unfolding read_steps reads
steps-by text bs slots area mark fs f s c r = rw (s, f, le-leb _ _ c, le-leb _ _ r)

-- ---- the other way round: what an accepted packing has passed

-- the tests, of the fields fs and the result bs
pub record Passed (text slots area output : List ℕ) (fs : List Field) (bs : List ℕ) : Type 0 where
  pub fields : fields_of true text ≡ ok fs
  pub sizes : sizes_fit text slots output area ≡ true
  pub count : length (slots_of slots) ≡ slot_count fs
  pub served : arguments_fit area 0 (slots_of slots) fs ≡ ok tt
  pub result : packed (filled area (slots_of slots) fs) ≡ bs
  pub room : length bs ≤ length output

module _ (text slots area output : List ℕ) where
  finishes : (fs : List Field) (bs : List ℕ) → fields_of true text ≡ ok fs → sizes_fit text slots output area ≡ true → length (slots_of slots) ≡ slot_count fs
      → finished area (slots_of slots) fs output ≡ ok bs → Passed text slots area output fs bs
  unfolding finished
  finishes fs bs f s c e =
      let (x, served, e₁) = bound (arguments_fit area 0 (slots_of slots) fs) _ bs e in
      let (room, e₂) = demanded (leb (length (packed (filled area (slots_of slots) fs))) (length output)) NoRoom 0 _ bs e₁ in
      let result : packed (filled area (slots_of slots) fs) ≡ bs = ok-inj e₂ in
      let fits : length (packed (filled area (slots_of slots) fs)) ≤ length output = leb-true _ _ room in
      record { fields = f; sizes = s; count = c; served = served; result = result; room = rw result at fits }

  pub packs-passed : (bs : List ℕ) → packs text slots area output ≡ ok bs → (fs : List Field) × Passed text slots area output fs bs
  unfolding packs
  packs-passed bs e =
      let (sizes, e₁) = demanded (sizes_fit text slots output area) BadSize 0 _ bs e in
      let (fs, fields, e₂) = bound (fields_of true text) _ bs e₁ in
      let (count, e₃) = demanded (eqb (length (slots_of slots)) (slot_count fs)) BadSlots 0 _ bs e₂ in
      (fs, finishes fs bs fields sizes (eqb-true _ _ count) e₃)

-- an accepted call has a result
pub accepted-result : (output : List ℕ) (r : Result (List ℕ)) → (pack_effect output r).answer.number ≡ 0 → (bs : List ℕ) × (r ≡ ok bs)
accepted-result output (ok bs) e = (bs, refl)
accepted-result output (refused why place) e = no-number-zero why e

-- and its record is that
pub result-is : (output bs : List ℕ) (p : Packed) → p ≡ pack_effect output (ok bs) → record_of p ≡ bs
result-is output bs p e = ap record_of e ∙ take_at bs _ (length bs) refl

-- a packing looks at no more of the buffer than its length
pub same-room : (text slots area x y : List ℕ) → length x ≡ length y → packs text slots area x ≡ packs text slots area y
unfolding packs finished
same-room text slots area x y e = rw e
