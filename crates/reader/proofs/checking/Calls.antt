-- What each test of a call says of the reading, and what each way out of the check answers.
use Prim.Native.Nat.{ℕ, ◌+◌, ◌-◌, ◌*◌, ◌/◌, ◌≤◌, ◌<◌}
use native.Mathlib.Omega.{arith}
use native.Mathlib.Nat.{le_refl}
use mathlib.Core.Path.{◌≡◌, sym, ap, ◌∙◌}
use mathlib.Core.Bool.{true, false}
use mathlib.Core.List.{List}
use borrow.Author.Tests.{leb-true, le-leb, lt-leb, lt-ltb, le-ltb}
use lib.Dec.{leb}
use lib.ListN.{length, take}
use lib.Seq.{length-take-le}
use Rattle.std.specs.declared.result.Result as Std
use Rattle.std.specs.declared.result.Result.TheVariants.{Ok, Err}
use Rattle.layout.specs.declared.Field.{Field}
use Rattle.layout.specs.declared.Refusal.{Refusal}
use Rattle.layout.specs.declared.Refusal.TheVariants.{BadSize, BadSlots, NoRoom}
use Rattle.layout.specs.Refusals.{Result, ok, refused}
use Rattle.layout.specs.Layout.{max_layout, fields_of, slot_count}
use Rattle.layout.specs.inside.Parsing.{decoded}
use Rattle.layout.specs.declared.Refused.{Refused}
use Rattle.layout.proofs.Decoded.{Learnt, decoded-front}
use Rattle.record.specs.declared.Answer.{Answer}
use Rattle.record.proofs.Tables.{length-slots}
use Rattle.record.proofs.Bytes.{and-true}
use Rattle.record.proofs.Fields.{split}
use Rattle.record.specs.Table.{slot_width, max_slots, max_record, max_area, slots_of, Value, value_bytes}
use Rattle.record.specs.Packing.{accepted, refusal}
use Rattle.record.specs.Reading.{values_from, reads_fields, reads}
use Rattle.record.specs.Geometry.{lengths_fit}
use Rattle.record.proofs.Sizes.{Sized, sized}
use Rattle.reader.specs.inside.Sizes.{read_lent_fits}
use Rattle.reader.specs.inside.Checks.{read_checked, fitting}

-- what is known where number 1 is not given
pub record Fit (layout slots bytes area mark : ℕ) : Type 0 where
  pub test : read_lent_fits layout slots bytes area mark ≡ true
  pub text : layout ≤ max_layout
  pub table : slots ≤ slot_width * max_slots
  pub whole : bytes ≤ max_record
  pub limit : area ≤ max_area
  pub start : mark ≤ area

pub fit : {layout slots bytes area mark : ℕ} → read_lent_fits layout slots bytes area mark ≡ true → Fit layout slots bytes area mark
fit {layout} {slots} {bytes} {area} {mark} h =
    let (lengths, start) = and-true (lengths_fit layout slots bytes area) (leb mark area) h in
    let all : Sized layout slots bytes area = sized lengths in
    record {
      test = h;
      text = all.text;
      table = all.lent.table;
      whole = all.whole;
      limit = all.lent.limit;
      start = leb-true mark area start;
    }

-- ---- numbers 5 and 11

same-error : {r : Std.Result (Unit {0}) Refused} {d e : Refused} → r ≡ Err d → r ≡ Err e → d ≡ e
same-error h k = cc (sym h ∙ k)

pub not-both : {r : Std.Result (Unit {0}) Refused} {u : Unit {0}} {e : Refused} → r ≡ Ok u → r ≡ Err e → ⊥
not-both h k = let z : ◌≡◌ {A = ℕ} 0 1 = cc (sym h ∙ k) in absurd (omega arith)

abbrev pub Fits : Type 0
Fits = Std.Result (Unit {0}) Refused

abbrev pub bad : Refusal → Fits
bad why = Err (record { why = why; place = 0 })

-- which of the three answers it is
pub fitting-cases {ℓ} : {X : Type ℓ} (slots taken room size : ℕ) {r : Fits} → r ≡ fitting slots taken room size
    → (slots / slot_width < taken → r ≡ bad BadSlots → X)
    → (taken ≤ slots / slot_width → room < size → r ≡ bad NoRoom → X)
    → (taken ≤ slots / slot_width → size ≤ room → r ≡ Ok (tt {0}) → X)
    → X
unfolding fitting
fitting-cases slots taken room size e few lacks fits =
    split taken (slots / slot_width)
    (λ h. split size room (λ k. fits h k (rw (le-ltb _ _ h, le-ltb _ _ k) at e)) (λ k. lacks h k (rw (le-ltb _ _ h, lt-ltb _ _ k) at e)))
    (λ h. few h (rw (lt-ltb _ _ h) at e))

-- a refusal is at no place
pub fitting-place : (slots taken room size : ℕ) {r : Fits} {d : Refused} → r ≡ fitting slots taken room size → r ≡ Err d → d.place ≡ 0
fitting-place slots taken room size e h =
    fitting-cases slots taken room size e
    (λ few q. ap (λ (x : Refused). x.place) (same-error h q))
    (λ few lacks q. ap (λ (x : Refused). x.place) (same-error h q))
    (λ few fits q. absurd (not-both q h))

-- ---- what each test says of a reading by fields that stand in a run of `size` bytes or numbers

module _ (size : ℕ) (o : Result (List Field)) (bs slots area : List ℕ) (mark : ℕ) where
  pub sizes-refuse-fields : read_lent_fits size (length slots) (length bs) (length area) mark ≡ false → reads_fields size o bs slots area mark ≡ refused BadSize 0
  unfolding reads_fields
  sizes-refuse-fields e = rw e

  module _ (sizes : Fit size (length slots) (length bs) (length area) mark) where
    pub fields-refuse : {why : Refusal} {p : ℕ} → o ≡ refused why p → reads_fields size o bs slots area mark ≡ refused why p
    unfolding reads_fields
    fields-refuse e = rw (sizes.test, e)

    module _ {n taken : ℕ} {ws : List ℕ} (l : Learnt o n taken ws) where
      slots-refuse : length slots / slot_width < taken → reads_fields size o bs slots area mark ≡ refused BadSlots 0
      unfolding reads_fields
      slots-refuse h = let k : length (slots_of slots) < slot_count (decoded n ws) = rw (length-slots, ← l.taken) h in rw (sizes.test, l.fields, lt-leb _ _ k)

      module _ (enough : taken ≤ length slots / slot_width) where
        rows : leb (slot_count (decoded n ws)) (length (slots_of slots)) ≡ true
        rows = let k : slot_count (decoded n ws) ≤ length (slots_of slots) = rw (length-slots, ← l.taken) enough in le-leb _ _ k

        room-refuses : length area - mark < length (value_bytes (values_from bs 0 (decoded n ws))) → reads_fields size o bs slots area mark ≡ refused NoRoom 0
        unfolding reads_fields
        room-refuses h =
            let k : length area < mark + length (value_bytes (values_from bs 0 (decoded n ws))) = omega (arith, sizes.start) in
            rw (sizes.test, l.fields, rows, lt-leb _ _ k)

        module _ (fits : length (value_bytes (values_from bs 0 (decoded n ws))) ≤ length area - mark) where
          inside : mark + length (value_bytes (values_from bs 0 (decoded n ws))) ≤ length area
          inside = omega (arith, sizes.start)

          accepted-all : reads_fields size o bs slots area mark ≡ ok (values_from bs 0 (decoded n ws))
          unfolding reads_fields
          accepted-all = rw (sizes.test, l.fields, rows, le-leb _ _ inside)

      -- either answer of `fits`
      pub fitted {ℓ} : {X : Type ℓ} {r : Fits} → r ≡ fitting (length slots) taken (length area - mark) (length (value_bytes (values_from bs 0 (decoded n ws))))
          → ((why : Refusal) → reads_fields size o bs slots area mark ≡ refused why 0 → r ≡ bad why → X)
          → (reads_fields size o bs slots area mark ≡ ok (values_from bs 0 (decoded n ws)) → taken ≤ length slots / slot_width → r ≡ Ok (tt {0}) → X)
          → X
      fitted {r} e refuses accepts =
          fitting-cases (length slots) taken (length area - mark) (length (value_bytes (values_from bs 0 (decoded n ws)))) e
          (λ few q. refuses BadSlots (slots-refuse few) q)
          (λ enough lacks q. refuses NoRoom (room-refuses enough lacks) q)
          (λ enough fits q. accepts (accepted-all enough fits) enough q)

-- ---- what each way out answers, and what each test says of a reading by a layout

module _ (layout bs slots area : List ℕ) (mark : ℕ) where
  pub sizes-refuse : read_lent_fits (length layout) (length slots) (length bs) (length area) mark ≡ false → reads layout bs slots area mark ≡ refused BadSize 0
  unfolding reads
  sizes-refuse e = sizes-refuse-fields (length layout) (fields_of false layout) bs slots area mark e

  pub check-refused : {r : Answer} {why : Refusal} {p : ℕ} → reads layout bs slots area mark ≡ refused why p → r ≡ refusal why p → r ≡ read_checked layout bs slots area mark
  unfolding read_checked
  check-refused e q = rw (e, q)

  pub check-accepted : {r : Answer} {vs : List Value} {n taken : ℕ} {ws : List ℕ} → Learnt (fields_of false layout) n taken ws → reads layout bs slots area mark ≡ ok vs → r ≡ accepted taken 0
      → r ≡ read_checked layout bs slots area mark
  unfolding read_checked
  check-accepted l e q = q ∙ rw (e, l.fields, l.taken)

  module _ (sizes : Fit (length layout) (length slots) (length bs) (length area) mark) where
    pub parse-refuses : {why : Refusal} {p : ℕ} → fields_of false layout ≡ refused why p → reads layout bs slots area mark ≡ refused why p
    unfolding reads
    parse-refuses e = fields-refuse (length layout) (fields_of false layout) bs slots area mark sizes e

    module _ {n taken : ℕ} {ws : List ℕ} (l : Learnt (fields_of false layout) n taken ws) {r : Fits}
        (e : r ≡ fitting (length slots) taken (length area - mark) (length (value_bytes (values_from bs 0 (decoded n ws))))) where
      pub fits-refuse : {d : Refused} → r ≡ Err d → reads layout bs slots area mark ≡ refused d.why d.place
      unfolding reads
      fits-refuse {d} h =
          fitted (length layout) (fields_of false layout) bs slots area mark sizes l e
          (λ why k q. let same : d ≡ record { why = why; place = 0 } = same-error h q in rw same k)
          (λ k few q. absurd (not-both q h))

      pub fits-accept : {u : Unit {0}} → r ≡ Ok u → (reads layout bs slots area mark ≡ ok (values_from bs 0 (decoded n ws))) × (taken ≤ length slots / slot_width)
      unfolding reads
      fits-accept h =
          fitted (length layout) (fields_of false layout) bs slots area mark sizes l e
          (λ why k q. absurd (not-both h q))
          (λ k few q. (k, few))
