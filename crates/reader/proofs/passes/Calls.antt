-- What each way out of a reading by the fields of the codes leaves.
use Prim.Native.Nat.{ℕ, ◌-◌, ◌*◌, ◌/◌, ◌≤◌}
use native.Mathlib.Nat.{le_trans}
use native.Mathlib.Omega.{arith}
use mathlib.Core.Path.{◌≡◌, refl, sym, ap, ◌∙◌}
use mathlib.Core.Bool.{Bool, true, false, ◌||◌}
use mathlib.Core.List.{List}
use borrow.Author.Tests.{leb-true, le-ltb}
use lib.Dec.{leb}
use lib.ListN.{length}
use Rattle.layout.specs.inside.Parsing.{decoded}
use Rattle.std.specs.declared.result.Result.TheVariants.{Ok, Err}
use Rattle.layout.specs.declared.Refused.{Refused}
use Rattle.record.specs.Packing.{refusal}
use Rattle.record.proofs.Bytes.{and-true}
use Rattle.record.specs.Table.{slot_width, value_bytes}
use Rattle.record.specs.Reading.{ReadAll}
use Rattle.record.proofs.Readings.{values-few}
use Rattle.reading.specs.inside.Run.{values_of}
use Rattle.reading.specs.inside.Tables.{put_all, TableRoom}
use Rattle.reading.specs.inside.Bounds.{value_bound}
use Rattle.reading.proofs.measure.Room.{values-room}
use Rattle.reading.proofs.measure.Bounds.{values-bound}
use Rattle.reader.specs.inside.Sizes.{surely_fits}
use Rattle.reader.specs.inside.Checks.{fitting}
use Rattle.reader.proofs.checking.Calls.{Fits, not-both, fitting-cases}
use Rattle.reader.specs.inside.passes.{ReadReady, surely_read, read_fitting, read_codes}

either {ℓ} : {X : Type ℓ} (a b : Bool) → (a || b) ≡ true → (a ≡ true → X) → (b ≡ true → X) → X
either true b h f g = f refl
either false b h f g = g h

module _ {n taken : ℕ} {ws bs slots area : List ℕ} {mark : ℕ} (k : ReadReady n taken ws bs slots area mark) where
  module _ (rows : taken ≤ length slots / slot_width) (size : length (value_bytes (values_of n ws bs)) ≤ length area - mark) where
    table-room : TableRoom (values_of n ws bs) slots area mark
    table-room = record { rows = omega (arith, k.count, values-few bs 0 (decoded n ws)); table = k.table; room = omega (arith, k.start); limit = k.limit }

    codes-put : {e : ReadAll} → e ≡ put_all n ws bs slots area mark → e ≡ read_codes n taken ws bs slots area mark
    unfolding read_codes fitting
    codes-put q = q ∙ rw (le-ltb _ _ rows, le-ltb _ _ size)

  -- where they surely fit
  module _ (t : surely_fits n taken (length bs) (length slots) (length area - mark) ≡ true) where
    sure-both : (leb (8 * (n * length bs)) (length area - mark) ≡ true) × (leb taken (length slots / slot_width) ≡ true)
    sure-both = and-true (leb (8 * (n * length bs)) (length area - mark)) (leb taken (length slots / slot_width)) t

    sure-rows : taken ≤ length slots / slot_width
    sure-rows = leb-true taken (length slots / slot_width) sure-both.1

    sure-size : length (value_bytes (values_of n ws bs)) ≤ length area - mark
    sure-size = omega (arith, values-room n ws bs, leb-true (8 * (n * length bs)) (length area - mark) sure-both.0)

    pub sure-room : TableRoom (values_of n ws bs) slots area mark
    sure-room = table-room sure-rows sure-size

    pub sure-put : {e : ReadAll} → e ≡ put_all n ws bs slots area mark → e ≡ read_codes n taken ws bs slots area mark
    sure-put q = codes-put sure-rows sure-size q

  -- by the lengths alone or by the fields
  surely {ℓ} : {X : Type ℓ} → surely_read n taken ws (length bs) (length slots) (length area - mark) ≡ true
      → (taken ≤ length slots / slot_width → length (value_bytes (values_of n ws bs)) ≤ length area - mark → X) → X
  unfolding surely_read
  surely t f =
      either (surely_fits n taken (length bs) (length slots) (length area - mark)) _ t
      (λ h. f (sure-rows h) (sure-size h))
      (λ h.
      let (rows, size) = and-true (leb taken (length slots / slot_width)) (leb (value_bound (length bs) (decoded n ws)) (length area - mark)) h in
      f (leb-true taken (length slots / slot_width) rows) (le_trans (values-bound n ws bs) (leb-true _ _ size)))

  module _ (t : surely_read n taken ws (length bs) (length slots) (length area - mark) ≡ true) where
    pub surely-room : TableRoom (values_of n ws bs) slots area mark
    surely-room = surely t (λ h l. table-room h l)

    pub surely-put : {e : ReadAll} → e ≡ put_all n ws bs slots area mark → e ≡ read_codes n taken ws bs slots area mark
    surely-put q = surely t (λ h l. codes-put h l q)

  -- and by the answer of `fits`
  module _ {r : Fits} (e : r ≡ fitting (length slots) taken (length area - mark) (length (value_bytes (values_of n ws bs)))) where
    pub unfit-left : {d : Refused} → r ≡ Err d
        → record { answer = record { answer = refusal d.why d.place; steps = 0 }; slots = slots; area = area } ≡ read_codes n taken ws bs slots area mark
    unfolding read_codes
    unfit-left h = ap (λ (a : Fits). read_fitting a (put_all n ws bs slots area mark) slots area) (sym h ∙ e)

    fit-by {ℓ} : {X : Type ℓ} {u : Unit {0}} → r ≡ Ok u → (taken ≤ length slots / slot_width → length (value_bytes (values_of n ws bs)) ≤ length area - mark → X) → X
    fit-by z f =
        fitting-cases (length slots) taken (length area - mark) (length (value_bytes (values_of n ws bs))) e
        (λ h q. absurd (not-both z q))
        (λ h l q. absurd (not-both z q))
        (λ h l q. f h l)

    pub fit-room : {u : Unit {0}} → r ≡ Ok u → TableRoom (values_of n ws bs) slots area mark
    fit-room z = fit-by z (λ h l. table-room h l)

    pub fit-put : {u : Unit {0}} → r ≡ Ok u → {x : ReadAll} → x ≡ put_all n ws bs slots area mark → x ≡ read_codes n taken ws bs slots area mark
    fit-put z q = fit-by z (λ h l. codes-put h l q)
