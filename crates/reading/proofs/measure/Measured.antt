-- What the pass keeps: the values so far, and how many bytes they take.
use Prim.Native.Nat.{ℕ, ◌+◌, ◌*◌, ◌≤◌}
use native.Mathlib.Omega.{arith}
use mathlib.Core.Path.{◌≡◌, refl, sym, ap, ◌∙◌}
use mathlib.Core.List.{List, [], ◌∷◌, ◌++◌}
use lib.ListN.{length, length-append}
use Rattle.layout.specs.declared.Field.{Field}
use Rattle.record.specs.declared.Cursor.{Cursor}
use Rattle.record.specs.Bytes.{join}
use Rattle.record.specs.Table.{max_record, Value, area_bytes, value_bytes}
use Rattle.record.specs.Reading.{values_from}
use Rattle.reading.proofs.positions.Turns.{Ran, Ended, ran-start, Found}
use Rattle.reading.proofs.measure.Run.{value-bytes-append, value-bytes-one}

pub record Measured (bs : List ℕ) (fs : List Field) (i : ℕ) (c : Cursor) (size : ℕ) : Type 0 where
  pub vs : List Value
  pub ran : Ran bs fs i c vs
  pub is : size ≡ length (value_bytes vs)
  pub small : size ≤ i * (8 * max_record)

pub measured-start : {bs : List ℕ} (fs : List Field) {c : Cursor} → c ≡ record { at = 0; end = length bs } → Measured bs fs 0 c 0
unfolding value_bytes join
measured-start fs e = record { vs = []; ran = ran-start fs e; is = refl; small = omega arith }

module _ {bs : List ℕ} {fs : List Field} {i : ℕ} {c d : Cursor} {size : ℕ} (m : Measured bs fs i c size) where
  pub measured-moved : Ran bs fs (i + 1) d m.vs → Measured bs fs (i + 1) d size
  measured-moved ran = record { vs = m.vs; ran = ran; is = m.is; small = omega (arith, m.small) }

  pub measured-more : (v : Value) {r : ℕ} → r ≡ length (area_bytes v) → r ≤ 8 * max_record → Found bs fs i c.at d m.vs v → Measured bs fs (i + 1) d (size + r)
  measured-more v {r} e h found =
      record {
        vs = m.vs ++ (v ∷ []);
        ran = found.ran;
        is = sym (ap length (value-bytes-append m.vs (v ∷ [])) ∙ rw (value-bytes-one, length-append, ← m.is, ← e));
        small = omega (arith, m.small);
      }

pub measured-done : {bs : List ℕ} {fs : List Field} {i : ℕ} {c : Cursor} {size k : ℕ} (m : Measured bs fs i c size) → Ended bs fs m.vs k → size ≡ length (value_bytes (values_from bs 0 fs))
measured-done m e = m.is ∙ ap (λ (vs : List Value). length (value_bytes vs)) e.values
