-- Which way the end of a call goes, on plain values: each answer of the code is that of the definition.
use Prim.Native.Nat.{ℕ, ◌≤◌, ◌<◌}
use native.Mathlib.Omega.{arith}
use mathlib.Core.Path.{◌≡◌, refl, ap, ◌∙◌}
use mathlib.Core.List.{List, ◌++◌}
use borrow.Author.Tests.{le-leb, lt-leb}
use lib.ListN.{length, drop}
use Rattle.layout.specs.declared.Field.{Field}
use Rattle.layout.specs.declared.Refusal.TheVariants.{NoRoom}
use Rattle.layout.specs.Refusals.{Result, ok, refused, ◌>>=◌}
use Rattle.record.specs.declared.Cursor.{Cursor}
use Rattle.record.specs.declared.slots.Slot.{Slot}
use Rattle.record.specs.Packing.{finished, start, pack_all, filled, packed, arguments_fit, accepted, refusal, pack_effect}
use Rattle.record.specs.inside.Cursor.{cursor_of, origin}
use Rattle.std.specs.declared.result.Result.TheVariants.{Ok, Err}
use Rattle.layout.specs.declared.Refused.{Refused}
use Rattle.pack_check.specs.inside.measuring.{arguments_checked, HasRoom, measured_of}
use Rattle.pack_store.specs.inside.writing.{written}
use Rattle.pack_store.proofs.writing.RunLaws.{measured-as, written_as}

measured-refused : (o : Result (Unit {0})) (c : Cursor) (x : Refused) → Err x ≡ measured_of (o >>= (λ _. ok c)) → o ≡ refused x.why x.place
measured-refused (ok u) c x e = let z : ◌≡◌ {A = ℕ} 0 1 = cc in absurd (omega arith)
measured-refused (refused w p) c x e = let same : x ≡ record { why = w; place = p } = cc in rw same refl

measured-ok : (o : Result (Unit {0})) (c : Cursor) (len : ℕ) → Ok len ≡ measured_of (o >>= (λ _. ok c)) → (o ≡ ok tt) × (len ≡ c.end)
measured-ok (ok u) c len e = let z : len ≡ c.end = cc in (refl, z)
measured-ok (refused w p) c len e = let z : ◌≡◌ {A = ℕ} 0 1 = cc in absurd (omega arith)

module _ (area : List ℕ) (ts : List Slot) (fs : List Field) (output : List ℕ) where
  measured : arguments_checked area 0 ts fs origin ≡ (arguments_fit area 0 ts fs >>= (λ _. ok (cursor_of (pack_all start (filled area ts fs)))))
  measured = measured-as area fs 0 ts start (omega arith)

  pub finish-refused : (x : Refused) → Err x ≡ measured_of (arguments_checked area 0 ts fs origin) → record { answer = refusal x.why x.place; output = output } ≡ pack_effect output (finished area ts fs output)
  unfolding finished
  finish-refused x e =
      let a : arguments_fit area 0 ts fs ≡ refused x.why x.place = measured-refused (arguments_fit area 0 ts fs) (cursor_of (pack_all start (filled area ts fs))) x (e ∙ ap measured_of measured) in
      rw a

  module _ (len : ℕ) (e : Ok len ≡ measured_of (arguments_checked area 0 ts fs origin)) where
    passed : (arguments_fit area 0 ts fs ≡ ok tt) × (len ≡ length (packed (filled area ts fs)))
    unfolding packed
    passed = measured-ok (arguments_fit area 0 ts fs) (cursor_of (pack_all start (filled area ts fs))) len (e ∙ ap measured_of measured)

    pub finish-full : length output < len → record { answer = refusal NoRoom 0; output = output } ≡ pack_effect output (finished area ts fs output)
    unfolding finished
    finish-full h =
        let l : length output < length (packed (filled area ts fs)) = omega (arith, passed.1) in
        rw (passed.0, lt-leb _ _ l)

    module _ (h : len ≤ length output) where
      pub finish-room : HasRoom (arguments_checked area 0 ts fs origin) (length output)
      unfolding packed
      finish-room = rw (measured, passed.0) (omega (arith, passed.1))

      pub finish-done : (out : List ℕ) → out ≡ written area ts fs origin output → record { answer = accepted len 0; output = out } ≡ pack_effect output (finished area ts fs output)
      unfolding finished packed
      finish-done out q =
          let l : length (packed (filled area ts fs)) ≤ length output = omega (arith, passed.1) in
          let w : out ≡ packed (filled area ts fs) ++ drop (length (packed (filled area ts fs))) output = q ∙ written_as area fs 0 ts start (length output) output (omega arith) finish-room in
          rw (passed.0, le-leb _ _ l, w, passed.1)
