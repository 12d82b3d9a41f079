-- The steps of a reading: each is a field of its own, and a field has a type character of its own.
use Rattle.std.specs.Prelude.{if◌then◌else◌}
use Prim.Native.Nat.{ℕ, zero, suc, ◌+◌, ◌-◌, ◌≤◌}
use native.Mathlib.Omega.{arith}
use mathlib.Core.Path.{◌≡◌, refl, subst}
use mathlib.Core.Bool.{Bool, true, false}
use mathlib.Core.List.{List, [], ◌∷◌}
use lib.ListN.{length}
use lib.Dec.{leb}
use Rattle.layout.specs.declared.Role.{Role}
use Rattle.layout.specs.declared.Role.TheVariants.{Data, Move}
use Rattle.layout.specs.declared.Count.{Count}
use Rattle.layout.specs.declared.Field.{Field}
use Rattle.layout.specs.Refusals.{Result, ok, refused}
use Rattle.layout.specs.Layout.{Step, space, field, bad, step_of, step_extra, step_then, fields_from, fields_of}
use Rattle.layout.proofs.Laws.{bound, no-refusal, ok-inj}
use Rattle.record.specs.Geometry.{bytes_for, items_of, moved_in}
use Rattle.record.specs.Table.{Value}
use Rattle.record.specs.Reading.{steps_from, reads, steps_of, read_steps, StepsWithin}

-- ---- fields

few-before : (s : Step) (r : Result (List Field)) (m : ℕ) → ((gs : List Field) → r ≡ ok gs → length gs ≤ m) → (fs : List Field) → step_then s r ≡ ok fs → length fs ≤ suc m
few-before space r m h fs e = omega (arith, h fs e)
few-before (field f n) r m h fs e =
    let (gs, is, same) = bound r (λ gs. ok (f ∷ gs)) fs e in
    subst (λ (fs : List Field). length fs ≤ suc m) (ok-inj same) (omega (arith, h gs is))
few-before (bad why place) r m h fs e = no-refusal e

few-from : (packing : Bool) (at n : ℕ) (text : List ℕ) (fs : List Field) → fields_from packing at n text ≡ ok fs → length fs ≤ length text
unfolding fields_from
few-from packing at n [] fs e = subst (λ (fs : List Field). length fs ≤ 0) (ok-inj e) (omega arith)
few-from packing at (suc n) (c ∷ cs) fs e = omega (arith, few-from packing (suc at) n cs fs e)
few-from packing at zero (c ∷ cs) fs e =
    let s : Step = step_of packing at c cs in
    few-before s (fields_from packing (suc at) (step_extra s) cs) (length cs) (λ gs is. few-from packing (suc at) (step_extra s) cs gs is) fs e

-- ---- steps

steps-step : (size at : ℕ) (k : Role) (u : Bool) (n : Count) (fs : List Field)
    → ((to : ℕ) → steps_from size to fs ≤ length fs)
    → steps_from size at (record { role = k; unsigned = u; count = n } ∷ fs) ≤ suc (length fs)
unfolding steps_from
steps-step size at (Data s) u n fs h = go (leb (bytes_for s (items_of s n (size - at))) (size - at)) (h (at + bytes_for s (items_of s n (size - at))))
  where
    go : (t : Bool) {m : ℕ} → m ≤ length fs → (if t then suc m else 1) ≤ suc (length fs)
    go true l = omega arith
    go false l = omega arith
steps-step size at (Move m) u n fs h = omega (arith, h (moved_in size m n at))

steps-few : (size at : ℕ) (fs : List Field) → steps_from size at fs ≤ length fs
unfolding steps_from
steps-few size at [] = omega arith
steps-few size at (f ∷ fs) = steps-step size at f.role f.unsigned f.count fs (λ to. steps-few size to fs)

pub steps-within : StepsWithin
unfolding read_steps fields_of
steps-within layout bs slots area mark = go (fields_of false layout) refl (reads layout bs slots area mark)
  where
    go : (o : Result (List Field)) → fields_of false layout ≡ o → (r : Result (List Value)) → steps_of (length bs) o r ≤ length layout
    go (ok fs) e (ok vs) = omega (arith, few-from false 0 0 layout fs e, steps-few (length bs) 0 fs)
    go (refused why place) e (ok vs) = omega arith
    go o e (refused why place) = omega arith
