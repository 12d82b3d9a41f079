-- Laws of the arguments of a packing. An argument that serves its field does so under any slot number, so joined slots
-- serve joined fields: each field has the slot that it had.
use Prim.Native.Nat.{ℕ, suc}
use native.Mathlib.Nat.{suc-ne-zero}
use native.Mathlib.Omega.{arith}
use mathlib.Core.Path.{◌≡◌, refl, sym, ap}
use mathlib.Core.Bool.{Bool, not}
use mathlib.Core.List.{List, [], ◌∷◌, ◌++◌}
use lib.ListN.{length, drop}
use lib.Dec.{eqb}
use Rattle.layout.specs.declared.Role.{Role}
use Rattle.layout.specs.declared.Role.TheVariants.{Data, Move}
use Rattle.layout.specs.declared.Shape.{Shape}
use Rattle.layout.specs.declared.Count.{Count}
use Rattle.layout.specs.declared.Field.{Field}
use Rattle.layout.specs.declared.Refusal.TheVariants.{NotSet, BadSlot, WrongKind, BadList, BadDigit, BadReal}
use Rattle.layout.specs.Refusals.{ok}
use Rattle.layout.specs.Layout.{slot_count}
use Rattle.layout.proofs.Laws.{bound, still, still-last}
use Rattle.record.specs.declared.slots.Slot.{Slot}
use Rattle.record.specs.Table.{unset, shown}
use Rattle.record.specs.Slots.{is_inside}
use Rattle.record.specs.Geometry.{amount}
use Rattle.record.specs.Packing.{kind_fits, amount_fits, digits_fit, reals_fit, Filled, filled, next_slot, argument_fits, arguments_fit}

abbrev made : Role → Bool → Count → Field
made k u n = record { role = k; unsigned = u; count = n }

module _ (area : List ℕ) where
  fits-at : (s : Shape) (n : Count) (i j : ℕ) (a : Slot) → argument_fits area s n i a ≡ ok tt → argument_fits area s n j a ≡ ok tt
  unfolding argument_fits
  fits-at s n i j a =
      still (not (eqb a.kind unset)) NotSet i j _ _
      (still (is_inside a (length area)) BadSlot i j _ _
      (still (kind_fits s a.kind) WrongKind i j _ _
      (still (amount_fits s n a.len) BadList i j _ _
      (still (digits_fit s (amount n a.len) (shown area a).items) BadDigit i j _ _
      (still-last (reals_fit s (amount n a.len) (shown area a).items) BadReal i j)))))

  from_step : (fs : List Field) → ((i j : ℕ) (ts : List Slot) → arguments_fit area i ts fs ≡ ok tt → arguments_fit area j ts fs ≡ ok tt)
      → (i j : ℕ) (ts : List Slot) (k : Role) (u : Bool) (n : Count) → arguments_fit area i ts (made k u n ∷ fs) ≡ ok tt → arguments_fit area j ts (made k u n ∷ fs) ≡ ok tt
  unfolding arguments_fit
  from_step fs ih i j ts (Data s) u n e =
      let (x, e₁, e₂) = bound (argument_fits area s n i (next_slot ts)) (λ _. arguments_fit area (suc i) (drop 1 ts) fs) tt e in
      rw (fits-at s n i j (next_slot ts) e₁) (ih (suc i) (suc j) (drop 1 ts) e₂)
  from_step fs ih i j ts (Move m) u n e = ih i j ts e

  fits-from : (fs : List Field) (i j : ℕ) (ts : List Slot) → arguments_fit area i ts fs ≡ ok tt → arguments_fit area j ts fs ≡ ok tt
  unfolding arguments_fit
  fits-from [] i j ts e = refl
  fits-from (f ∷ fs) i j ts e = from_step fs (λ i j ts e. fits-from fs i j ts e) i j ts f.role f.unsigned f.count e

  -- ---- slots and fields joined

  module _ (us : List Slot) (gs : List Field) (second : (i : ℕ) → arguments_fit area i us gs ≡ ok tt) where
    abbrev Joins : List Field → Type 0
    Joins fs = (i : ℕ) (ts : List Slot) → length ts ≡ slot_count fs → arguments_fit area i ts fs ≡ ok tt
        → (arguments_fit area i (ts ++ us) (fs ++ gs) ≡ ok tt) × (filled area (ts ++ us) (fs ++ gs) ≡ filled area ts fs ++ filled area us gs)

    join_step : (fs : List Field) → Joins fs → (k : Role) (u : Bool) (n : Count) → Joins (made k u n ∷ fs)
    unfolding arguments_fit filled slot_count
    join_step fs ih (Data s) u n i [] l e = absurd (suc-ne-zero _ (sym l))
    join_step fs ih (Data s) u n i (t ∷ ts) l e =
        let (x, e₁, e₂) = bound (argument_fits area s n i t) (λ _. arguments_fit area (suc i) ts fs) tt e in
        let same = ih (suc i) ts (omega arith) e₂ in
        (rw e₁ same.0, ap (λ (r : List Filled). record { field = made (Data s) u n; items = (shown area t).items } ∷ r) same.1)
    join_step fs ih (Move m) u n i ts l e =
        let same = ih i ts l e in
        (same.0, ap (λ (r : List Filled). record { field = made (Move m) u n; items = [] } ∷ r) same.1)

    joins-from : (fs : List Field) → Joins fs
    unfolding arguments_fit filled slot_count
    joins-from [] = λ i ts. none i ts
      where
        none : (i : ℕ) (ts : List Slot) → length ts ≡ 0 → arguments_fit area i ts [] ≡ ok tt
            → (arguments_fit area i (ts ++ us) gs ≡ ok tt) × (filled area (ts ++ us) gs ≡ filled area us gs)
        none i [] l e = (second i, refl)
        none i (t ∷ ts) l e = absurd (suc-ne-zero _ l)
    joins-from (f ∷ fs) = join_step fs (joins-from fs) f.role f.unsigned f.count

  pub slots-join : (ts us : List Slot) (fs gs : List Field) → length ts ≡ slot_count fs → arguments_fit area 0 ts fs ≡ ok tt → arguments_fit area 0 us gs ≡ ok tt
      → (arguments_fit area 0 (ts ++ us) (fs ++ gs) ≡ ok tt) × (filled area (ts ++ us) (fs ++ gs) ≡ filled area ts fs ++ filled area us gs)
  slots-join ts us fs gs l e k = joins-from us gs (λ i. fits-from gs 0 i us k) fs 0 ts l e
