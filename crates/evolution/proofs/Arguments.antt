-- Laws of `filled` and `arguments_fit`: of a layout's front, and what an accepted argument is good for.
use Prim.Native.Nat.{ℕ, zero, suc, ◌≤◌}
use native.Mathlib.Nat.{not-suc-le-zero, le_of_suc-le-suc}
use native.Mathlib.Omega.{arith}
use mathlib.Core.Path.{◌≡◌, refl, sym, ap, subst}
use mathlib.Core.Bool.{Bool, true, ◌&&◌, not}
use mathlib.Core.List.{List, [], ◌∷◌, ◌++◌}
use lib.ListN.{take, drop}
use lib.Seq.{drop-nil}
use lib.Dec.{T, leb, eqb}
use borrow.Author.Tests.{leb-true, eqb-true}
use Rattle.layout.specs.declared.Role.{Role}
use Rattle.layout.specs.declared.Role.TheVariants.{Data, Move}
use Rattle.layout.specs.declared.Motion.TheVariants.{Skip, Back, Goto}
use Rattle.layout.specs.declared.Shape.{Shape}
use Rattle.layout.specs.declared.Shape.TheVariants.{Text, Digits, Integers, Reals}
use Rattle.layout.specs.declared.Count.{Count}
use Rattle.layout.specs.declared.Count.TheVariants.{Absent, Star, Times}
use Rattle.layout.specs.declared.Field.{Field}
use Rattle.layout.specs.declared.Refusal.TheVariants.{NotSet, BadSlot, WrongKind, BadList, BadDigit}
use Rattle.layout.specs.Refusals.{Result, ok, ◌>>=◌}
use Rattle.layout.specs.inside.Parsing.{FitRole}
use Rattle.layout.proofs.Laws.{AllSound, bound, demanded}
use Rattle.record.specs.declared.slots.Slot.{Slot}
use Rattle.record.specs.Table.{max_kind, shown}
use Rattle.record.specs.Geometry.{amount}
use Rattle.record.specs.Packing.{Filled, filled, next_slot, argument_fits, arguments_fit, kind_fits, amount_fits, enough, digits_fit}
use Rattle.record.specs.inside.Slots.{inside_area}
use Rattle.layout.specs.Layout.{slot_count}
use Rattle.runs.specs.Ends.{plain_role, plain_count}
use Rattle.runs.proofs.Joined.{plain-amount}
use Rattle.evolution.specs.Claim.{plain}
use Rattle.record.proofs.Bytes.{both}
use Rattle.record.proofs.NumberLaws.{length-big_endian_in}
use Rattle.record.proofs.Tables.{integers-kind, reals-kind}
use Rattle.record.proofs.Fields.{Served}
use Rattle.evolution.proofs.Run.{AllGood, fields_in}

-- ---- the front of a layout

abbrev made : Role → Bool → Count → Field
made k u n = record { role = k; unsigned = u; count = n }

module _ (area : List ℕ) where
  fields-step : (ts : List Slot) (fs : List Field) → ((us : List Slot) → fields_in (filled area us fs) ≡ fs)
      → (k : Role) (u : Bool) (n : Count) → fields_in (filled area ts (made k u n ∷ fs)) ≡ made k u n ∷ fs
  unfolding fields_in filled
  fields-step ts fs ih (Data s) u n = ap (λ (r : List Field). made (Data s) u n ∷ r) (ih (drop 1 ts))
  fields-step ts fs ih (Move m) u n = ap (λ (r : List Field). made (Move m) u n ∷ r) (ih ts)

  pub fields-filled : (ts : List Slot) (fs : List Field) → fields_in (filled area ts fs) ≡ fs
  unfolding fields_in filled
  fields-filled ts [] = refl
  fields-filled ts (f ∷ fs) = fields-step ts fs (λ us. fields-filled us fs) f.role f.unsigned f.count

  -- a front takes its slots from the front
  abbrev Front : List Field → List Field → List Slot → Type 0
  Front fs gs ts = filled area ts (fs ++ gs) ≡ filled area ts fs ++ filled area (drop (slot_count fs) ts) gs

  front-step : (ts : List Slot) (fs gs : List Field) → ((us : List Slot) → Front fs gs us) → (k : Role) (u : Bool) (n : Count) → Front (made k u n ∷ fs) gs ts
  unfolding filled slot_count
  front-step [] fs gs ih (Data s) u n = ap (λ (r : List Filled). record { field = made (Data s) u n; items = (shown area (next_slot [])).items } ∷ r) (rw drop-nil at (ih []))
  front-step (t ∷ ts) fs gs ih (Data s) u n = ap (λ (r : List Filled). record { field = made (Data s) u n; items = (shown area t).items } ∷ r) (ih ts)
  front-step [] fs gs ih (Move m) u n = ap (λ (r : List Filled). record { field = made (Move m) u n; items = [] } ∷ r) (ih [])
  front-step (t ∷ ts) fs gs ih (Move m) u n = ap (λ (r : List Filled). record { field = made (Move m) u n; items = [] } ∷ r) (ih (t ∷ ts))

  pub front : (fs gs : List Field) (ts : List Slot) → Front fs gs ts
  unfolding filled slot_count
  front [] gs ts = refl
  front (f ∷ fs) gs ts = front-step ts fs gs (λ us. front fs gs us) f.role f.unsigned f.count

  -- slots past the fields' are not looked at
  abbrev Spare : List Field → Type 0
  Spare fs = (i m : ℕ) (ts : List Slot) → slot_count fs ≤ m
      → (filled area (take m ts) fs ≡ filled area ts fs) × (arguments_fit area i (take m ts) fs ≡ arguments_fit area i ts fs)

  spare-step : (fs : List Field) → Spare fs → (k : Role) (u : Bool) (n : Count) → Spare (made k u n ∷ fs)
  unfolding filled arguments_fit slot_count
  spare-step fs ih (Data s) u n i zero ts h = absurd (not-suc-le-zero h)
  spare-step fs ih (Data s) u n i (suc m) [] h = (refl, refl)
  spare-step fs ih (Data s) u n i (suc m) (t ∷ ts) h =
      let same = ih (suc i) m ts (le_of_suc-le-suc h) in
      (ap (λ (r : List Filled). record { field = made (Data s) u n; items = (shown area t).items } ∷ r) same.0, ap (λ (r : Result (Unit {0})). argument_fits area s n i t >>= (λ _. r)) same.1)
  spare-step fs ih (Move k) u n i m ts h =
      let same = ih i m ts h in
      (ap (λ (r : List Filled). record { field = made (Move k) u n; items = [] } ∷ r) same.0, same.1)

  pub spare : (fs : List Field) → Spare fs
  unfolding filled arguments_fit
  spare [] = λ i m ts h. (refl, refl)
  spare (f ∷ fs) = spare-step fs (spare fs) f.role f.unsigned f.count

  fit-step : (i : ℕ) (ts : List Slot) (fs gs : List Field) → ((i : ℕ) (ts : List Slot) → arguments_fit area i ts (fs ++ gs) ≡ ok tt → arguments_fit area i ts fs ≡ ok tt)
      → (k : Role) (u : Bool) (n : Count) → arguments_fit area i ts (made k u n ∷ (fs ++ gs)) ≡ ok tt → arguments_fit area i ts (made k u n ∷ fs) ≡ ok tt
  unfolding arguments_fit
  fit-step i ts fs gs ih (Data s) u n e =
      let (x, e₁, e₂) = bound (argument_fits area s n i (next_slot ts)) (λ _. arguments_fit area (suc i) (drop 1 ts) (fs ++ gs)) tt e in
      rw e₁ (ih (suc i) (drop 1 ts) e₂)
  fit-step i ts fs gs ih (Move m) u n e = ih i ts e

  pub fit-front : (fs gs : List Field) (i : ℕ) (ts : List Slot) → arguments_fit area i ts (fs ++ gs) ≡ ok tt → arguments_fit area i ts fs ≡ ok tt
  unfolding arguments_fit
  fit-front [] gs i ts e = refl
  fit-front (f ∷ fs) gs i ts e = fit-step i ts fs gs (λ j us k. fit-front fs gs j us k) f.role f.unsigned f.count e

-- ---- what was checked

enough-le : (n : Count) (have : ℕ) → T (plain_count n) → enough n have ≡ true → amount n 0 ≤ have
enough-le Absent have p e = omega (arith, eqb-true have 1 e)
enough-le Star have p e = absurd p
enough-le (Times n) have p e = leb-true n have e

served-by : (area : List ℕ) (s : Shape) (n : Count) (a : Slot) → T (plain_count n) → kind_fits s a.kind ≡ true → amount_fits s n a.len ≡ true
    → digits_fit s (amount n a.len) (shown area a).items ≡ true → Served s (amount n 0) (shown area a).items
unfolding digits_fit shown
served-by area (Text pad) n a p k c d = tt
served-by area (Digits hex high) n a p k c d = subst (λ (t : Bool). T t) (sym (rw ((plain-amount n p).1 a.len) at d)) tt
served-by area (Integers w big) n a p k c d = rw (integers-kind a.kind k, length-big_endian_in) (enough-le n a.len p c)
served-by area (Reals single big) n a p k c d = rw (reals-kind a.kind k, length-big_endian_in) (enough-le n a.len p c)

served : (area : List ℕ) (s : Shape) (n : Count) (i : ℕ) (a : Slot) → T (plain_count n) → argument_fits area s n i a ≡ ok tt → Served s (amount n 0) (shown area a).items
unfolding argument_fits
served area s n i a p e =
    let (not_unset, e₇) = demanded (not (eqb a.kind 0)) NotSet i _ tt e in
    let (in_area_lem, e₈) = demanded (leb a.kind max_kind && inside_area area a) BadSlot i _ tt e₇ in
    let (kind_served, e₉) = demanded (kind_fits s a.kind) WrongKind i _ tt e₈ in
    let (count_fits, e₁₀) = demanded (amount_fits s n a.len) BadList i _ tt e₉ in
    let (digits-fit, _) = demanded (digits_fit s (amount n a.len) (shown area a).items) BadDigit i _ tt e₁₀ in
    served-by area s n a p kind_served count_fits digits-fit

good-step : (area : List ℕ) (i : ℕ) (ts : List Slot) (fs : List Field)
    → ((i : ℕ) (ts : List Slot) → arguments_fit area i ts fs ≡ ok tt → AllGood (filled area ts fs))
    → (k : Role) (u : Bool) (n : Count) → T (plain_role k) → T (plain_count n) → FitRole k
    → arguments_fit area i ts (record { role = k; unsigned = u; count = n } ∷ fs) ≡ ok tt → AllGood (filled area ts (record { role = k; unsigned = u; count = n } ∷ fs))
unfolding arguments_fit filled
good-step area i ts fs ih (Data s) u n pc p sc e =
    let (x, e₁, e₂) = bound (argument_fits area s n i (next_slot ts)) (λ _. arguments_fit area (suc i) (drop 1 ts) fs) tt e in
    ((sc, served area s n i (next_slot ts) p e₁, (plain-amount n p).0, (plain-amount n p).1), ih (suc i) (drop 1 ts) e₂)
good-step area i ts fs ih (Move Skip) u n pc p sc e = ((plain-amount n p).1, ih i ts e)
good-step area i ts fs ih (Move Back) u n pc p sc e = absurd pc
good-step area i ts fs ih (Move Goto) u n pc p sc e = absurd pc

pub all-good : (area : List ℕ) (i : ℕ) (ts : List Slot) (fs : List Field) → T (plain fs) → AllSound fs → arguments_fit area i ts fs ≡ ok tt → AllGood (filled area ts fs)
unfolding plain filled
all-good area i ts [] p s e = tt
all-good area i ts (f ∷ fs) p s e =
    let (pk, q) = both (plain_role f.role && plain_count f.count) (plain fs) p in
    let (pc, pn) = both (plain_role f.role) (plain_count f.count) pk in
    good-step area i ts fs (λ j us k. all-good area j us fs q s.1 k) f.role f.unsigned f.count pc pn s.0 e
