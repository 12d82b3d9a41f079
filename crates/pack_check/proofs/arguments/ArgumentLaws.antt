-- The check of an argument, line by line, on plain values.
use Prim.Native.Nat.{ℕ, zero, suc, ◌+◌, ◌*◌, ◌≤◌, min}
use native.Mathlib.Nat.{le_of_suc-le-suc, not-suc-le-zero}
use native.Mathlib.Omega.{arith}
use mathlib.Core.Path.{◌≡◌, refl, sym, ap, ◌∙◌}
use mathlib.Core.Bool.{Bool, true, false, ◌&&◌, not}
use mathlib.Core.List.{List, ◌∷◌}
use borrow.Author.Tests.{leb-true}
use lib.Dec.{eqb, leb}
use lib.ListN.{length, take, drop}
use lib.Seq.{take_all}
use Rattle.layout.specs.declared.Shape.{Shape}
use Rattle.layout.specs.declared.Shape.TheVariants.{Reals}
use Rattle.layout.specs.declared.Count.{Count}
use Rattle.layout.specs.declared.Refusal.TheVariants.{NotSet, BadSlot, WrongKind, BadList, BadDigit}
use Rattle.layout.specs.Refusals.{ok}
use Rattle.layout.proofs.Laws.{demanded}
use Rattle.record.specs.Bytes.{part, pieces, number, ordered, big_endian_in}
use Rattle.record.proofs.Bytes.{and-true}
use Rattle.record.specs.declared.slots.Slot.{Slot}
use Rattle.record.specs.Table.{max_kind, real, shown, item_size, integer_size, integers_in}
use Rattle.record.proofs.NumberLaws.{length-big_endian_in}
use Rattle.record.specs.Geometry.{amount}
use Rattle.record.proofs.Tables.{reals-kind}
use Rattle.record.specs.Packing.{kind_fits, amount_fits, digits_fit, reals_fit, no_nan, argument_fits}
use Rattle.record.specs.inside.Slots.{inside_area}
use Rattle.record.proofs.Fields.{split}

-- what a field can rely on whose argument was checked
pub record Checked (area : List ℕ) (s : Shape) (n : Count) (a : Slot) : Type 0 where
  pub inside : inside_area area a ≡ true
  pub kind : kind_fits s a.kind ≡ true
  pub amounts : amount_fits s n a.len ≡ true
  pub digits : digits_fit s (amount n a.len) (shown area a).items ≡ true

pub checked-argument : (area : List ℕ) (s : Shape) (n : Count) (k : ℕ) (a : Slot) → argument_fits area s n k a ≡ ok tt → Checked area s n a
unfolding argument_fits
checked-argument area s n k a e =
    let x₁ = demanded (not (eqb a.kind 0)) NotSet k _ tt e in
    let x₂ = demanded (leb a.kind max_kind && inside_area area a) BadSlot k _ tt x₁.1 in
    let x₃ = demanded (kind_fits s a.kind) WrongKind k _ tt x₂.1 in
    let x₄ = demanded (amount_fits s n a.len) BadList k _ tt x₃.1 in
    let x₅ = demanded (digits_fit s (amount n a.len) (shown area a).items) BadDigit k _ tt x₄.1 in
    record {
      inside = (and-true (leb a.kind max_kind) (inside_area area a) x₂.0).1;
      kind = x₃.0;
      amounts = x₄.0;
      digits = x₅.0;
    }

-- ---- a value inside the area, by its kind

module _ (area : List ℕ) (a : Slot) (inside : inside_area area a ≡ true) where
  inside-by : (size : ℕ) → item_size a.kind ≡ size → a.start + a.len * size ≤ length area
  inside-by size e = rw (← e) (leb-true (a.start + a.len * item_size a.kind) (length area) inside)

  pub string-inside : eqb a.kind 1 ≡ true → a.start + a.len ≤ length area
  string-inside e = let h : a.start + a.len * 1 ≤ length area = inside-by 1 (simp e) in omega arith

  pub integers-inside : eqb a.kind 1 ≡ false → a.start + a.len * 8 ≤ length area
  integers-inside e = inside-by 8 (simp e)

pub shown-string : (area : List ℕ) (a : Slot) → eqb a.kind 1 ≡ true → (shown area a).items ≡ part area a.start a.len
unfolding shown
shown-string area a e = simp e

pub take-integers : (n len : ℕ) (l : List ℕ) → n ≤ len → take n (integers_in len l) ≡ integers_in n l
unfolding big_endian_in pieces
take-integers zero len l h = refl
take-integers (suc n) zero l h = absurd (not-suc-le-zero h)
take-integers (suc n) (suc len) l h = ap (λ (r : List ℕ). number 256 (ordered true (take 8 l)) ∷ r) (take-integers n len (drop 8 l) (le_of_suc-le-suc h))

-- the first n of the numbers in an area
pub first-integers : (n len : ℕ) (l : List ℕ) → take n (integers_in len l) ≡ integers_in (min n len) l
first-integers n len l =
    split n len
    (λ h. let e : min n len ≡ n = omega arith in take-integers n len l h ∙ ap (λ (m : ℕ). integers_in m l) (sym e))
    (λ h. let e : min n len ≡ len = omega arith in take_all n (integers_in len l) (omega (arith, length-big_endian_in integer_size len l)) ∙ ap (λ (m : ℕ). integers_in m l) (sym e))

pub shown-integers : (area : List ℕ) (a : Slot) → eqb a.kind 1 ≡ false → (shown area a).items ≡ integers_in a.len (drop a.start area)
unfolding shown
shown-integers area a e = simp e

-- only the reals up to the count are looked at
pub reals-part : (area : List ℕ) (big : Bool) (n : ℕ) (a : Slot) → eqb a.kind real ≡ true
    → no_nan (integers_in (min n a.len) (drop a.start area)) ≡ reals_fit (Reals true big) n (shown area a).items
unfolding reals_fit
reals-part area big n a e = rw (shown-integers area a (reals-kind a.kind e)) (ap no_nan (sym (first-integers n a.len (drop a.start area))))
