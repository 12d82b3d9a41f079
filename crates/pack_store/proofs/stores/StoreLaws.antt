-- The value of a checked argument, as the leaf loops store it.
use Prim.Native.Nat.{ℕ, zero, suc, ◌+◌, ◌*◌, ◌≤◌}
use native.Mathlib.Omega.{arith}
use mathlib.Core.Path.{◌≡◌, refl, sym, ap, ◌∙◌, subst}
use mathlib.Core.Bool.{Bool, true, false}
use mathlib.Core.List.{List, [], ◌∷◌, map}
use borrow.Author.Tests.{eqb-true, leb-true}
use lib.Dec.{eqb, T}
use lib.ListN.{length, take, drop}
use Rattle.std.proofs.lemmas.List.{take-map}
use Rattle.layout.specs.declared.Shape.{Shape}
use Rattle.layout.specs.declared.Shape.TheVariants.{Text, Digits, Integers, Reals}
use Rattle.layout.specs.declared.Count.{Count}
use Rattle.layout.specs.declared.Count.TheVariants.{Absent, Star, Times}
use Rattle.real.specs.Narrowing.{single_of}
use Rattle.record.specs.Bytes.{part, ceil_div}
use Rattle.record.specs.declared.slots.Slot.{Slot}
use Rattle.record.specs.Table.{max_area, shown, integer_size, integers_in}
use Rattle.record.specs.Geometry.{amount, per_byte}
use Rattle.record.specs.Packing.{stored, low_bytes, patterns, enough, amount_fits, all_digits, digits_fit}
use Rattle.record.specs.inside.Slots.{inside_area}
use Rattle.record.proofs.NumberLaws.{length-big_endian_in}
use Rattle.record.proofs.Fields.{Served}
use Rattle.record.proofs.Tables.{integers-kind, reals-kind}
use Rattle.record.proofs.Stores.{length_part}
use Rattle.pack_store.specs.inside.stores.{Enough, Storable}
use Rattle.record.proofs.Bounds.{few-digits}
use Rattle.pack_check.proofs.arguments.ArgumentLaws.{string-inside, shown-string, shown-integers, take-integers, Checked}

pub take-patterns : (single : Bool) (n : ℕ) (xs : List ℕ) → take n (patterns single xs) ≡ patterns single (take n xs)
take-patterns true n xs = take-map single_of n xs
take-patterns false n xs = refl

-- only the first n integers or reals are stored
pub stored-integers : (w : ℕ) (big : Bool) (n len : ℕ) (l : List ℕ) → n ≤ len → stored (Integers w big) n (integers_in n l) ≡ stored (Integers w big) n (integers_in len l)
unfolding stored low_bytes
stored-integers w big n len l h = rw (take-integers n len l h, take-integers n n l (omega arith))

pub stored-reals : (single big : Bool) (n len : ℕ) (l : List ℕ) → n ≤ len → stored (Reals single big) n (integers_in n l) ≡ stored (Reals single big) n (integers_in len l)
unfolding stored low_bytes
stored-reals single big n len l h =
    rw (take-patterns single n (integers_in n l), take-patterns single n (integers_in len l), take-integers n len l h, take-integers n n l (omega arith))

-- a value has as many items as its slot says
pub length-shown : (area : List ℕ) (a : Slot) → inside_area area a ≡ true → length (shown area a).items ≡ a.len
length-shown area a h = by (eqb a.kind 1) refl
  where
    by : (t : Bool) → eqb a.kind 1 ≡ t → length (shown area a).items ≡ a.len
    by true e = ap length (shown-string area a e) ∙ length_part a.len a.start area (string-inside area a h e)
    by false e = ap length (shown-integers area a e) ∙ length-big_endian_in integer_size a.len (drop a.start area)

pub enough-items : (n : Count) (have : ℕ) → enough n have ≡ true → amount n have ≤ have
enough-items Absent have e = let h : have ≡ 1 = eqb-true have 1 e in omega arith
enough-items Star have e = omega arith
enough-items (Times n) have e = leb-true n have e

pub amounts-enough : (s : Shape) (n : Count) (have : ℕ) → amount_fits s n have ≡ true → Enough s (amount n have) have
amounts-enough (Text pad) n have e = tt
amounts-enough (Digits hex high) n have e = tt
amounts-enough (Integers w big) n have e = enough-items n have e
amounts-enough (Reals single big) n have e = enough-items n have e

-- what was checked is what the laws of a field's bytes ask
pub served : (area : List ℕ) (s : Shape) (n : Count) (a : Slot) → Checked area s n a → Served s (amount n a.len) (shown area a).items
unfolding digits_fit
served area (Text pad) n a c = tt
served area (Digits hex high) n a c = subst T (sym c.digits) tt
served area (Integers w big) n a c = rw (length-shown area a c.inside) (enough-items n a.len c.amounts)
served area (Reals single big) n a c = rw (length-shown area a c.inside) (enough-items n a.len c.amounts)

-- ---- what each leaf loop stores is the slot's value

module _ (area : List ℕ) (n : ℕ) (a : Slot) (at size : ℕ) where
  module _ (pad : ℕ) (s : Storable area (Text pad) n a at size) where
    pub text-value : stored (Text pad) n (part area a.start a.len) ≡ stored (Text pad) n (shown area a).items
    text-value = ap (stored (Text pad) n) (sym (shown-string area a s.kind))

  module _ (hex high : Bool) (s : Storable area (Digits hex high) n a at size) where
    pub digits-asks : (n ≤ max_area) × (at + ceil_div n (per_byte hex) ≤ size) × (all_digits hex (take n (shown area a).items) ≡ true)
    unfolding digits_fit
    digits-asks = let few : n ≤ size * 8 = few-digits hex n size (omega (arith, s.room)) in (omega (arith, s.limit), s.room, s.digits)

  module _ (w : ℕ) (big : Bool) (s : Storable area (Integers w big) n a at size) where
    integers : eqb a.kind 1 ≡ false
    integers = integers-kind a.kind s.kind

    pub integers-value : stored (Integers w big) n (integers_in n (drop a.start area)) ≡ stored (Integers w big) n (shown area a).items
    integers-value = stored-integers w big n a.len (drop a.start area) s.amounts ∙ ap (stored (Integers w big) n) (sym (shown-integers area a integers))

  module _ (single big : Bool) (s : Storable area (Reals single big) n a at size) where
    reals : eqb a.kind 1 ≡ false
    reals = reals-kind a.kind s.kind

    pub reals-value : stored (Reals single big) n (integers_in n (drop a.start area)) ≡ stored (Reals single big) n (shown area a).items
    reals-value = stored-reals single big n a.len (drop a.start area) s.amounts ∙ ap (stored (Reals single big) n) (sym (shown-integers area a reals))
