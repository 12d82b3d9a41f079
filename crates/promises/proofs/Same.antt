-- Fields that are the same: the test of the definition holds just where two fields are equal, because a type and a
-- count can be told from their numbers; and two codes stand for the same field just where they agree in the type and in
-- all above it.
use Prim.Native.Nat.{ℕ, zero, suc, ◌+◌, ◌*◌, ◌/◌, ◌%◌, ◌≤◌, ◌<◌}
use native.Mathlib.Omega.{arith}
use native.Mathlib.Nat.{lt_of_not-le}
use native.Mathlib.Decide.{dec_le}
use mathlib.Core.Path.{◌≡◌, refl, sym, ap, ◌∙◌}
use mathlib.Core.Bool.{Bool, true, false, ◌&&◌, true≢false}
use borrow.Author.Tests.{eq-eqb, ne_eqb, eqb-true}
use lib.Dec.{eqb}
use Rattle.layout.specs.declared.Role.{Role}
use Rattle.layout.specs.declared.Role.TheVariants.{Data, Move}
use Rattle.layout.specs.declared.Motion.TheVariants.{Skip, Back, Goto}
use Rattle.layout.specs.declared.Shape.TheVariants.{Text, Digits, Integers, Reals}
use Rattle.layout.specs.declared.Count.{Count}
use Rattle.layout.specs.declared.Count.TheVariants.{Absent, Star, Times}
use Rattle.layout.specs.declared.Field.{Field}
use Rattle.layout.specs.Layout.{to_nat}
use Rattle.layout.specs.Codes.{last_data, skip_number, back_number, goto_number, type_numbered, known, count_from, field_of, flag_unit, count_unit}
use Rattle.layout.proofs.Numbered.{moving, move-type}
use Rattle.promises.specs.Promises.{type_numbers, count_number, same_type, same_field}
use Rattle.promises.specs.inside.Walk.{type_in}

-- ---- back from the numbers

bit-of : (u : Bool) → eqb (to_nat u) 1 ≡ u
bit-of true = refl
bit-of false = refl

abbrev type_from : ℕ → ℕ → ℕ → Role
type_from zero a b = Data (Text a)
type_from (suc zero) a b = Data (Digits (eqb a 1) (eqb b 1))
type_from (suc (suc zero)) a b = Data (Integers a (eqb b 1))
type_from (suc (suc (suc zero))) a b = Data (Reals (eqb a 1) (eqb b 1))
type_from (suc (suc (suc (suc zero)))) a b = Move Skip
type_from (suc (suc (suc (suc (suc zero))))) a b = Move Back
type_from (suc (suc (suc (suc (suc (suc n)))))) a b = Move Goto

type-back : (k : Role) → type_from (type_numbers k).0 (type_numbers k).1 (type_numbers k).2 ≡ k
type-back (Data (Text pad)) = refl
type-back (Data (Digits hex high)) = rw (bit-of hex, bit-of high)
type-back (Data (Integers w big)) = rw (bit-of big)
type-back (Data (Reals single big)) = rw (bit-of single, bit-of big)
type-back (Move Skip) = refl
type-back (Move Back) = refl
type-back (Move Goto) = refl

count-back : (n : Count) → count_from (count_number n) ≡ n
count-back Absent = refl
count-back Star = refl
count-back (Times n) = refl

number-back : (n : ℕ) → count_number (count_from n) ≡ n
number-back zero = refl
number-back (suc zero) = refl
number-back (suc (suc n)) = refl

-- ---- the test

both_true : (a b : Bool) → (a && b) ≡ true → (a ≡ true) × (b ≡ true)
both_true true b e = (refl, e)
both_true false b e = absurd (true≢false (sym e))

three-true : (a b c : Bool) → (a && b && c) ≡ true → (a ≡ true) × (b ≡ true) × (c ≡ true)
three-true true true c e = (refl, refl, e)
three-true true false c e = absurd (true≢false (sym e))
three-true false b c e = absurd (true≢false (sym e))

same-type : (j k : Role) → same_type j k ≡ true → j ≡ k
same-type j k e =
    let (p, q, s) = three-true _ _ _ e in
    let a : (type_numbers j).0 ≡ (type_numbers k).0 = eqb-true _ _ p in
    let b : (type_numbers j).1 ≡ (type_numbers k).1 = eqb-true _ _ q in
    let c : (type_numbers j).2 ≡ (type_numbers k).2 = eqb-true _ _ s in
    sym (type-back j) ∙ (rw (a, b, c) (type-back k))

parts-equal : {j k : Role} {a b : Bool} {m n : Count} → j ≡ k → a ≡ b → m ≡ n
    → ◌≡◌ {A = Field} (record { role = j; unsigned = a; count = m }) (record { role = k; unsigned = b; count = n })
parts-equal role flag count = cc

pub same-equal : (f g : Field) → same_field f g ≡ true → f ≡ g
unfolding same_field
same-equal f g e =
    let (p, q, s) = three-true _ _ _ e in
    let role : f.role ≡ g.role = same-type f.role g.role p in
    let bit : to_nat f.unsigned ≡ to_nat g.unsigned = eqb-true _ _ q in
    let flag : f.unsigned ≡ g.unsigned = sym (bit-of f.unsigned) ∙ ap (λ (n : ℕ). eqb n 1) bit ∙ bit-of g.unsigned in
    let number : count_number f.count ≡ count_number g.count = eqb-true _ _ s in
    let count : f.count ≡ g.count = sym (count-back f.count) ∙ ap count_from number ∙ count-back g.count in
    parts-equal role flag count

eqb_same : (n : ℕ) → eqb n n ≡ true
eqb_same n = eq-eqb n n refl

pub same-itself : (f : Field) → same_field f f ≡ true
unfolding same_field
same-itself f = simp eqb_same

pub same_not : (f g : Field) → (f ≡ g → ⊥) → same_field f g ≡ false
same_not f g h = go (same_field f g) refl
  where
    go : (t : Bool) → same_field f g ≡ t → t ≡ false
    go true e = absurd (h (same-equal f g e))
    go false e = refl

-- ---- the type in a code

abbrev low : ℕ → Bool
low zero = true
low (suc n) = eqb (type_in (known (type_numbered n))) n && low n

low-at : (n d : ℕ) → low n ≡ true → d < n → type_in (known (type_numbered d)) ≡ d
low-at zero d e h = absurd (omega arith)
low-at (suc n) d e h =
    let (p, q) = both_true _ _ e in
    elim (dec_le n d) [
      | yes k ↦ (let same : d ≡ n = omega arith in rw same (eqb-true _ _ p))
      | no k ↦ low-at n d q (lt_of_not-le k)
    ]

pub type-low : (d : ℕ) → d ≤ last_data → d ≡ type_in (known (type_numbered d))
unfolding type_numbered
type-low d h = sym (low-at 18 d refl (omega arith))

pub type-skip : (d : ℕ) → d ≡ skip_number → d ≡ type_in (known (type_numbered d))
unfolding type_numbered
type-skip d e = rw e

pub type-goto : (d : ℕ) → d ≡ goto_number → d ≡ type_in (known (type_numbered d))
unfolding type_numbered
type-goto d e = rw e

pub type-rest : (d : ℕ) → last_data < d → (d ≡ skip_number → ⊥) → (d ≡ goto_number → ⊥) → back_number ≡ type_in (known (type_numbered d))
type-rest d h skip goto = rw (move-type d h, ne_eqb d skip_number skip, ne_eqb d goto_number goto) (backs (eqb d back_number))
  where
    backs : (back : Bool) → back_number ≡ type_in (known (moving false back false))
    backs true = refl
    backs false = refl

-- the number tells the type
role-again : (d : ℕ) → known (type_numbered (type_in (known (type_numbered d)))) ≡ known (type_numbered d)
unfolding type_numbered
role-again d = elim (dec_le d last_data) [
  | yes h ↦ ap (λ (n : ℕ). known (type_numbered n)) (sym (type-low d h))
  | no h ↦ rw (move-type d (lt_of_not-le h)) (moves (eqb d skip_number) (eqb d back_number) (eqb d goto_number))
]
  where
    moves : (skip back goto : Bool) → known (type_numbered (type_in (known (moving skip back goto)))) ≡ known (moving skip back goto)
    moves true back goto = refl
    moves false true goto = refl
    moves false false true = refl
    moves false false false = refl

-- ---- two codes

module _ (v w : ℕ) where
  codes_same : type_in (field_of v).role ≡ type_in (field_of w).role → v / flag_unit ≡ w / flag_unit → field_of v ≡ field_of w
  unfolding field_of
  codes_same t e =
      let role : known (type_numbered (v % flag_unit)) ≡ known (type_numbered (w % flag_unit)) = sym (role-again (v % flag_unit)) ∙ ap (λ (n : ℕ). known (type_numbered n)) t ∙ role-again (w % flag_unit) in
      let count : v / count_unit ≡ w / count_unit = omega arith in
      rw (role, e, count)

  bits-same : (a b : ℕ) → a < 2 → b < 2 → eqb a 1 ≡ eqb b 1 → a ≡ b
  bits-same zero zero h k e = refl
  bits-same zero (suc zero) h k e = absurd (true≢false (sym e))
  bits-same zero (suc (suc b)) h k e = absurd (omega arith)
  bits-same (suc zero) zero h k e = absurd (true≢false e)
  bits-same (suc zero) (suc zero) h k e = refl
  bits-same (suc zero) (suc (suc b)) h k e = absurd (omega arith)
  bits-same (suc (suc a)) b h k e = absurd (omega arith)

  same-upper : field_of v ≡ field_of w → v / flag_unit ≡ w / flag_unit
  unfolding field_of
  same-upper e =
      let count : count_from (v / count_unit) ≡ count_from (w / count_unit) = ap (λ (f : Field). f.count) e in
      let high : v / count_unit ≡ w / count_unit = sym (number-back (v / count_unit)) ∙ ap count_number count ∙ number-back (w / count_unit) in
      let bit : v / flag_unit % 2 ≡ w / flag_unit % 2 = bits-same (v / flag_unit % 2) (w / flag_unit % 2) (omega arith) (omega arith) (ap (λ (f : Field). f.unsigned) e) in
      let a : v / flag_unit ≡ v / flag_unit % 2 + 2 * (v / count_unit) = omega arith in
      let b : w / flag_unit ≡ w / flag_unit % 2 + 2 * (w / count_unit) = omega arith in
      omega arith

  pub types-differ : (type_in (field_of v).role ≡ type_in (field_of w).role → ⊥) → false ≡ same_field (field_of v) (field_of w)
  types-differ h = sym (same_not (field_of v) (field_of w) (λ e. h (ap (λ (f : Field). type_in f.role) e)))

  pub types_same : type_in (field_of v).role ≡ type_in (field_of w).role → eqb (v / flag_unit) (w / flag_unit) ≡ same_field (field_of v) (field_of w)
  types_same t = go (eqb (v / flag_unit) (w / flag_unit)) refl
    where
      go : (b : Bool) → eqb (v / flag_unit) (w / flag_unit) ≡ b → b ≡ same_field (field_of v) (field_of w)
      go true e = sym (rw (codes_same t (eqb-true _ _ e)) (same-itself (field_of w)))
      go false e = sym (same_not (field_of v) (field_of w) (λ k. true≢false (sym (eq-eqb (v / flag_unit) (w / flag_unit) (same-upper k)) ∙ e)))
