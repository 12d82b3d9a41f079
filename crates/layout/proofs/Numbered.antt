-- Laws of the types by number: the form that a number has, what the type of a number takes, and how many bytes an
-- integer has. A number passes or fails each test of `type_numbered` by the range in which it lies.
use Rattle.layout.specs.declared.Role.{Role}
use Rattle.std.specs.declared.option.Option.{Option}
use Rattle.std.specs.declared.option.Option.TheVariants.{Some, None}
use Rattle.std.specs.Prelude.{if◌then◌else◌}
use Prim.Native.Nat.{ℕ, zero, suc, ◌-◌, ◌*◌, ◌/◌, ◌%◌, ◌^◌, ◌≤◌, ◌<◌}
use native.Mathlib.Omega.{arith}
use native.Mathlib.Nat.{lt_of_not-le}
use native.Mathlib.Decide.{dec_le}
use mathlib.Core.Path.{◌≡◌, refl, ap}
use mathlib.Core.Bool.{Bool, true, false}
use borrow.Author.Tests.{lt-ltb, le-ltb, le-leb, lt-leb, ne_eqb}
use lib.Dec.{eqb, leb, ltb}
use Rattle.layout.specs.declared.Role.TheVariants.{Data, Move}
use Rattle.layout.specs.declared.Shape.{Shape}
use Rattle.layout.specs.declared.Shape.TheVariants.{Text, Digits, Integers, Reals}
use Rattle.layout.specs.declared.Motion.TheVariants.{Skip, Back, Goto}
use Rattle.layout.specs.declared.Count.{Count}
use Rattle.layout.specs.Layout.{takes_slot, has_meaning}
use Rattle.layout.specs.Codes.{last_text, last_binary, last_digits, last_integers, last_single, last_data, skip_number, back_number, goto_number, last_type, width_numbered, type_numbered, known}
use Rattle.layout.specs.inside.Parsing.{size_numbered, shape_of, shape_numbered, FitRole}
use Rattle.layout.proofs.Steps.{type-fits, known-fits}

-- ---- each form by its numbers

text-role : (d : ℕ) → d ≤ last_text → known (type_numbered d) ≡ Data (Text (32 * d))
unfolding type_numbered
text-role d h = rw (le-leb d last_text h)

digits-role : (d : ℕ) → last_text < d → d ≤ last_digits → known (type_numbered d) ≡ Data (Digits (ltb last_binary d) (eqb (d % 2) 1))
unfolding type_numbered
digits-role d l h = rw (lt-leb d last_text l, le-leb d last_digits h)

integers-role : (d : ℕ) → last_digits < d → d ≤ last_integers → known (type_numbered d) ≡ Data (Integers (width_numbered d) (eqb (d % 2) 1))
unfolding type_numbered
integers-role d l h = let k : last_text < d = omega arith in rw (lt-leb d last_text k, lt-leb d last_digits l, le-leb d last_integers h)

reals-role : (d : ℕ) → last_integers < d → d ≤ last_data → known (type_numbered d) ≡ Data (Reals (leb d last_single) (eqb (d % 2) 1))
unfolding type_numbered
reals-role d l h =
    let text : last_text < d = omega arith in
    let digits : last_digits < d = omega arith in
    rw (lt-leb d last_text text, lt-leb d last_digits digits, lt-leb d last_integers l, le-leb d last_data h)

pub shape-text : (d : ℕ) → d ≤ last_text → shape_numbered d ≡ Text (32 * d)
unfolding shape_numbered
shape-text d h = ap shape_of (text-role d h)

pub shape-digits : (d : ℕ) → last_text < d → d ≤ last_digits → shape_numbered d ≡ Digits (ltb last_binary d) (eqb (d % 2) 1)
unfolding shape_numbered
shape-digits d l h = ap shape_of (digits-role d l h)

pub shape-binary : (d : ℕ) → last_text < d → d ≤ last_binary → shape_numbered d ≡ Digits false (eqb (d % 2) 1)
shape-binary d l h = let e = shape-digits d l (omega arith) in rw (le-ltb last_binary d h) at e

pub shape-hex : (d : ℕ) → last_binary < d → d ≤ last_digits → shape_numbered d ≡ Digits true (eqb (d % 2) 1)
shape-hex d l h = let e = shape-digits d (omega arith) h in rw (lt-ltb last_binary d l) at e

pub shape-integers : (d : ℕ) → last_digits < d → d ≤ last_integers → shape_numbered d ≡ Integers (width_numbered d) (eqb (d % 2) 1)
unfolding shape_numbered
shape-integers d l h = ap shape_of (integers-role d l h)

pub shape-reals : (d : ℕ) → last_integers < d → d ≤ last_data → shape_numbered d ≡ Reals (leb d last_single) (eqb (d % 2) 1)
unfolding shape_numbered
shape-reals d l h = ap shape_of (reals-role d l h)

pub shape-kept : (d : ℕ) → d ≡ 0 → shape_numbered d ≡ Text 0
unfolding shape_numbered type_numbered
shape-kept d e = ap shape_numbered e

pub shape-trimmed : (d : ℕ) → d ≡ 1 → shape_numbered d ≡ Text 32
unfolding shape_numbered type_numbered
shape-trimmed d e = ap shape_numbered e

-- ---- what takes a slot, and what moves the cursor

abbrev one_of : Bool → Bool → Bool → Shape → Shape → Shape → Shape → Option Role
one_of text digits integers r s t v = if text then Some (Data r) else if digits then Some (Data s) else if integers then Some (Data t) else Some (Data v)

pub data-role : (d : ℕ) → d ≤ last_data → known (type_numbered d) ≡ Data (shape_numbered d)
unfolding type_numbered shape_numbered
data-role d h = rw (le-leb d last_data h) (shapes (leb d last_text) (leb d last_digits) (leb d last_integers) _ _ _ _)
  where
    shapes : (text digits integers : Bool) (r s t v : Shape) → known (one_of text digits integers r s t v) ≡ Data (shape_of (known (one_of text digits integers r s t v)))
    shapes true digits integers r s t v = refl
    shapes false true integers r s t v = refl
    shapes false false true r s t v = refl
    shapes false false false r s t v = refl

abbrev pub moving : Bool → Bool → Bool → Option Role
moving skip back goto = if skip then Some (Move Skip) else if back then Some (Move Back) else if goto then Some (Move Goto) else None

pub move-type : (d : ℕ) → last_data < d → type_numbered d ≡ moving (eqb d skip_number) (eqb d back_number) (eqb d goto_number)
unfolding type_numbered
move-type d h =
    let text : last_text < d = omega arith in
    let digits : last_digits < d = omega arith in
    let integers : last_integers < d = omega arith in
    rw (lt-leb d last_text text, lt-leb d last_digits digits, lt-leb d last_integers integers, lt-leb d last_data h)

pub move-role : (d : ℕ) → last_data < d → takes_slot (known (type_numbered d)) ≡ false
move-role d h = rw (move-type d h) (moves (eqb d skip_number) (eqb d back_number) (eqb d goto_number))
  where
    moves : (skip back goto : Bool) → takes_slot (known (moving skip back goto)) ≡ false
    moves true back goto = refl
    moves false true goto = refl
    moves false false true = refl
    moves false false false = refl

pub number-unknown : (d : ℕ) → last_type < d → type_numbered d ≡ None
number-unknown d h =
    let skip : d ≡ skip_number → ⊥ = λ e. omega arith in
    let back : d ≡ back_number → ⊥ = λ e. omega arith in
    let goto : d ≡ goto_number → ⊥ = λ e. omega arith in
    let above : last_data < d = omega arith in
    rw (move-type d above, ne_eqb d skip_number skip, ne_eqb d back_number back, ne_eqb d goto_number goto)

pub slot-numbered : (d : ℕ) → leb d last_data ≡ takes_slot (known (type_numbered d))
slot-numbered d = elim (dec_le d last_data) [
  | yes h ↦ rw (le-leb d last_data h, data-role d h)
  | no h ↦ (let k : last_data < d = lt_of_not-le h in rw (lt-leb d last_data k, move-role d k))
]

-- ---- the count

module _ (packing : Bool) (d : ℕ) (n : Count) where
  pub meaning-data : d ≤ last_data → true ≡ has_meaning packing (known (type_numbered d)) n
  meaning-data h = rw (data-role d h)

  pub meaning-back : last_data < d → (d ≡ skip_number → ⊥) → (d ≡ goto_number → ⊥) → true ≡ has_meaning packing (known (type_numbered d)) n
  meaning-back h skip goto = rw (move-type d h, ne_eqb d skip_number skip, ne_eqb d goto_number goto) (backs (eqb d back_number))
    where
      backs : (back : Bool) → true ≡ has_meaning packing (known (moving false back false)) n
      backs true = refl
      backs false = refl

-- a number from k on that is not k
pub past : {d k : ℕ} → k ≤ d → (d ≡ k → ⊥) → suc k ≤ d
past h n = omega arith

-- ---- the bytes of an integer or a real

power : (d k : ℕ) → last_digits < d → d ≤ last_integers → d / 2 - 3 ≡ k → 2 ^ k ≡ width_numbered d
power d zero l h e = let t : d < 8 = omega arith in rw (lt-ltb d 8 t)
power d (suc zero) l h e =
    let s : 8 ≤ d = omega arith in
    let t : d < 10 = omega arith in
    rw (le-ltb d 8 s, lt-ltb d 10 t)
power d (suc (suc zero)) l h e =
    let r : 8 ≤ d = omega arith in
    let s : 10 ≤ d = omega arith in
    let t : d < 12 = omega arith in
    rw (le-ltb d 8 r, le-ltb d 10 s, lt-ltb d 12 t)
power d (suc (suc (suc zero))) l h e =
    let r : 8 ≤ d = omega arith in
    let s : 10 ≤ d = omega arith in
    let t : 12 ≤ d = omega arith in
    rw (le-ltb d 8 r, le-ltb d 10 s, le-ltb d 12 t)
power d (suc (suc (suc (suc k)))) l h e = absurd (omega arith)

pub integer-power : (d : ℕ) → last_digits < d → d ≤ last_integers → 2 ^ (d / 2 - 3) ≡ size_numbered d
integer-power d l h = rw (le-leb d last_integers h) (power d (d / 2 - 3) l h refl)

pub real-power : (d : ℕ) → last_integers < d → d ≤ last_data → 2 ^ (d / 2 - 5) ≡ size_numbered d
real-power d l h = rw (lt-leb d last_integers l) (elim (dec_le d last_single) [
  | yes k ↦ (let e : d / 2 - 5 ≡ 2 = omega arith in rw (le-leb d last_single k, e))
  | no k ↦ (let m : last_single < d = lt_of_not-le k in let e : d / 2 - 5 ≡ 3 = omega arith in rw (lt-leb d last_single m, e))
])

pub shape-fits : (d : ℕ) → d ≤ last_data → FitRole (Data (shape_numbered d))
shape-fits d h = let f : FitRole (known (type_numbered d)) = known-fits (type_numbered d) (type-fits d) in rw (data-role d h) at f
