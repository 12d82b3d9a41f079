-- Laws of the fields of a plan: each number by itself, and that a plan that is served is the plan of its fields.
use Rattle.layout.specs.declared.Role.{Role}
use Rattle.std.specs.declared.option.Option.{Option}
use Rattle.std.specs.declared.option.Option.TheVariants.{Some, None}
use Rattle.std.specs.Prelude.{if◌then◌else◌}
use Prim.Native.Nat.{ℕ, zero, suc, ◌+◌, ◌*◌, ◌/◌, ◌%◌, ◌≤◌, ◌<◌}
use native.Mathlib.Omega.{arith}
use mathlib.Core.Path.{◌≡◌, refl}
use mathlib.Core.Bool.{Bool, true, false, ◌&&◌, not}
use lib.Dec.{eqb, leb}
use borrow.Author.Tests.{le-leb, lt-leb, leb-true, ne_eqb}
use Rattle.layout.specs.declared.Field.{Field}
use Rattle.layout.specs.declared.Refusal.TheVariants.{BadType, BadCount, BadMove}
use Rattle.layout.specs.Refusals.{ok, refused}
use Rattle.layout.specs.Layout.{max_count, to_nat, in_limit, has_meaning}
use Rattle.layout.specs.Codes.{last_data, skip_number, last_type, type_numbered, known, flag_unit, count_unit, count_from, field_of, code_of, code_for}
use Rattle.layout.specs.inside.Parsing.{HasType, over_count}
use Rattle.layout.proofs.Encoded.{all_below, below}
use Rattle.layout.proofs.Steps.{code-back}
use Rattle.layout.proofs.Laws.{demanded}
use Rattle.plans.specs.Plans.{spare_number, is_type, planned_field}
use Rattle.plans.specs.inside.Judging.{Judges}
use Rattle.std.specs.declared.result.Result.TheVariants.{Ok, Err}

-- ---- the types: a number that passes names a type

abbrev named : Option Role → Bool
named (Some k) = true
named None = false

all_named : all_below (λ d. if is_type d then named (type_numbered d) else true) (suc last_type) ≡ true
unfolding type_numbered
all_named = refl

is-named : (t : Option Role) → named t ≡ true → t ≡ Some (known t)
is-named (Some k) h = refl
is-named None h = let z : ◌≡◌ {A = ℕ} 0 1 = cc in absurd (omega arith)

pub type-named : (d : ℕ) → is_type d ≡ true → HasType d
type-named d h l =
    is-named (type_numbered d)
    (let e : (if is_type d then named (type_numbered d) else true) ≡ true = below (λ d. if is_type d then named (type_numbered d) else true) (suc last_type) all_named d (omega arith) in
    rw h at e)

pub type-low : (d : ℕ) → is_type d ≡ true → d ≤ last_type
type-low d h = by-test (leb d last_data) refl h
  where
    by-test : (t : Bool) → leb d last_data ≡ t → (if t then not (eqb d 7) else (leb skip_number d && leb d last_type)) ≡ true → d ≤ last_type
    by-test true e k = let l : d ≤ last_data = leb-true d last_data e in omega arith
    by-test false e k = both (leb skip_number d) (leb d last_type) refl k
      where
        both : (a b : Bool) → leb d last_type ≡ b → a && b ≡ true → d ≤ last_type
        both true true q k = leb-true d last_type q
        both true false q k = let z : ◌≡◌ {A = ℕ} 0 1 = cc in absurd (omega arith)
        both false b q k = let z : ◌≡◌ {A = ℕ} 0 1 = cc in absurd (omega arith)

-- ---- counts by their numbers

pub count-within : (n : ℕ) → n ≤ suc over_count → in_limit (count_from n) ≡ true
count-within zero h = refl
count-within (suc zero) h = refl
count-within (suc (suc n)) h = le-leb n max_count (omega arith)

pub count-over : (n : ℕ) → suc over_count < n → in_limit (count_from n) ≡ false
count-over zero h = absurd (omega arith)
count-over (suc zero) h = absurd (omega arith)
count-over (suc (suc n)) h = lt-leb n max_count (omega arith)

-- ---- one number

bit-back : (b : ℕ) → b < 2 → to_nat (eqb b 1) ≡ b
bit-back zero h = refl
bit-back (suc zero) h = refl
bit-back (suc (suc b)) h = absurd (omega arith)

-- a number is the code of its parts
code-whole : (w : ℕ) → code_of (w % flag_unit) (eqb (w / flag_unit % 2) 1) (w / count_unit) ≡ w
code-whole w =
    let b : to_nat (eqb (w / flag_unit % 2) 1) ≡ w / flag_unit % 2 = bit-back (w / flag_unit % 2) (omega arith) in
    let high : w / flag_unit / 2 ≡ w / count_unit = omega arith in
    let low : w ≡ w % flag_unit + flag_unit * (w / flag_unit) = omega arith in
    let upper : w / flag_unit ≡ w / flag_unit % 2 + 2 * (w / flag_unit / 2) = omega arith in
    rw b (omega arith)

pub code-again : (w : ℕ) → is_type (w % flag_unit) ≡ true → code_for (field_of w) ≡ w
code-again w h =
    let parts : code_of (w % flag_unit) (eqb (w / flag_unit % 2) 1) (w / count_unit) ≡ w = code-whole w in
    rw parts at (code-back (w % flag_unit) (eqb (w / flag_unit % 2) 1) (w / count_unit) (type-low (w % flag_unit) h) (type-named (w % flag_unit) h))

module _ (packing : Bool) (i w : ℕ) where
  pub planned-type : is_type (w % flag_unit) ≡ false → planned_field packing i w ≡ refused BadType i
  unfolding planned_field
  planned-type h = rw h

  module _ (type : is_type (w % flag_unit) ≡ true) where
    pub planned-count : in_limit (count_from (w / count_unit)) ≡ false → planned_field packing i w ≡ refused BadCount i
    unfolding planned_field
    planned-count h = rw (type, h)

    module _ (count : in_limit (count_from (w / count_unit)) ≡ true) where
      pub planned-meaning : has_meaning packing (known (type_numbered (w % flag_unit))) (count_from (w / count_unit)) ≡ false → planned_field packing i w ≡ refused BadMove i
      unfolding planned_field field_of
      planned-meaning h = rw (type, count, h)

      pub planned-good : has_meaning packing (known (type_numbered (w % flag_unit))) (count_from (w / count_unit)) ≡ true → planned_field packing i w ≡ ok (field_of w)
      unfolding planned_field field_of
      planned-good h = rw (type, count, h)

-- ---- which numbers are types

module _ (d : ℕ) where
  pub type-data : d ≤ last_data → (d ≡ spare_number → ⊥) → is_type d ≡ true
  type-data h k = rw (le-leb d last_data h, ne_eqb d spare_number k)

  pub type-spare : d ≡ spare_number → is_type d ≡ false
  type-spare e = rw e

  module _ (above : last_data < d) where
    pub type-gap : d < skip_number → is_type d ≡ false
    type-gap h = rw (lt-leb d last_data above, lt-leb skip_number d h)

    pub type-past : last_type < d → is_type d ≡ false
    type-past h = let k : skip_number ≤ d = omega arith in rw (lt-leb d last_data above, le-leb skip_number d k, lt-leb d last_type h)

    pub type-move : skip_number ≤ d → d ≤ last_type → is_type d ≡ true
    type-move h k = rw (lt-leb d last_data above, le-leb skip_number d h, le-leb d last_type k)

-- ---- the verdict on a number

-- the first number whose count is over the limit
abbrev pub end_count : ℕ
end_count = suc (suc over_count) * count_unit

module _ (packing : Bool) (w : ℕ) where
  pub judged-type : is_type (w % flag_unit) ≡ false → Judges packing w (Err BadType)
  judged-type h i = planned-type packing i w h

  module _ (type : is_type (w % flag_unit) ≡ true) where
    pub judged-over : end_count ≤ w → Judges packing w (Err BadCount)
    judged-over h i = planned-count packing i w type (count-over (w / count_unit) (omega arith))

    module _ (small : w < end_count) where
      count : in_limit (count_from (w / count_unit)) ≡ true
      count = count-within (w / count_unit) (omega arith)

      pub judged-misused : has_meaning packing (known (type_numbered (w % flag_unit))) (count_from (w / count_unit)) ≡ false → Judges packing w (Err BadMove)
      judged-misused h i = planned-meaning packing i w type count h

      pub judged-good : has_meaning packing (known (type_numbered (w % flag_unit))) (count_from (w / count_unit)) ≡ true → Judges packing w (Ok (tt {0}))
      judged-good h i = planned-good packing i w type count h

-- a number that is a field has a type, so that the field's code is the number
pub good-code : (packing : Bool) (i w : ℕ) {f : Field} → planned_field packing i w ≡ ok f → code_for (field_of w) ≡ w
unfolding planned_field
good-code packing i w {f} e = code-again w (demanded (is_type (w % flag_unit)) BadType i _ f e).0
