-- The numbers of types and counts come back from what they stand for.
use Prim.Native.Nat.{ℕ, zero, suc, ◌≤◌, ◌<◌}
use native.Mathlib.Omega.{arith}
use native.Mathlib.Decide.{dec_lt}
use mathlib.Core.Path.{◌≡◌, refl}
use mathlib.Core.Bool.{Bool, true, false, ◌&&◌}
use borrow.Author.Tests.{eqb-true}
use lib.Dec.{eqb}
use Rattle.layout.specs.declared.Role.{Role}
use Rattle.std.specs.declared.option.Option.{Option}
use Rattle.std.specs.declared.option.Option.TheVariants.{Some, None}
use Rattle.layout.specs.Codes.{last_type, type_numbered, known, count_from, type_number, count_number}
use Rattle.layout.specs.inside.Parsing.{HasType}

-- ---- what holds of every number below another, as one computed test

abbrev pub all_below : (ℕ → Bool) → ℕ → Bool
all_below p zero = true
all_below p (suc n) = p n && all_below p n

and_both : (a b : Bool) → a && b ≡ true → (a ≡ true) × (b ≡ true)
and_both true b e = (refl, e)
and_both false b e = absurd (let z : ◌≡◌ {A = ℕ} 0 1 = cc in omega arith)

pub below : (p : ℕ → Bool) (n : ℕ) → all_below p n ≡ true → (d : ℕ) → d < n → p d ≡ true
below p zero h d l = absurd (omega arith)
below p (suc n) h d l = elim (dec_lt d n) [
  | yes k ↦ below p n (and_both (p n) (all_below p n) h).1 d k
  | no k ↦ (let e : d ≡ n = omega arith in rw e (and_both (p n) (all_below p n) h).0)
]

-- ---- the numbers of types

abbrev agrees : Option Role → ℕ → Bool
agrees (Some k) d = eqb (type_number k) d
agrees None d = true

all-agree : all_below (λ d. agrees (type_numbered d) d) (suc last_type) ≡ true
unfolding type_numbered
all-agree = refl

agrees-known : (t : Option Role) (d : ℕ) → agrees t d ≡ true → t ≡ Some (known t) → type_number (known t) ≡ d
agrees-known (Some k) d h e = eqb-true (type_number k) d h
agrees-known None d h e = absurd (let z : ◌≡◌ {A = ℕ} 0 1 = cc in omega arith)

pub number-back : (d : ℕ) → d ≤ last_type → HasType d → type_number (known (type_numbered d)) ≡ d
number-back d l h = agrees-known (type_numbered d) d (below (λ d. agrees (type_numbered d) d) (suc last_type) all-agree d (omega arith)) (h l)

pub count-back : (n : ℕ) → count_number (count_from n) ≡ n
count-back zero = refl
count-back (suc zero) = refl
count-back (suc (suc n)) = refl
