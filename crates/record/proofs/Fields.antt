-- Laws of a field's bytes: how many they are, and integers as runs of equal length.
use Prim.Native.Nat.{ℕ, ◌*◌, ◌%◌, ◌^◌, ◌≤◌, ◌<◌}
use native.Mathlib.Nat.{mul-pos, lt_of_not-le}
use native.Mathlib.Decide.{dec_le}
use native.Mathlib.Omega.{arith}
use mathlib.Core.Path.{◌≡◌, refl, ap, ◌∙◌}
use mathlib.Core.Bool.{Bool, true, false}
use mathlib.Core.List.{List}
use lib.ListN.{length, take, length-map}
use lib.Seq.{length-take-le}
use lib.Dec.{T}
use Rattle.layout.specs.declared.Role.TheVariants.{Data}
use Rattle.layout.specs.declared.Shape.{Shape}
use Rattle.layout.specs.declared.Shape.TheVariants.{Text, Digits, Integers, Reals}
use Rattle.layout.specs.inside.Parsing.{FitRole}
use Rattle.layout.specs.Layout.{real_size}
use Rattle.real.specs.Narrowing.{single_of}
use Rattle.record.specs.Bytes.{digits, number, ordered, pieces}
use Rattle.record.specs.Geometry.{bytes_for}
use Rattle.record.specs.Packing.{stored, low_bytes, patterns, digit_bytes, all_digits}
use Rattle.record.proofs.Bytes.{length-fit, length_digits, ordered-ordered, length-ordered, number_digits, length-join, length-pieces}

pub split {ℓ} : {X : Type ℓ} (a b : ℕ) → (a ≤ b → X) → (b < a → X) → X
split a b f g = elim (dec_le a b) [ yes h ↦ f h | no h ↦ g (lt_of_not-le h) ]

-- what the packer has checked of the n items of a field
abbrev pub Served : Shape → ℕ → List ℕ → Type 0
Served (Text pad) n xs = Unit {0}
Served (Digits hex high) n xs = T (all_digits hex (take n xs))
Served (Integers w big) n xs = n ≤ length xs
Served (Reals single big) n xs = n ≤ length xs

-- an integer in a field of w bytes
unfoldable pub item : ℕ → Bool → ℕ → List ℕ
item w big x = ordered big (digits 256 w x)

pub length-item : (w : ℕ) (big : Bool) (x : ℕ) → length (item w big x) ≡ w
unfolding item
length-item w big x = length-ordered big (digits 256 w x) ∙ length_digits 256 w x

pub number-item : (w : ℕ) (big : Bool) (x : ℕ) → number 256 (ordered big (item w big x)) ≡ x % 256 ^ w
unfolding item
number-item w big x = ap (number 256) (ordered-ordered big (digits 256 w x)) ∙ number_digits 256 w x (omega arith)

pub length-integers : (w : ℕ) (big : Bool) (n : ℕ) (xs : List ℕ) → n ≤ length xs → length (low_bytes w big n xs) ≡ n * w
unfolding low_bytes item
length-integers w big n xs h = length-join (item w big) w (length-item w big) (take n xs) ∙ ap (λ (m : ℕ). m * w) (length-take-le n xs h)

pub length-patterns : (single : Bool) (xs : List ℕ) → length (patterns single xs) ≡ length xs
length-patterns true xs = length-map xs single_of
length-patterns false xs = refl

-- ---- every form

pub length-stored : (s : Shape) (n : ℕ) (xs : List ℕ) → Served s n xs → length (stored s n xs) ≡ bytes_for s n
unfolding stored digit_bytes pieces
length-stored (Text pad) n xs h = length-fit n pad xs
length-stored (Digits hex high) n xs h = simp (length-map, length-pieces)
length-stored (Integers w big) n xs h = length-integers w big n xs h
length-stored (Reals single big) n xs h = length-integers (real_size single) big n (patterns single xs) (rw (length-patterns single xs) h)

-- a field that fills bytes needs at least one
pub fills-some : (s : Shape) (n : ℕ) → FitRole (Data s) → 0 < n → 0 < bytes_for s n
fills-some (Text pad) n h k = k
fills-some (Digits true high) n h k = omega arith
fills-some (Digits false high) n h k = omega arith
fills-some (Integers w big) n h k = mul-pos k h.0
fills-some (Reals true big) n h k = omega arith
fills-some (Reals false big) n h k = omega arith
