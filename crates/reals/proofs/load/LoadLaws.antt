-- Laws of reals read from fields: a single by its four bytes in either order, and many singles, one after the other.
use Prim.Native.Nat.{ℕ, ◌+◌, ◌*◌, ◌<◌}
use native.Mathlib.Nat.{mod-eq_of_lt}
use native.Mathlib.Omega.{arith}
use mathlib.Core.Path.{◌≡◌, refl, sym, ap, ◌∙◌}
use mathlib.Core.Bool.{Bool, true, false}
use mathlib.Core.List.{List, map, map-map, reverse}
use lib.ListN.{length, drop}
use Rattle.layout.specs.declared.Shape.TheVariants.{Integers, Reals}
use Rattle.real.specs.Widening.{double_of}
use Rattle.record.specs.Bytes.{part, pieces, join, digits, number, ordered, number_bytes, big_endian}
use Rattle.record.specs.Table.{integer_bytes}
use Rattle.record.specs.Reading.{loaded, widened}
use Rattle.record.proofs.Bytes.{number_digits}
use Rattle.record.proofs.NumberLaws.{length-number_bytes}
use Rattle.record.proofs.Stores.{runs}
use Rattle.integers.proofs.IntegerLaws.{joined, pieces-take}
use Rattle.reals.specs.inside.load.{double_bytes}

-- ---- one real

-- a number below 2^32 by its four bytes
pub by-four : (r : ℕ) (ds : List ℕ) → r < 4294967296 → digits 256 4 r ≡ ds → r ≡ number 256 ds
by-four r ds below e = sym (mod-eq_of_lt below) ∙ sym (number_digits 256 4 r (omega arith)) ∙ ap (number 256) e

pub length-double_bytes : (big : Bool) (bs : List ℕ) → length (double_bytes big bs) ≡ 8
unfolding double_bytes
length-double_bytes big bs = length-number_bytes 8 (double_of (number 256 (ordered big bs)))

pub loaded-single : (big : Bool) (bs : List ℕ) (s d : ℕ) → s ≡ number 256 (ordered big bs) → d ≡ double_of s → number_bytes 8 d ≡ double_bytes big bs
unfolding double_bytes
loaded-single big bs s d e h = rw (h, e)

-- ---- n reals

abbrev pub loaded_at : List ℕ → ℕ → Bool → ℕ → List ℕ
loaded_at input at big i = double_bytes big (part input (at + i * 4) 4)

pub loaded-singles : (input : List ℕ) (at : ℕ) (big u : Bool) (n : ℕ)
    → runs n (loaded_at input at big) ≡ integer_bytes (loaded (Reals true big) u n (part input at (n * 4))).items
unfolding big_endian number_bytes loaded double_bytes
loaded-singles input at big u n =
    let h : List ℕ → ℕ = λ p. number 256 (ordered big p) in
    let g : ℕ → List ℕ = λ x. reverse (digits 256 8 x) in
    rw (pieces-take 4 n (drop at input)) (sym (ap join (map-map g double_of (map h (pieces 4 n (drop at input)))) ∙ joined (λ x. g (double_of x)) h 4 input n at))

-- doubles are read as unsigned integers of eight bytes
pub loaded-doubles : (big u : Bool) (n : ℕ) (bs : List ℕ) → (loaded (Integers 8 big) true n bs).items ≡ (loaded (Reals false big) u n bs).items
unfolding loaded widened
loaded-doubles big u n bs = refl
