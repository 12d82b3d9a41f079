-- Laws of reals stored in fields: a single's four bytes, and many singles, one after the other.
use Prim.Native.Nat.{ℕ, ◌+◌, ◌*◌, ◌≤◌}
use native.Mathlib.Omega.{arith}
use mathlib.Core.Path.{◌≡◌, refl, sym, ap, ◌∙◌}
use mathlib.Core.Bool.{Bool, true, false}
use mathlib.Core.List.{List, map, map-map, reverse}
use lib.ListN.{length, drop, length-map}
use lib.Seq.{take_all}
use Rattle.layout.specs.declared.Shape.TheVariants.{Integers, Reals}
use Rattle.real.specs.Narrowing.{single_of}
use Rattle.record.specs.Bytes.{pieces, join, digits, number, ordered, number_at, big_endian_in}
use Rattle.record.specs.Table.{integers_in}
use Rattle.record.specs.Packing.{stored, low_bytes}
use Rattle.record.proofs.Bytes.{length-pieces, length_digits, length-ordered}
use Rattle.record.proofs.Stores.{runs}
use Rattle.integers.proofs.IntegerLaws.{joined}
use Rattle.reals.specs.inside.store.{single_bytes}

-- ---- one real

pub length-single_bytes : (big : Bool) (d : ℕ) → length (single_bytes big d) ≡ 4
unfolding single_bytes
length-single_bytes big d = length-ordered big (digits 256 4 (single_of d)) ∙ length_digits 256 4 (single_of d)

-- ---- n reals

abbrev pub stored_at : List ℕ → ℕ → Bool → ℕ → List ℕ
stored_at area start big i = single_bytes big (number_at 8 area (start + i * 8))

pub stored-singles : (area : List ℕ) (start : ℕ) (big : Bool) (n : ℕ) → runs n (stored_at area start big) ≡ stored (Reals true big) n (integers_in n (drop start area))
unfolding stored low_bytes big_endian_in single_bytes number_at
stored-singles area start big n =
    let h : List ℕ → ℕ = λ p. number 256 (reverse p) in
    let g : ℕ → List ℕ = λ x. ordered big (digits 256 4 x) in
    let xs : List ℕ = map h (pieces 8 n (drop start area)) in
    let long : length (map single_of xs) ≡ n = length-map xs single_of ∙ length-map (pieces 8 n (drop start area)) h ∙ length-pieces 8 n (drop start area) in
    let all : length (map single_of xs) ≤ n = omega arith in
    sym (ap (λ (ys : List ℕ). join (map g ys)) (take_all n (map single_of xs) all) ∙ ap join (map-map g single_of xs) ∙ joined (λ x. g (single_of x)) h 8 area n start)

-- doubles are stored as unsigned integers of eight bytes
pub stored-doubles : (big : Bool) (n : ℕ) (xs : List ℕ) → stored (Integers 8 big) n xs ≡ stored (Reals false big) n xs
unfolding stored
stored-doubles big n xs = refl
