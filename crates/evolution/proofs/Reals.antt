-- A double that is read from a single narrows to that single again, and is no NaN: the nearest single is finite, and
-- its double has its value.
use Prim.Native.Nat.{ℕ, ◌%◌, ◌^◌, ◌≤◌, ◌<◌}
use native.Mathlib.Nat.{mod-eq_of_lt, le_of_lt}
use native.Mathlib.Omega.{arith}
use mathlib.Core.Path.{◌≡◌, refl, sym, ap, ap₂, ◌∙◌}
use mathlib.Core.Bool.{Bool, true, false}
use mathlib.Core.List.{List, [], ◌∷◌, map}
use borrow.Author.Tests.{le-ltb}
use lib.ListN.{length, take, length-map}
use lib.Seq.{take_all, length-take-le}
use Rattle.real.specs.Patterns.{single_body, single_infinity, is_nan}
use Rattle.real.specs.Narrowing.{single_of}
use Rattle.real.specs.Widening.{double_of}
use Rattle.real.proofs.NarrowLaws.{single-below, single-finite}
use Rattle.real.proofs.WidenLaws.{double-nan, single-again}
use Rattle.record.specs.Packing.{stored, low_bytes, no_nan, reals_fit}
use Rattle.record.proofs.Bytes.{All, all_take, all-below}
use Rattle.std.proofs.lemmas.List.{take-map}
use Rattle.evolution.specs.Claim.{read_back}
use Rattle.evolution.specs.Again.{came_back, PacksAgain, RealsAgain}

abbrev Double : ℕ → Type 0
Double x = x < 2 ^ 64

-- ---- reals fit their bits

singles-fit : (xs : List ℕ) → All Double xs → map (λ x. x % 256 ^ 4) (map single_of xs) ≡ map single_of xs
singles-fit [] h = refl
singles-fit (x ∷ xs) h = ap₂ (λ (y : ℕ) (ys : List ℕ). y ∷ ys) (mod-eq_of_lt (single-below x h.0)) (singles-fit xs h.1)

doubles-fit : (xs : List ℕ) → All Double xs → map (λ x. x % 256 ^ 8) xs ≡ xs
doubles-fit [] h = refl
doubles-fit (x ∷ xs) h = ap₂ (λ (y : ℕ) (ys : List ℕ). y ∷ ys) (mod-eq_of_lt h.0) (doubles-fit xs h.1)

-- ---- there and back

once : List ℕ → List ℕ
once xs = map double_of (map single_of xs)

not-nan : (d : ℕ) → is_nan (double_of (single_of d)) ≡ false
not-nan d = double-nan (single_of d) ∙ le-ltb single_infinity (single_body (single_of d)) (le_of_lt (single-finite d))

no-nans : (xs : List ℕ) → no_nan (once xs) ≡ true
unfolding no_nan once
no-nans [] = refl
no-nans (x ∷ xs) = rw (not-nan x, no-nans xs)

twice : (xs : List ℕ) → map single_of (once xs) ≡ map single_of xs
unfolding once
twice [] = refl
twice (x ∷ xs) = ap₂ (λ (y : ℕ) (ys : List ℕ). y ∷ ys) (single-again x) (twice xs)

length-once : (xs : List ℕ) → length (once xs) ≡ length xs
unfolding once
length-once xs = length-map (map single_of xs) double_of ∙ length-map xs single_of

-- only the first n are stored
first-stored : (w : ℕ) (big : Bool) (n : ℕ) (xs ys : List ℕ) → take n xs ≡ take n ys → low_bytes w big n xs ≡ low_bytes w big n ys
unfolding low_bytes
first-stored w big n xs ys e = rw e

module _ (big u : Bool) (n : ℕ) (xs : List ℕ) (enough : n ≤ length xs) (fit : All Double xs) where
  first : List ℕ
  first = take n xs

  length-first : length first ≡ n
  unfolding first
  length-first = length-take-le n xs enough

  all : take n (once first) ≡ once first
  all = take_all n (once first) (omega (arith, length-once first, length-first))

  came-singles : came_back true big u n xs ≡ once first
  unfolding read_back once first
  came-singles = ap (map double_of) (singles-fit (take n xs) (all_take Double n xs fit))

  came-doubles : came_back false big u n xs ≡ take n xs
  unfolding read_back
  came-doubles = doubles-fit (take n xs) (all_take Double n xs fit)

  singles-again : PacksAgain true big u n xs
  unfolding reals_fit stored once first
  singles-again =
      record {
        values = came-singles;
        served = rw came-singles (ap no_nan all ∙ no-nans first);
        same = rw came-singles
            (first-stored 4 big n (map single_of (once first)) (map single_of xs) (ap (take n) (twice first)
            ∙ take_all n (map single_of first) (omega (arith, length-map first single_of, length-first))
            ∙ sym (take-map single_of n xs)));
      }

  doubles-again : PacksAgain false big u n xs
  unfolding reals_fit stored
  doubles-again =
      record {
        values = came-doubles;
        served = refl;
        same = rw came-doubles (first-stored 8 big n (take n xs) xs (take_all n (take n xs) (omega (arith, length-take-le n xs enough))));
      }

pub reals-again : RealsAgain
reals-again true big u n xs h k = singles-again big u n xs h (all-below xs k)
reals-again false big u n xs h k = doubles-again big u n xs h (all-below xs k)
