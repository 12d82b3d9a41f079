-- Counts and repeats at a place, digit by digit.
use Rattle.std.specs.Prelude.{if◌then◌else◌}
use Prim.Native.Nat.{ℕ, zero, suc, ◌≤◌, ◌<◌}
use native.Mathlib.Omega.{arith}
use mathlib.Core.Path.{◌≡◌, refl}
use mathlib.Core.Bool.{Bool, true, false, ◌&&◌, and-false}
use mathlib.Core.List.{List, [], ◌∷◌}
use borrow.Author.Tests.{lt-ltb, le-ltb, le-leb, lt-leb, leb-true}
use lib.Dec.{ltb, leb}
use lib.ListN.{length, get_or, drop, drop_of_length-le}
use lib.Seq.{drop-cons}
use Rattle.layout.specs.Layout.{is_decimal}
use Rattle.perl.specs.Tokens.{max_repeat, with_digit, continues, number_in, digits_in, repeat_of}

-- ---- whether a digit continues a number

module _ (limit v c : ℕ) where
  pub no_digit : is_decimal c ≡ false → continues limit v c ≡ false
  unfolding continues
  no_digit e = rw e

  module _ (digit : is_decimal c ≡ true) where
    pub makes-zero : with_digit v c ≡ 0 → continues limit v c ≡ false
    unfolding continues
    makes-zero e = rw (digit, le-ltb 0 (with_digit v c) (omega arith))

    pub too_large : limit < with_digit v c → continues limit v c ≡ false
    unfolding continues
    too_large h = rw (lt-leb (with_digit v c) limit h, and-false)

    pub goes_on : (with_digit v c ≡ 0 → ⊥) → with_digit v c ≤ limit → continues limit v c ≡ true
    unfolding continues
    goes_on e h = rw (digit, lt-ltb 0 (with_digit v c) (omega arith), le-leb (with_digit v c) limit h)

-- ---- the number from the place i on

module _ (s : List ℕ) (limit v i : ℕ) where
  pub number-on : i < length s → continues limit v (get_or s i 0) ≡ true
      → (number_in limit v (drop i s) ≡ number_in limit (with_digit v (get_or s i 0)) (drop (suc i) s)) × (digits_in limit v (drop i s) ≡ suc (digits_in limit (with_digit v (get_or s i 0)) (drop (suc i) s)))
  unfolding number_in digits_in
  number-on h e = rw (drop-cons s i 0, e) (refl, refl)

  pub number-stop : i < length s → continues limit v (get_or s i 0) ≡ false → (number_in limit v (drop i s) ≡ v) × (digits_in limit v (drop i s) ≡ 0)
  unfolding number_in digits_in
  number-stop h e = rw (drop-cons s i 0, e) (refl, refl)

  pub number-end : length s ≤ i → (number_in limit v (drop i s) ≡ v) × (digits_in limit v (drop i s) ≡ 0)
  unfolding number_in digits_in
  number-end h = rw (drop_of_length-le s h) (refl, refl)

-- ---- bounds

pub digits-within : (limit v : ℕ) (cs : List ℕ) → digits_in limit v cs ≤ length cs
unfolding digits_in
digits-within limit v [] = omega arith
digits-within limit v (c ∷ cs) = step (continues limit v c) (digits-within limit (with_digit v c) cs)
  where
    step : (t : Bool) → digits_in limit (with_digit v c) cs ≤ length cs → (if t then suc (digits_in limit (with_digit v c) cs) else 0) ≤ suc (length cs)
    step true h = omega arith
    step false h = omega arith

pub number-limit : (limit v : ℕ) (cs : List ℕ) → v ≤ limit → number_in limit v cs ≤ limit
unfolding number_in continues
number-limit limit v [] h = h
number-limit limit v (c ∷ cs) h = step (is_decimal c) (ltb 0 (with_digit v c)) (leb (with_digit v c) limit) (λ e. leb-true (with_digit v c) limit e) (λ k. number-limit limit (with_digit v c) cs k)
  where
    step : (d z t : Bool) → (t ≡ true → with_digit v c ≤ limit)
        → (with_digit v c ≤ limit → number_in limit (with_digit v c) cs ≤ limit)
        → (if (d && z && t) then number_in limit (with_digit v c) cs else v) ≤ limit
    step false z t e k = h
    step true false t e k = h
    step true true false e k = h
    step true true true e k = k (e refl)

-- how often a group is written, by the number that was read
pub repeats : (cs : List ℕ) (value times : ℕ) → value ≡ number_in max_repeat 0 cs → times ≡ repeat_of value → (0 < times) × (times ≤ max_repeat)
repeats cs value times e q = rw (q, e) (go (number_in max_repeat 0 cs) (number-limit max_repeat 0 cs (omega arith)))
  where
    go : (v : ℕ) → v ≤ max_repeat → (0 < repeat_of v) × (repeat_of v ≤ max_repeat)
    go zero k = (omega arith, omega arith)
    go (suc v) k = (omega arith, k)
