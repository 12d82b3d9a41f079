-- Laws of the bits that differ: of two bytes they are the ones of the exclusive or, and of two runs the sum over the
-- bytes.
use Rattle.std.specs.Prelude.{if◌then◌else◌}
use Prim.Native.Nat.{ℕ, zero, suc, ◌+◌, ◌-◌, ◌*◌, ◌/◌, ◌%◌, ◌^◌, ◌≤◌, ◌<◌, min}
use native.Mathlib.Nat.{pow-suc, add_assoc, zero-add}
use native.Mathlib.Omega.{arith}
use mathlib.Core.Path.{◌≡◌, refl, sym, ap, ap₂, ◌∙◌}
use mathlib.Core.Bool.{Bool, true, false}
use mathlib.Core.List.{List, [], ◌∷◌, ◌++◌}
use lib.Arith.{lt-one}
use lib.Bits.{bit_xor, differ, xor_step}
use lib.Count.{ones, ones_step}
use lib.Dec.{eqb}
use lib.ListN.{length, take, get_or, drop, length-drop, take-append-drop}
use Rattle.record.specs.Bytes.{part, join, digits}
use Rattle.record.proofs.Bytes.{length_digits}
use Rattle.compare.specs.Difference.{differing, bits_of, differing_bits}
use lib.Seq.{take-add, take_all}
use Rattle.compare.proofs.difference.Runs.{front-more, fronts-long}

-- ---- two bytes

two_digits : (x y : ℕ) → x < 2 → y < 2 → differ x y ≡ (if eqb x y then 0 else 1)
two_digits zero zero h k = refl
two_digits zero (suc zero) h k = refl
two_digits (suc zero) zero h k = refl
two_digits (suc zero) (suc zero) h k = refl
two_digits zero (suc (suc y)) h k = absurd (omega arith)
two_digits (suc zero) (suc (suc y)) h k = absurd (omega arith)
two_digits (suc (suc x)) y h k = absurd (omega arith)

-- the ones of the exclusive or are the places at which the binary digits differ
pub xor-bits : (k a b : ℕ) → a < 2 ^ k → b < 2 ^ k → ones (bit_xor a b) ≡ differing (digits 2 k a) (digits 2 k b)
unfolding ones differing digits
xor-bits zero a b h l = rw (lt-one h, lt-one l)
xor-bits (suc k) a b h l =
    let p : 2 ^ suc k ≡ 2 ^ k * 2 = pow-suc 2 k in
    let s : bit_xor a b ≡ bit_xor (a / 2) (b / 2) * 2 + differ (a % 2) (b % 2) = xor_step a b in
    let d : differ (a % 2) (b % 2) ≡ (if eqb (a % 2) (b % 2) then 0 else 1) = two_digits (a % 2) (b % 2) (omega arith) (omega arith) in
    let small : differ (a % 2) (b % 2) < 2 = below (eqb (a % 2) (b % 2)) d in
    let low : bit_xor a b % 2 ≡ differ (a % 2) (b % 2) = omega arith in
    let high : bit_xor a b / 2 ≡ bit_xor (a / 2) (b / 2) = omega arith in
    ones_step (bit_xor a b) ∙ ap₂ (λ (x y : ℕ). x + ones y) (low ∙ d) high ∙ ap (λ (x : ℕ). (if eqb (a % 2) (b % 2) then 0 else 1) + x) (xor-bits k (a / 2) (b / 2) (omega arith) (omega arith))
  where
    below : {x : ℕ} (t : Bool) → x ≡ (if t then 0 else 1) → x < 2
    below true e = omega arith
    below false e = omega arith

-- ---- runs

differing-few : (xs ys : List ℕ) → differing xs ys ≤ length xs
unfolding differing
differing-few [] ys = omega arith
differing-few (x ∷ xs) [] = omega arith
differing-few (x ∷ xs) (y ∷ ys) = step (eqb x y) (differing-few xs ys)
  where
    step : (t : Bool) → differing xs ys ≤ length xs → (if t then 0 else 1) + differing xs ys ≤ suc (length xs)
    step true h = omega arith
    step false h = omega arith

pub byte-few : (a b : ℕ) {r : ℕ} → r ≡ differing (digits 2 8 a) (digits 2 8 b) → r ≤ 8
byte-few a b e = omega (arith, differing-few (digits 2 8 a) (digits 2 8 b), length_digits 2 8 a)

pub differing-none : (xs : List ℕ) → differing xs [] ≡ 0
unfolding differing
differing-none [] = refl
differing-none (x ∷ xs) = refl

differing-append : (xs ys us vs : List ℕ) → length xs ≡ length ys → differing (xs ++ us) (ys ++ vs) ≡ differing xs ys + differing us vs
unfolding differing
differing-append [] [] us vs e = sym (zero-add (differing us vs))
differing-append [] (y ∷ ys) us vs e = absurd (omega arith)
differing-append (x ∷ xs) [] us vs e = absurd (omega arith)
differing-append (x ∷ xs) (y ∷ ys) us vs e =
    let l : length xs ≡ length ys = omega arith in
    let h : differing (xs ++ us) (ys ++ vs) ≡ differing xs ys + differing us vs = differing-append xs ys us vs l in
    rw h (sym (add_assoc (if eqb x y then 0 else 1) (differing xs ys) (differing us vs)))

-- byte by byte
pub bits-cons : (x y : ℕ) (xs ys : List ℕ) → differing_bits (x ∷ xs) (y ∷ ys) ≡ differing (digits 2 8 x) (digits 2 8 y) + differing_bits xs ys
unfolding bits_of join
bits-cons x y xs ys = differing-append (digits 2 8 x) (digits 2 8 y) (bits_of xs) (bits_of ys) (length_digits 2 8 x ∙ sym (length_digits 2 8 y))

pub bits_none : (xs : List ℕ) → differing_bits xs [] ≡ 0
unfolding bits_of join
bits_none xs = differing-none (bits_of xs)

pub none-bits : (ys : List ℕ) → differing_bits [] ys ≡ 0
unfolding bits_of join differing
none-bits ys = refl

-- run by run
bits-append : (xs ys us vs : List ℕ) → length xs ≡ length ys → differing_bits (xs ++ us) (ys ++ vs) ≡ differing_bits xs ys + differing_bits us vs
bits-append [] [] us vs e = rw (none-bits []) (sym (zero-add (differing_bits us vs)))
bits-append [] (b ∷ ys) us vs e = absurd (omega arith)
bits-append (a ∷ xs) [] us vs e = absurd (omega arith)
bits-append (a ∷ xs) (b ∷ ys) us vs e =
    let l : length xs ≡ length ys = omega arith in
    bits-cons a b (xs ++ us) (ys ++ vs)
    ∙ ap (λ (n : ℕ). differing (digits 2 8 a) (digits 2 8 b) + n) (bits-append xs ys us vs l)
    ∙ sym (add_assoc (differing (digits 2 8 a) (digits 2 8 b)) (differing_bits xs ys) (differing_bits us vs))
    ∙ ap (λ (n : ℕ). n + differing_bits us vs) (sym (bits-cons a b xs ys))

-- a byte more at the end
pub bits-more : (xs ys : List ℕ) (x y : ℕ) → length xs ≡ length ys → differing_bits (xs ++ (x ∷ [])) (ys ++ (y ∷ [])) ≡ differing_bits xs ys + differing (digits 2 8 x) (digits 2 8 y)
bits-more xs ys x y e =
    let one : differing_bits (x ∷ []) (y ∷ []) ≡ differing (digits 2 8 x) (digits 2 8 y) = bits-cons x y [] [] ∙ rw (none-bits []) (omega arith) in
    bits-append xs ys (x ∷ []) (y ∷ []) e ∙ ap (λ (n : ℕ). differing_bits xs ys + n) one

-- what lies past the common length does not count
pub bits-common : (m : ℕ) (xs ys : List ℕ) → min (length xs) (length ys) ≤ m → differing_bits (take m xs) (take m ys) ≡ differing_bits xs ys
bits-common m [] ys h = first m
  where
    first : (m : ℕ) → differing_bits (take m []) (take m ys) ≡ differing_bits [] ys
    first zero = none-bits [] ∙ sym (none-bits ys)
    first (suc m) = none-bits (take (suc m) ys) ∙ sym (none-bits ys)
bits-common m (x ∷ xs) [] h = second m
  where
    second : (m : ℕ) → differing_bits (take m (x ∷ xs)) (take m []) ≡ differing_bits (x ∷ xs) []
    second zero = none-bits [] ∙ sym (bits_none (x ∷ xs))
    second (suc m) = bits_none (take (suc m) (x ∷ xs)) ∙ sym (bits_none (x ∷ xs))
bits-common zero (x ∷ xs) (y ∷ ys) h = absurd (omega arith)
bits-common (suc m) (x ∷ xs) (y ∷ ys) h =
    let l : min (length xs) (length ys) ≤ m = omega arith in
    bits-cons x y (take m xs) (take m ys) ∙ ap (λ (n : ℕ). differing (digits 2 8 x) (digits 2 8 y) + n) (bits-common m xs ys l) ∙ sym (bits-cons x y xs ys)

-- ---- what the sum keeps: it is that of the first i bytes

pub record Counted (xs ys : List ℕ) (sum i : ℕ) : Type 0 where
  pub is : sum ≡ differing_bits (take i xs) (take i ys)
  pub small : sum ≤ 8 * i

pub counted_none : (xs ys : List ℕ) → Counted xs ys 0 0
counted_none xs ys = record { is = sym (none-bits []); small = omega arith }

module _ {xs ys : List ℕ} {sum i r : ℕ} (e : length xs ≡ length ys) (c : Counted xs ys sum i) where
  pub counted-more : i < length xs → r ≡ differing (digits 2 8 (get_or xs i 0)) (digits 2 8 (get_or ys i 0)) → Counted xs ys (sum + r) (i + 1)
  counted-more h q = record {
    is = rw (front-more xs i h, front-more ys i (omega arith), bits-more (take i xs) (take i ys) (get_or xs i 0) (get_or ys i 0) (fronts-long i xs ys e), ← c.is, ← q);
    small = omega (arith, c.small, byte-few (get_or xs i 0) (get_or ys i 0) q);
  }

  -- a block more
  pub counted-block : (m : ℕ) → r ≡ differing_bits (part xs i m) (part ys i m) → r ≤ 8 * m → Counted xs ys (sum + r) (i + m)
  counted-block m q few = record {
    is = rw (take-add i m xs, take-add i m ys, bits-append (take i xs) (take i ys) (part xs i m) (part ys i m) (fronts-long i xs ys e), ← c.is, ← q);
    small = omega (arith, c.small);
  }

  -- the rest
  pub counted-last : r ≡ differing_bits (part xs i (length xs - i)) (part ys i (length ys - i)) → sum + r ≡ differing_bits xs ys
  counted-last q =
      let all : (l : List ℕ) → part l i (length l - i) ≡ drop i l = λ l. take_all (length l - i) (drop i l) (simp length-drop (omega arith)) in
      rw (c.is, q, all xs, all ys)
      (sym (bits-append (take i xs) (take i ys) (drop i xs) (drop i ys) (fronts-long i xs ys e)) ∙ ap₂ differing_bits (take-append-drop i xs) (take-append-drop i ys))

pub counted-done : {xs ys : List ℕ} {sum i : ℕ} → Counted xs ys sum i → length xs ≡ length ys → length xs ≤ i → sum ≡ differing_bits xs ys
counted-done {xs} {ys} {i = i} c e h = c.is ∙ ap₂ differing_bits (take_all i xs h) (take_all i ys (omega arith))
