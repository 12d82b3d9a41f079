-- Laws of the characters of a byte's digits.
use Prim.Native.Nat.{ℕ, zero, suc, ◌+◌, ◌-◌, ◌*◌, ◌/◌, ◌%◌, ◌^◌, ◌<◌}
use native.Mathlib.Nat.{zero-add, suc-add, mul-zero, not-suc-le-zero, le_of_suc-le-suc, pow-zero, pow-suc, pow-succ', mul-suc, div-one, div-div-eq-div-mul}
use native.Mathlib.Omega.{arith}
use lib.Pow.{pow-add}
use mathlib.Core.Path.{◌≡◌, sym, ap, ◌∙◌}
use mathlib.Core.Bool.{Bool, true, false}
use mathlib.Core.List.{List, [], ◌++◌, map, map-append, reverse, reverse-append, append-nil}
use lib.ListN.{length, drop, get_or, length-map, length-append, length-drop, drop_of_length-le}
use borrow.Rule.Slice.PartMut.{put_mid}
use lib.Seq.{take_at}
use Rattle.record.specs.Bytes.{digits, number, ordered}
use Rattle.record.specs.Geometry.{base, per_byte}
use Rattle.record.specs.Reading.{digit_char}
use Rattle.record.proofs.Bytes.{digits_number, digits-below, number_digits, length_digits, length-ordered}
use Rattle.digits.specs.inside.Numerals.{place_of}
use Rattle.digits.specs.inside.chars.{chars_of, four_chars}
use Rattle.digits.proofs.DigitLaws.{ordered_at, map_at, map_turned}

-- ---- the digits of a byte

digit-nth : (b n x q : ℕ) → q < n → get_or (digits b n x) q 0 ≡ x / b ^ q % b
unfolding digits
digit-nth b zero x q h = absurd (not-suc-le-zero h)
digit-nth b (suc n) x zero h = rw (pow-zero b, div-one x)
digit-nth b (suc n) x (suc q) h = digit-nth b n (x / b) q (le_of_suc-le-suc h) ∙ rw (div-div-eq-div-mul x b (b ^ q), pow-succ' b q)

pow-bits : (k q : ℕ) → 2 ^ (k * q) ≡ (2 ^ k) ^ q
pow-bits k zero = rw (mul-zero k, pow-zero (2 ^ k))
pow-bits k (suc q) = rw (mul-suc k q, pow-add 2 (k * q) k, pow-bits k q, pow-suc (2 ^ k) q)

pub hex-shifted : (x q : ℕ) → q < 2 → x / 2 ^ (4 * q) % 16 ≡ get_or (digits 16 2 x) q 0
hex-shifted x q h = rw (pow-bits 4 q) (sym (digit-nth 16 2 x q h))

pub binary-shifted : (x q : ℕ) → q < 8 → x / 2 ^ q % 2 ≡ get_or (digits 2 8 x) q 0
binary-shifted x q h = sym (digit-nth 2 8 x q h)

digits-add : (b j k n : ℕ) → digits b (j + k) n ≡ digits b j n ++ digits b k (n / b ^ j)
unfolding digits
digits-add b zero k n = rw (zero-add, pow-zero b, div-one n)
digits-add b (suc j) k n = rw (suc-add, digits-add b j k (n / b), div-div-eq-div-mul n b (b ^ j), pow-succ' b j)

digits_low : (b k n : ℕ) → 0 < b → digits b k (n % b ^ k) ≡ digits b k n
digits_low b k n h =
    let back : digits b (length (digits b k n)) (number b (digits b k n)) ≡ digits b k n = digits_number b (digits b k n) (digits-below b k n h) in
    rw (length_digits, number_digits b k n h) at back

-- a byte's binary digits are those of its lower half, and then those of its upper one
halves : (b : ℕ) → digits 2 8 b ≡ digits 2 4 (b % 16) ++ digits 2 4 (b / 16)
halves b = digits-add 2 4 4 b ∙ ap (λ (ds : List ℕ). ds ++ digits 2 4 (b / 16)) (sym (digits_low 2 4 b (omega arith)))

pub low_first : (b : ℕ) → four_chars (b % 16) ++ four_chars (b / 16) ≡ chars_of false false b
unfolding chars_of four_chars
low_first b = sym (ap (map digit_char) (halves b) ∙ rw map-append)

pub high-first : (b : ℕ) → reverse (four_chars (b / 16)) ++ reverse (four_chars (b % 16)) ≡ chars_of false true b
unfolding chars_of four_chars
high-first b =
    let turned : map digit_char (reverse (digits 2 8 b)) ≡ reverse (map digit_char (digits 2 4 (b % 16)) ++ map digit_char (digits 2 4 (b / 16))) =
    map_turned digit_char (digits 2 8 b) ∙ ap reverse (sym (low_first b)) in
    sym (turned ∙ reverse-append (map digit_char (digits 2 4 (b % 16))) (map digit_char (digits 2 4 (b / 16))))

-- the second half put after the first
pub halves-put : (d s t : List ℕ) → length d ≡ 8 → length s ≡ 4 → put_mid 4 (length (s ++ drop 4 d) - 4) (s ++ drop 4 d) t ≡ s ++ t
halves-put d s t ed es =
    let long : length (s ++ drop 4 d) ≡ 8 = simp (length-append, length-drop) (omega arith) in
    let rest : drop (length (s ++ drop 4 d) - 4) (drop 4 (s ++ drop 4 d)) ≡ [] = drop_of_length-le (drop 4 (s ++ drop 4 d)) (simp length-drop (omega arith)) in
    rw (take_at s (drop 4 d) 4 es, rest, append-nil t)

pub length-chars : (hex high : Bool) (b : ℕ) → length (chars_of hex high b) ≡ per_byte hex
unfolding chars_of
length-chars hex high b = simp (length-map, length-ordered, length_digits)

-- the character of a digit that was found at its place
pub char-found : (hex high : Bool) (b j q d v : ℕ) → j < per_byte hex → q ≡ place_of high (per_byte hex) j
    → d ≡ get_or (digits (base hex) (per_byte hex) b) q 0 → v ≡ digit_char d → v ≡ get_or (chars_of hex high b) j 0
unfolding chars_of
char-found hex high b j q d v h eq ed ev =
    let ds : List ℕ = digits (base hex) (per_byte hex) b in
    let long : length ds ≡ per_byte hex = length_digits (base hex) (per_byte hex) b in
    let at : get_or (ordered high ds) j 0 ≡ d = ordered_at high (per_byte hex) ds j long h ∙ rw (ed, eq) in
    rw (map_at digit_char (ordered high ds) j (omega (arith, length-ordered high ds)), at) ev
