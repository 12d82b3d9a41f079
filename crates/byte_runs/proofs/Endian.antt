-- The library's bytes of a number, and its number of some bytes, are the digits and the number of `Bytes`. All laws are
-- over the width.
use Prim.Native.Nat.{ℕ, zero, suc, ◌+◌, ◌-◌, ◌*◌, ◌/◌, ◌%◌, ◌^◌, ◌≤◌, ◌<◌}
use native.Mathlib.Nat.{pow-zero, pow-suc, div-one, div-div-eq-div-mul, sub_self, not-suc-le-zero, le_of_suc-le-suc}
use native.Mathlib.Omega.{arith}
use mathlib.Core.Path.{◌≡◌, refl, ap, ◌∙◌}
use mathlib.Core.List.{List, ◌∷◌, ◌++◌, append-nil, reverse, reverse-append, reverse-cons}
use lib.ListN.{length, take, get_or, replicate, length-append, length-replicate}
use lib.Seq.{take-suc, take_all, length-take-le}
use borrow.Rule.Slice.PartMut.{put_mid}
use Rattle.std.proofs.lemmas.List.{take-replicate, drop-replicate}
use Rattle.std.specs.Int.{w64, swap_bytes, to_le_bytes, from_be_bytes, from_le_bytes, byte_at, byte_worth, bytes_low_first, bytes_high_first, sum_through}
use Rattle.record.specs.Bytes.{digits, number, number_bytes}
use Rattle.record.proofs.Bytes.{length_digits}
use Rattle.record.proofs.NumberLaws.{bytes_next}
use Rattle.record.proofs.Widening.{number_append}

byte-is : (i n : ℕ) → byte_at i n ≡ n / 256 ^ i % 256
byte-is zero n = rw (pow-zero, div-one)
byte-is (suc i) n = refl

worth-is : (i b : ℕ) → byte_worth i b ≡ b * 256 ^ i
worth-is zero b = rw pow-zero (omega arith)
worth-is (suc i) b = refl

-- `to_be_bytes`
pub high_bytes : (k n : ℕ) → bytes_high_first k n ≡ number_bytes k n
unfolding number_bytes digits
high_bytes zero n = refl
high_bytes (suc k) n = rw (bytes_next, byte-is, high_bytes k n)

-- `to_le_bytes`
low-from : (i k n : ℕ) → bytes_low_first i k n ≡ digits 256 k (n / 256 ^ i)
unfolding digits
low-from i zero n = refl
low-from i (suc k) n = rw (byte-is, low-from (suc i) k n, div-div-eq-div-mul n (256 ^ i) 256, pow-suc)

pub low_bytes : (k n : ℕ) → bytes_low_first 0 k n ≡ digits 256 k n
low_bytes k n = low-from 0 k n ∙ rw (pow-zero, div-one)

low-front : (n k x : ℕ) → n ≤ k → take n (digits 256 k x) ≡ digits 256 n x
unfolding digits
low-front zero k x h = refl
low-front (suc n) zero x h = absurd (not-suc-le-zero h)
low-front (suc n) (suc k) x h = ap (λ (ds : List ℕ). x % 256 ∷ ds) (low-front n k (x / 256) (le_of_suc-le-suc h))

-- the lowest of them
pub low_front : (n x : ℕ) → n ≤ 8 → take n (to_le_bytes w64 x) ≡ digits 256 n x
low_front n x h = ap (take n) (low_bytes 8 x) ∙ low-front n 8 x h

-- `from_le_bytes`
low-through : (bs : List ℕ) (k : ℕ) → k < length bs → sum_through (λ i. byte_worth i (get_or bs i 0)) k ≡ number 256 (take (suc k) bs)
unfolding number
low-through bs zero h = rw (take-suc bs 0 0 h) (omega arith)
low-through bs (suc k) h =
    let long : length (take (suc k) bs) ≡ suc k = length-take-le (suc k) bs (omega arith) in
    rw (low-through bs k (omega arith), worth-is, take-suc bs (suc k) 0 h, number_append, long) (omega arith)

pub low_number : (bs : List ℕ) (k : ℕ) → length bs ≡ suc k → sum_through (λ i. byte_worth i (get_or bs i 0)) k ≡ number 256 bs
low_number bs k e = low-through bs k (omega arith) ∙ ap (number 256) (take_all (suc k) bs (omega arith))

-- `from_be_bytes`
high-through : (bs : List ℕ) (m k : ℕ) → k ≤ m → k < length bs
    → sum_through (λ i. byte_worth (m - i) (get_or bs i 0)) k ≡ 256 ^ (m - k) * number 256 (reverse (take (suc k) bs))
unfolding number
high-through bs m zero l h = rw (worth-is, take-suc bs 0 0 h) (omega arith)
high-through bs m (suc k) l h =
    let on : m - k ≡ suc (m - suc k) = omega arith in
    rw (high-through bs m k (omega arith) (omega arith), worth-is, take-suc bs (suc k) 0 h, reverse-append, on, pow-suc) (omega arith)

pub high_number : (bs : List ℕ) (k : ℕ) → length bs ≡ suc k → sum_through (λ i. byte_worth (k - i) (get_or bs i 0)) k ≡ number 256 (reverse bs)
high_number bs k e =
    high-through bs k k (omega arith) (omega arith) ∙ rw (sub_self, pow-zero, take_all (suc k) bs (omega arith)) (omega arith)

-- `swap_bytes`
pub turned-eight : (n : ℕ) → swap_bytes w64 n ≡ number 256 (reverse (digits 256 8 n))
turned-eight n = ap (from_be_bytes w64) (low_bytes 8 n) ∙ high_number (digits 256 8 n) 7 (length_digits 256 8 n)

-- ---- bytes put into a block of eight zeros, and the block's number: before them, or behind them, zeros count nothing

zeros : (k : ℕ) → number 256 (replicate k 0) ≡ 0
unfolding number
zeros zero = refl
zeros (suc k) = rw (zeros k) (omega arith)

zeros-turned : (k : ℕ) → number 256 (reverse (replicate k 0)) ≡ 0
unfolding number
zeros-turned zero = refl
zeros-turned (suc k) = rw (reverse-cons {A = ℕ} 0 (replicate k 0), number_append, zeros-turned k) (omega arith)

pub high_padded : (a n : ℕ) (s : List ℕ) → a + length s ≡ 8 → 8 ≤ a + n → from_be_bytes w64 (put_mid a n (replicate 8 0) s) ≡ number 256 (reverse s)
high_padded a n s e h =
    let none : 8 - a - n ≡ 0 = omega arith in
    let block : put_mid a n (replicate 8 0) s ≡ replicate a 0 ++ s = rw (take-replicate {X = ℕ} a 8 0 (omega arith), drop-replicate {X = ℕ} a 8 0, drop-replicate {X = ℕ} n (8 - a) 0, none, append-nil) in
    let long : length (replicate a 0 ++ s) ≡ 8 = rw (length-append, length-replicate) e in
    ap (from_be_bytes w64) block ∙ high_number (replicate a 0 ++ s) 7 long
    ∙ rw (reverse-append, number_append 256 (reverse s) (reverse (replicate a 0)), zeros-turned a) (omega arith)

pub low_padded : (n : ℕ) (s : List ℕ) → length s ≡ n → n ≤ 8 → from_le_bytes w64 (put_mid 0 n (replicate 8 0) s) ≡ number 256 s
low_padded n s e h =
    let block : put_mid 0 n (replicate 8 0) s ≡ s ++ replicate (8 - n) 0 = rw (drop-replicate {X = ℕ} n 8 0) in
    let long : length (s ++ replicate (8 - n) 0) ≡ 8 = rw (length-append, length-replicate) (omega arith) in
    ap (from_le_bytes w64) block ∙ low_number (s ++ replicate (8 - n) 0) 7 long
    ∙ rw (number_append 256 s (replicate (8 - n) 0), zeros (8 - n)) (omega arith)
