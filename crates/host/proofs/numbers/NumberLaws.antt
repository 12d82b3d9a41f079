-- Numbers of a host's width as bytes, many of them one after the other: the laws of any width, at this one.
use Prim.Native.Nat.{ℕ, ◌+◌, ◌*◌, ◌/◌, ◌%◌, ◌≤◌, ◌<◌}
use native.Mathlib.Nat.{zero-add}
use native.Mathlib.Omega.{arith}
use mathlib.Core.Path.{◌≡◌, sym, ap, ◌∙◌}
use mathlib.Core.List.{List, ◌++◌}
use lib.ListN.{length, take, drop, get_or, set}
use Rattle.record.specs.Bytes.{part, store_at, number_bytes, number_at}
use Rattle.record.proofs.Bytes.{All}
use Rattle.record.proofs.NumberLaws.{length-number_bytes, length-big_endian, length-big_endian_in, number_in, big-endian-runs, big-endian-append, big-endian-drop, big-endian-take, big-endian-part, big-endian-back}
use Rattle.record.proofs.Stores.{store-whole, runs, Put, put-more, put-done, Wrote, wrote-more}
use Rattle.host.specs.Numbers.{number_size, numbers_in, numbers_bytes}

-- ---- many numbers

-- number i of a run, as bytes
abbrev pub encoded_at : List ℕ → ℕ → List ℕ
encoded_at xs i = number_bytes number_size (get_or xs i 0)

-- one more number
pub encoded-more : {d₀ d d' : List ℕ} (xs : List ℕ) {i : ℕ} → Wrote d₀ 0 (encoded_at xs) d i → i < length xs → length xs * number_size ≤ length d₀
    → d' ≡ store_at d (i * number_size) (encoded_at xs i) → Wrote d₀ 0 (encoded_at xs) d' (i + 1)
encoded-more xs {i} w h room e = wrote-more {to = i * number_size} number_size (λ j. length-number_bytes number_size _) w (omega arith) (omega arith) e

pub encoded : {d₀ d : List ℕ} (xs : List ℕ) {i : ℕ} → Wrote d₀ 0 (encoded_at xs) d i → i ≡ length xs → d ≡ store_at d₀ 0 (numbers_bytes xs)
unfolding numbers_bytes
encoded {d₀} {d} xs {i} w all =
    let runs-all : runs i (encoded_at xs) ≡ numbers_bytes xs = rw all (big-endian-runs number_size xs) in
    w.is ∙ ap (store_at d₀ 0) runs-all

pub length-bytes_of : (xs : List ℕ) → length (numbers_bytes xs) ≡ length xs * number_size
unfolding numbers_bytes
length-bytes_of xs = length-big_endian number_size xs

-- numbers that fill a run
pub bytes_whole : (d xs : List ℕ) → length d ≡ length xs * number_size → store_at d 0 (numbers_bytes xs) ≡ numbers_bytes xs
bytes_whole d xs e = store-whole d (numbers_bytes xs) (length-bytes_of xs ∙ sym e)

pub length-numbers_in : (bs : List ℕ) → length (numbers_in bs) ≡ length bs / number_size
unfolding numbers_in
length-numbers_in bs = length-big_endian_in number_size (length bs / number_size) bs

module _ (bs : List ℕ) {d₀ d : List ℕ} {i : ℕ} (p : Put d₀ 0 (numbers_in bs) d i) (size : length bs ≡ length d₀ * number_size) where
  all-numbers : length (numbers_in bs) ≡ length d₀
  all-numbers = length-numbers_in bs ∙ (omega arith)

  -- one more number
  pub decoded-more : {x : ℕ} → i < length d₀ → x ≡ number_at number_size bs (i * number_size) → Put d₀ 0 (numbers_in bs) (set d i x) (i + 1)
  unfolding numbers_in
  decoded-more {x} h e =
      let inside : i < length bs / number_size = omega arith in
      let is : x ≡ get_or (numbers_in bs) i 0 = e ∙ sym (number_in number_size (length bs / number_size) bs i inside) in
      let more : Put d₀ 0 (numbers_in bs) (set d (0 + i) x) (i + 1) = put-more p (omega arith) (omega (arith, all-numbers)) is in
      rw zero-add at more

  pub decoded : i ≡ length d₀ → d ≡ numbers_in bs
  decoded all = put-done p (omega (arith, all-numbers)) ∙ store-whole d₀ (numbers_in bs) all-numbers

-- ---- parts of many numbers

pub bytes-append : (xs ys : List ℕ) → numbers_bytes (xs ++ ys) ≡ numbers_bytes xs ++ numbers_bytes ys
unfolding numbers_bytes
bytes-append xs ys = big-endian-append number_size xs ys

pub bytes_drop : (n : ℕ) (xs : List ℕ) → numbers_bytes (drop n xs) ≡ drop (n * number_size) (numbers_bytes xs)
unfolding numbers_bytes
bytes_drop n xs = big-endian-drop number_size n xs

pub bytes_take : (n : ℕ) (xs : List ℕ) → n ≤ length xs → numbers_bytes (take n xs) ≡ take (n * number_size) (numbers_bytes xs)
unfolding numbers_bytes
bytes_take n xs h = big-endian-take number_size n xs h

pub bytes-part : (xs : List ℕ) (from n : ℕ) → from + n ≤ length xs → numbers_bytes (part xs from n) ≡ part (numbers_bytes xs) (from * number_size) (n * number_size)
unfolding numbers_bytes
bytes-part xs from n h = big-endian-part number_size xs from n h

-- ---- bytes come back from their numbers

-- whole numbers of bytes, decoded and encoded, are the bytes
pub bytes_back : (bs : List ℕ) → length bs % number_size ≡ 0 → All (λ b. b < 256) bs → numbers_bytes (numbers_in bs) ≡ bs
unfolding numbers_bytes numbers_in
bytes_back bs e h = big-endian-back number_size (length bs / number_size) bs (omega arith) h

-- numbers put over the first ones of a run change the bytes of just those
pub bytes-stored : (bs s : List ℕ) → length bs % number_size ≡ 0 → All (λ b. b < 256) bs → numbers_bytes (store_at (numbers_in bs) 0 s) ≡ store_at bs 0 (numbers_bytes s)
bytes-stored bs s e h =
    let sum : (0 + length s) * number_size ≡ 0 + length (numbers_bytes s) = rw length-bytes_of (omega arith) in
    bytes-append s (drop (0 + length s) (numbers_in bs)) ∙ ap (λ (r : List ℕ). numbers_bytes s ++ r) (bytes_drop (0 + length s) (numbers_in bs) ∙ rw (bytes_back bs e h, sum))
