-- Laws of reading digits: the characters of the bytes of a field, and what a loop keeps that stores them.
use Prim.Native.Nat.{ℕ, zero, suc, ◌+◌, ◌-◌, ◌*◌, ◌≤◌, ◌<◌}
use native.Mathlib.Nat.{not-suc-le-zero, le_of_suc-le-suc, zero-mul, suc-mul}
use native.Mathlib.Omega.{arith}
use mathlib.Core.Path.{◌≡◌, refl, sym, ap, ◌∙◌}
use mathlib.Core.Bool.{Bool, true, false}
use mathlib.Core.List.{List, [], ◌∷◌, ◌++◌, map, map-append}
use lib.ListN.{length, take, drop, get_or, set}
use lib.Seq.{get_or-drop, get_or-take, take-append-le, take-append-add, drop-append-add, length-take-le}
use Rattle.layout.specs.declared.Shape.TheVariants.{Digits}
use Rattle.record.specs.Bytes.{part, ceil_div, join, digits, ordered}
use Rattle.record.specs.Geometry.{base, per_byte}
use Rattle.record.specs.Reading.{digit_char, loaded}
use Rattle.record.proofs.Bytes.{length-join}
use Rattle.record.proofs.Stores.{Put, put-more, put-done, store-whole}
use Rattle.record.proofs.Fields.{split}
use Rattle.digits.specs.inside.chars.{chars_of}
use Rattle.byte_runs.proofs.ByteLaws.{part-take}
use Rattle.digits.proofs.chars.CharLaws.{length-chars}

-- ---- the characters of a field

chars-join : (hex high : Bool) (bs : List ℕ) → map digit_char (join (map (λ b. ordered high (digits (base hex) (per_byte hex) b)) bs)) ≡ join (map (chars_of hex high) bs)
unfolding join chars_of
chars-join hex high [] = refl
chars-join hex high (b ∷ bs) = rw (map-append, chars-join hex high bs)

-- a piece of a join of pieces of one length
module _ (f : ℕ → List ℕ) (k : ℕ) (each : (x : ℕ) → length (f x) ≡ k) where
  join-part : (xs : List ℕ) (i count : ℕ) → i < length xs → count ≤ k → part (join (map f xs)) (i * k) count ≡ take count (f (get_or xs i 0))
  unfolding join
  join-part [] i count h l = absurd (not-suc-le-zero h)
  join-part (x ∷ xs) zero count h l = rw zero-mul (take-append-le count (f x) (join (map f xs)) (omega (arith, each x)))
  join-part (x ∷ xs) (suc i) count h l =
      let past : suc i * k ≡ length (f x) + i * k = omega (arith, suc-mul i k, each x) in
      rw (past, drop-append-add (f x) (join (map f xs)) (i * k)) (join-part xs i count (le_of_suc-le-suc h) l)

  -- the first n places of a join lie in as many pieces as hold n
  join-first : (m : ℕ) (xs : List ℕ) (n : ℕ) → n ≤ m * k → take n (join (map f (take m xs))) ≡ take n (join (map f xs))
  unfolding join
  join-first zero xs n h = let none : n ≡ 0 = omega (arith, zero-mul k) in rw none refl
  join-first (suc m) [] n h = refl
  join-first (suc m) (x ∷ xs) n h =
      split n (length (f x))
      (λ l. take-append-le n (f x) (join (map f (take m xs))) l ∙ sym (take-append-le n (f x) (join (map f xs)) l))
      (λ l. let past : n ≡ length (f x) + (n - length (f x)) = omega arith in
      rw past (take-append-add (f x) (join (map f (take m xs))) (n - length (f x)) ∙ ap (λ (r : List ℕ). f x ++ r) (join-first m xs (n - length (f x)) (omega (arith, suc-mul m k, each x)))
      ∙ sym (take-append-add (f x) (join (map f xs)) (n - length (f x)))))

bytes-hold : (hex : Bool) (n m : ℕ) → ceil_div n (per_byte hex) ≤ m → n ≤ m * per_byte hex
bytes-hold true n m h = omega arith
bytes-hold false n m h = omega arith

-- the characters that a field of n digits shows
abbrev pub shown_chars : Bool → Bool → ℕ → List ℕ → List ℕ
shown_chars hex high n bs = (loaded (Digits hex high) false n bs).items

pub shown-any : (hex high u : Bool) (n : ℕ) (bs : List ℕ) → shown_chars hex high n bs ≡ (loaded (Digits hex high) u n bs).items
unfolding loaded
shown-any hex high u n bs = refl

pub length-shown : (hex high : Bool) (n : ℕ) (bs : List ℕ) → ceil_div n (per_byte hex) ≤ length bs → length (shown_chars hex high n bs) ≡ n
unfolding loaded
length-shown hex high n bs e =
    rw (chars-join hex high bs)
    (length-take-le n (join (map (chars_of hex high) bs)) (rw (length-join (chars_of hex high) (per_byte hex) (length-chars hex high) bs) (bytes-hold hex n (length bs) e)))

-- of longer runs only the first bytes count
pub shown-first : (hex high : Bool) (n m : ℕ) (bs : List ℕ) → ceil_div n (per_byte hex) ≤ m → shown_chars hex high n (take m bs) ≡ shown_chars hex high n bs
unfolding loaded
shown-first hex high n m bs h =
    rw (chars-join hex high (take m bs), chars-join hex high bs) (join-first (chars_of hex high) (per_byte hex) (length-chars hex high) m bs n (bytes-hold hex n m h))

pub shown-part : (hex high : Bool) (n : ℕ) (bs : List ℕ) (k count : ℕ) → k < length bs → count ≤ per_byte hex → k * per_byte hex + count ≤ n
    → part (shown_chars hex high n bs) (k * per_byte hex) count ≡ take count (chars_of hex high (get_or bs k 0))
unfolding loaded
shown-part hex high n bs k count h l m =
    rw (chars-join hex high bs) (part-take n (k * per_byte hex) count (join (map (chars_of hex high) bs)) m ∙ join-part (chars_of hex high) (per_byte hex) (length-chars hex high) bs k count h l)

-- one character
pub shown_at : (hex high : Bool) (n : ℕ) (bs : List ℕ) (k j : ℕ) → k < length bs → j < per_byte hex → k * per_byte hex + j < n
    → get_or (shown_chars hex high n bs) (k * per_byte hex + j) 0 ≡ get_or (chars_of hex high (get_or bs k 0)) j 0
shown_at hex high n bs k j h l m =
    let first : ℕ = k * per_byte hex in
    let s : List ℕ = shown_chars hex high n bs in
    let chars : List ℕ = chars_of hex high (get_or bs k 0) in
    let piece : part s first (j + 1) ≡ take (j + 1) chars = shown-part hex high n bs k (j + 1) h (omega arith) (omega arith) in
    sym (get_or-take (j + 1) (drop first s) j 0 (omega arith) ∙ get_or-drop first s j 0) ∙ ap (λ (l : List ℕ). get_or l j 0) piece ∙ get_or-take (j + 1) chars j 0 (omega arith)

-- a character of the byte number k
pub hex-more : (high : Bool) (bytes d₀ : List ℕ) (k j i : ℕ) {d : List ℕ} {v : ℕ} → ceil_div (length d₀) 2 ≤ length bytes → k < length bytes → j < 2 → i ≡ 2 * k + j → i < length d₀
    → Put d₀ 0 (shown_chars true high (length d₀) bytes) d i → v ≡ get_or (chars_of true high (get_or bytes k 0)) j 0 → Put d₀ 0 (shown_chars true high (length d₀) bytes) (set d i v) (i + 1)
hex-more high bytes d₀ k j i fits h jl e l p v =
    let place : k * 2 + j ≡ i = omega arith in
    let at : 0 + i ≡ i = omega arith in
    let char = rw place at (shown_at true high (length d₀) bytes k j h jl (omega arith)) in
    rw at at (put-more p (omega arith) (omega (arith, length-shown true high (length d₀) bytes fits)) (v ∙ sym char))

-- all of them
pub hex-done : (high u : Bool) (bytes d₀ d : List ℕ) (i : ℕ) → ceil_div (length d₀) 2 ≤ length bytes → i ≡ length d₀ → Put d₀ 0 (shown_chars true high (length d₀) bytes) d i
    → d ≡ (loaded (Digits true high) u (length d₀) bytes).items
hex-done high u bytes d₀ d i fits e p =
    let long = length-shown true high (length d₀) bytes fits in
    put-done p (omega arith) ∙ store-whole d₀ (shown_chars true high (length d₀) bytes) long ∙ shown-any true high u (length d₀) bytes
