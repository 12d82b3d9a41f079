-- Laws of the byte that digits make, and of the values of a run of characters.
use Prim.Native.Nat.{ℕ, zero, suc, ◌+◌, ◌-◌, ◌*◌, ◌^◌, ◌≤◌, ◌<◌, min}
use native.Mathlib.Nat.{not-suc-le-zero, le_of_suc-le-suc, suc-sub-suc}
use native.Mathlib.Omega.{arith}
use mathlib.Core.Path.{◌≡◌, refl, sym, ap, ◌∙◌}
use mathlib.Core.Bool.{Bool, true, false}
use mathlib.Core.List.{List, [], ◌∷◌, ◌++◌, map, reverse, reverse-append}
use lib.ListN.{length, take, drop, get_or, length-take, length-drop, length-map, length-reverse, get_or-replicate, drop_of_length-le}
use lib.Seq.{take-add, take_all, take-take}
use Rattle.record.specs.Bytes.{part, fit, number, ordered}
use Rattle.record.specs.Geometry.{per_byte}
use Rattle.record.specs.Packing.{digit_value}
use Rattle.record.proofs.Bytes.{length-fit}
use Rattle.record.proofs.NumberLaws.{part-items}
use Rattle.record.proofs.Stores.{length_part}
use Rattle.record.proofs.Widening.{number_append}
use Rattle.record.proofs.Fields.{split}
use Rattle.std.proofs.lemmas.List.{take-map, drop-map}
use Rattle.digits.specs.inside.bytes.{byte_of}

-- ---- digits, as many as fill a byte, and 0 for each that is missing

pub fit-zero : (n : ℕ) (l : List ℕ) (q : ℕ) → q < n → get_or (fit n 0 l) q 0 ≡ get_or l q 0
unfolding fit
fit-zero zero l q h = absurd (not-suc-le-zero h)
fit-zero (suc n) [] q h = get_or-replicate (suc n - 0) q 0 0 (omega arith)
fit-zero (suc n) (x ∷ xs) zero h = refl
fit-zero (suc n) (x ∷ xs) (suc q) h = rw suc-sub-suc (fit-zero n xs q (le_of_suc-le-suc h))

-- ---- a byte from its digits

-- eight binary digits make the number that the numbers of their halves make
pub two-halves : (high : Bool) (first second : List ℕ) → length first ≡ 4 → length second ≡ 4
    → number 16 (ordered high (number 2 (ordered high first) ∷ number 2 (ordered high second) ∷ [])) ≡ number 2 (ordered high (first ++ second))
unfolding number
two-halves false first second lf ls =
    let sum : number 2 (first ++ second) ≡ number 2 first + 2 ^ 4 * number 2 second = number_append 2 first second ∙ ap (λ (k : ℕ). number 2 first + 2 ^ k * number 2 second) lf in
    omega arith
two-halves true first second lf ls =
    let long : length (reverse second) ≡ 4 = length-reverse second ∙ ls in
    let sum : number 2 (reverse second ++ reverse first) ≡ number 2 (reverse second) + 2 ^ 4 * number 2 (reverse first) =
    number_append 2 (reverse second) (reverse first) ∙ ap (λ (k : ℕ). number 2 (reverse second) + 2 ^ k * number 2 (reverse first)) long in
    rw (reverse-append first second) (omega arith)

module _ (high : Bool) (ds : List ℕ) where
  abbrev eight : List ℕ
  eight = fit 8 0 ds

  eight-long : length eight ≡ 8
  eight-long = length-fit 8 0 ds

  halves : part eight 0 4 ++ part eight 4 4 ≡ eight
  halves = sym (take-add 4 4 eight) ∙ take_all 8 eight (omega (arith, eight-long))

  pub binary-byte : {a b : ℕ} → a ≡ number 2 (ordered high (part eight 0 4)) → b ≡ number 2 (ordered high (part eight 4 4)) → number 16 (ordered high (a ∷ b ∷ [])) ≡ byte_of false high ds
  unfolding byte_of
  binary-byte ea eb =
      rw (ea, eb)
      (two-halves high (part eight 0 4) (part eight 4 4) (length_part 4 0 eight (omega (arith, eight-long))) (length_part 4 4 eight (omega (arith, eight-long)))
      ∙ ap (λ (l : List ℕ). number 2 (ordered high l)) halves)

  -- four of the eight
  pub half : (first : ℕ) → first ≤ 4 → {a b c d : ℕ} → a ≡ get_or ds first 0 → b ≡ get_or ds (first + 1) 0 → c ≡ get_or ds (first + 2) 0 → d ≡ get_or ds (first + 3) 0
      → part eight first 4 ≡ a ∷ b ∷ c ∷ d ∷ []
  half first h ea eb ec ed =
      part-items eight first 4 (omega (arith, eight-long))
      ∙ rw (fit-zero 8 ds first (omega arith), fit-zero 8 ds (first + 1) (omega arith), fit-zero 8 ds (first + 2) (omega arith), fit-zero 8 ds (first + 3) (omega arith), ea, eb, ec, ed)

  pub hex-byte : {a b : ℕ} → a ≡ get_or ds 0 0 → b ≡ get_or ds 1 0 → number 16 (ordered high (a ∷ b ∷ [])) ≡ byte_of true high ds
  unfolding byte_of
  hex-byte {a} {b} ea eb = ap (λ (l : List ℕ). number 16 (ordered high l)) (sym pair)
    where
      pair : fit 2 0 ds ≡ a ∷ b ∷ []
      pair =
          let long : length (fit 2 0 ds) ≡ 2 = length-fit 2 0 ds in
          sym (take_all 2 (fit 2 0 ds) (omega arith)) ∙ part-items (fit 2 0 ds) 0 2 (omega arith) ∙ rw (fit-zero 2 ds 0 (omega arith), fit-zero 2 ds 1 (omega arith), ea, eb)

-- only the first digits count: those that fill the byte, or all
pub byte-first : (hex high : Bool) (ds : List ℕ) (count : ℕ) → min (per_byte hex) (length ds) ≤ count → byte_of hex high (take count ds) ≡ byte_of hex high ds
unfolding byte_of fit
byte-first hex high ds count h =
    let n : ℕ = per_byte hex in
    let pad : n - length (take count ds) ≡ n - length ds = simp length-take (omega arith) in
    let front : take n (take count ds) ≡ take n ds =
    split n count (λ l. take-take n count ds l) (λ l. ap (take n) (take_all count ds (omega arith))) in
    rw (pad, front)

-- those from the number i on, up to `end`
pub next-part : (hex high : Bool) (cs : List ℕ) (i end : ℕ) → min (per_byte hex) (length cs - i) ≤ end - i
    → byte_of hex high (map digit_value (part cs i (end - i))) ≡ byte_of hex high (drop i (map digit_value cs))
next-part hex high cs i end h =
    let rest : List ℕ = drop i (map digit_value cs) in
    let long : length rest ≡ length cs - i = simp (length-drop, length-map) in
    rw (← take-map digit_value (end - i) (drop i cs), ← drop-map digit_value i cs) (byte-first hex high rest (end - i) (rw long h))

-- where none is there
pub zero-byte : (hex high : Bool) → byte_of hex high [] ≡ 0
unfolding byte_of fit number
zero-byte true true = refl
zero-byte true false = refl
zero-byte false true = refl
zero-byte false false = refl

pub byte-none : (hex high : Bool) (cs : List ℕ) (i : ℕ) → length cs ≤ i → byte_of hex high (drop i (map digit_value cs)) ≡ 0
byte-none hex high cs i h =
    let long : length (map digit_value cs) ≤ i = simp length-map h in
    rw (drop_of_length-le (map digit_value cs) {i = i} long) (zero-byte hex high)
