-- A field's bytes, read again: `loaded` of `stored` is `read_back`.
use Prim.Native.Nat.{ℕ, zero, suc, ◌+◌, ◌-◌, ◌*◌, ◌%◌, ◌^◌, ◌≤◌, ◌<◌, min}
use native.Mathlib.Nat.{not-suc-le-zero, le_of_suc-le-suc, suc-mul, lt_irrefl, lt_of_lt_of_le}
use native.Mathlib.Omega.{arith}
use mathlib.Core.Path.{◌≡◌, refl, sym, ap, ap₂, ◌∙◌}
use mathlib.Core.Bool.{Bool, true, false, and-false}
use mathlib.Core.List.{List, [], ◌∷◌, ◌++◌, map, map-map}
use lib.ListN.{length, take, drop, replicate, length-take, length-map, length-drop}
use lib.Seq.{take-append-add, take_all, length-take-le}
use borrow.Author.Tests.{le-leb, lt-leb, lt-ltb, le-ltb}
use lib.Dec.{T, ltb, ltb→lt}
use Rattle.layout.specs.declared.Shape.{Shape}
use Rattle.layout.specs.declared.Shape.TheVariants.{Text, Digits, Integers, Reals}
use Rattle.layout.specs.Layout.{real_size}
use Rattle.record.specs.Bytes.{fit, ceil_div, pieces, join, digits, number, ordered}
use Rattle.record.specs.Table.{string, real, integer_kind}
use Rattle.record.specs.Packing.{stored, low_bytes, patterns, digit_bytes, digit_value, all_digits}
use Rattle.record.specs.Geometry.{base, per_byte}
use Rattle.record.specs.Reading.{loaded, widened, doubles, digit_char}
use Rattle.evolution.specs.Claim.{read_back, lowered}
use Rattle.record.proofs.Fields.{Served, split, item, length-item, number-item, length-patterns}
use Rattle.std.proofs.lemmas.List.{take-map}
use Rattle.pack_store.proofs.stores.StoreLaws.{take-patterns}
use Rattle.record.proofs.Bytes.{length-fit, ordered-ordered, length-ordered, digits_number, pieces-join, join-pieces, both, All, all_take, all_drop, all_append, all_replicate, all-ordered}

-- ---- integers

integers-back : (w : ℕ) (big u : Bool) (n : ℕ) (xs : List ℕ) → n ≤ length xs
    → map (λ p. widened w u (number 256 (ordered big p))) (pieces w n (low_bytes w big n xs)) ≡ map (λ x. widened w u (x % 256 ^ w)) (take n xs)
unfolding low_bytes item
integers-back w big u n xs h =
    let cut : pieces w n (low_bytes w big n xs) ≡ map (item w big) (take n xs) =
    ap (λ (m : ℕ). pieces w m (low_bytes w big n xs)) (sym (length-take-le n xs h)) ∙ pieces-join (item w big) w (length-item w big) (take n xs) in
    rw cut (rw map-map (simp number-item))

-- ---- reals, which stand in a field as unsigned integers do

reals-back : (single big : Bool) (n : ℕ) (xs : List ℕ) → n ≤ length xs
    → doubles single (map (λ p. number 256 (ordered big p)) (pieces (real_size single) n (low_bytes (real_size single) big n (patterns single xs))))
    ≡ doubles single (map (λ x. x % 256 ^ real_size single) (patterns single (take n xs)))
unfolding widened
reals-back single big n xs h =
    ap (doubles single)
    (integers-back (real_size single) big true n (patterns single xs) (rw (length-patterns single xs) h)
    ∙ ap (map (λ x. x % 256 ^ real_size single)) (take-patterns single n xs))

-- ---- digits

-- one byte of k digits
piece_back : (b k : ℕ) (high : Bool) (p : List ℕ) → length p ≡ k → All (λ d. d < b) p → ordered high (digits b k (number b (ordered high p))) ≡ p
piece_back b k high p e h =
    ap (ordered high) (ap (λ (m : ℕ). digits b m (number b (ordered high p))) (sym e ∙ sym (length-ordered high p)) ∙ digits_number b (ordered high p) (all-ordered (λ d. d < b) high p h))
    ∙ ordered-ordered high p

pieces-back : (b k : ℕ) (high : Bool) (m : ℕ) (ds : List ℕ) → length ds ≡ m * k → All (λ d. d < b) ds
    → map (λ x. ordered high (digits b k x)) (map (λ p. number b (ordered high p)) (pieces k m ds)) ≡ pieces k m ds
unfolding pieces
pieces-back b k high zero ds e h = refl
pieces-back b k high (suc m) ds e h =
    let e' : length ds ≡ m * k + k = e ∙ suc-mul m k in
    ap₂ (λ (a : List ℕ) (r : List (List ℕ)). a ∷ r)
    (piece_back b k high (take k ds) (length-take-le k ds (omega arith)) (all_take (λ d. d < b) k ds h))
    (pieces-back b k high m (drop k ds) (length-drop k ds ∙ (omega arith)) (all_drop (λ d. d < b) k ds h))

-- a character is a digit
abbrev pub IsDigit : Bool → ℕ → Type 0
IsDigit hex c = digit_value c < base hex

pub all_digits_lem : (hex : Bool) (cs : List ℕ) → T (all_digits hex cs) → All (IsDigit hex) cs
unfolding all_digits
all_digits_lem hex [] h = tt
all_digits_lem hex (c ∷ cs) h = let (x, y) = both (ltb (digit_value c) (base hex)) (all_digits hex cs) h in (ltb→lt _ _ x, all_digits_lem hex cs y)

values-below : (hex : Bool) (cs : List ℕ) → All (IsDigit hex) cs → All (λ d. d < base hex) (map digit_value cs)
values-below hex [] h = tt
values-below hex (c ∷ cs) h = (h.0, values-below hex cs h.1)

zero-digit : (hex : Bool) → IsDigit hex 48
unfolding digit_value
zero-digit true = omega arith
zero-digit false = omega arith

-- a cut and padded string of digits is one of digits
fit-digits : (hex : Bool) (n : ℕ) (cs : List ℕ) → All (IsDigit hex) (take n cs) → All (IsDigit hex) (fit n 48 cs)
unfolding fit
fit-digits hex n cs h = all_append (IsDigit hex) (take n cs) (replicate (n - length cs) 48) h (all_replicate (IsDigit hex) (n - length cs) 48 (zero-digit hex))

take-replicate : (i n a : ℕ) → i ≤ n → take i (replicate n a) ≡ replicate i a
take-replicate zero n a h = refl
take-replicate (suc i) zero a h = absurd (not-suc-le-zero h)
take-replicate (suc i) (suc n) a h = ap (λ (r : List ℕ). a ∷ r) (take-replicate i n a (le_of_suc-le-suc h))

-- padding further and cutting again changes nothing
take-fit : (n m pad : ℕ) (cs : List ℕ) → n ≤ m → take n (fit m pad (take n cs)) ≡ fit n pad cs
unfolding fit
take-fit n m pad cs h =
    let t : List ℕ = take n cs in
    let len : length t ≡ min n (length cs) = length-take n cs in
    let rest : ℕ = n - length t in
    ap (λ (x : List ℕ). take n (x ++ replicate (m - length t) pad)) (take_all m t (omega arith))
    ∙ ap (λ (k : ℕ). take k (t ++ replicate (m - length t) pad)) (let e : n ≡ length t + rest = omega arith in e)
    ∙ take-append-add t (replicate (m - length t) pad) rest
    ∙ ap (λ (x : List ℕ). t ++ x) (take-replicate rest (m - length t) pad (omega arith) ∙ ap (λ (k : ℕ). replicate k pad) (let e : rest ≡ n - length cs = omega arith in e))

none_of {ℓ} : {X : Type ℓ} → 16 < 16 → X
none_of h = absurd (lt_irrefl 16 h)

-- the character of a digit's value is the digit in lower case
char-value : (c : ℕ) → digit_value c < 16 → digit_char (digit_value c) ≡ lowered c
unfolding digit_value digit_char lowered
char-value c h =
    split 48 c
    (λ (a : 48 ≤ c). split c 57
    (λ (b : c ≤ 57). simp (le-leb 48 c a, le-leb c 57 b, lt-leb 65 c (omega arith), lt-ltb (c - 48) 10 (omega arith)) (omega arith))
    (λ (b : 57 < c). split c 70
    (λ (d : c ≤ 70). split 65 c
    (λ (e : 65 ≤ c). simp (lt-leb c 57 b, and-false, le-leb 65 c e, le-leb c 70 d, le-ltb (c - 55) 10 (omega arith)) (omega arith))
    (λ (e : c < 65). none_of (simp (lt-leb c 57 b, and-false, lt-leb 65 c e, lt-leb 97 c (omega arith)) at h)))
    (λ (d : 70 < c). split c 102
    (λ (e : c ≤ 102). split 97 c
    (λ (f : 97 ≤ c). simp (lt-leb c 57 b, lt-leb c 70 d, and-false, le-leb 97 c f, le-leb c 102 e, le-ltb (c - 87) 10 (omega arith)) (omega arith))
    (λ (f : c < 97). none_of (simp (lt-leb c 57 b, lt-leb c 70 d, and-false, lt-leb 97 c f) at h)))
    (λ (e : 102 < c). none_of (simp (lt-leb c 57 b, lt-leb c 70 d, lt-leb c 102 e, and-false) at h)))))
    (λ (a : c < 48). none_of (simp (lt-leb 48 c a, lt-leb 65 c (omega arith), lt-leb 97 c (omega arith)) at h))

chars-values : (hex : Bool) (cs : List ℕ) → All (IsDigit hex) cs → map digit_char (map digit_value cs) ≡ map lowered cs
chars-values hex [] h = refl
chars-values hex (c ∷ cs) h =
    ap₂ (λ (a : ℕ) (r : List ℕ). a ∷ r) (char-value c (lt_of_lt_of_le h.0 (base-le hex))) (chars-values hex cs h.1)
  where
    base-le : (hex : Bool) → base hex ≤ 16
    base-le true = omega arith
    base-le false = omega arith

up_le : (hex : Bool) (n : ℕ) → n ≤ ceil_div n (per_byte hex) * per_byte hex
up_le true n = omega arith
up_le false n = omega arith

digits-back : (hex high : Bool) (n : ℕ) (cs : List ℕ) → All (IsDigit hex) (take n cs)
    → take n (map digit_char (join (map (λ x. ordered high (digits (base hex) (per_byte hex) x)) (digit_bytes hex high n cs)))) ≡ map lowered (fit n 48 cs)
unfolding digit_bytes
digits-back hex high n cs h =
    let k : ℕ = per_byte hex in
    let m : ℕ = ceil_div n k in
    let cut : List ℕ = fit (m * k) 48 (take n cs) in
    let ds : List ℕ = map digit_value cut in
    let len : length ds ≡ m * k = length-map cut digit_value ∙ length-fit (m * k) 48 (take n cs) in
    let good : All (IsDigit hex) cut = fit-digits hex (m * k) (take n cs) (all_take (IsDigit hex) (m * k) (take n cs) h) in
    ap (λ (ps : List (List ℕ)). take n (map digit_char (join ps))) (pieces-back (base hex) k high m ds len (values-below hex cut good))
    ∙ ap (λ (xs : List ℕ). take n (map digit_char xs)) (join-pieces k m ds len)
    ∙ ap (take n) (chars-values hex cut good)
    ∙ take-map lowered n cut
    ∙ ap (map lowered) (take-fit n (m * k) 48 cs (up_le hex n))

-- ---- every form

pub back : (s : Shape) (u : Bool) (n : ℕ) (xs : List ℕ) → Served s n xs → loaded s u n (stored s n xs) ≡ read_back s u n xs
unfolding loaded stored read_back
back (Text pad) u n xs h = refl
back (Digits hex high) u n xs h = ap (λ (r : List ℕ). record { kind = string; items = r }) (digits-back hex high n xs (all_digits_lem hex (take n xs) h))
back (Integers w big) u n xs h = ap (λ (r : List ℕ). record { kind = integer_kind u; items = r }) (integers-back w big u n xs h)
back (Reals single big) u n xs h = ap (λ (r : List ℕ). record { kind = real; items = r }) (reals-back single big n xs h)
