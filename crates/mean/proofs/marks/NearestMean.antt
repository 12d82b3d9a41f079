-- The division of two whole numbers gives the nearest double: its quotient in units of the smallest double, cut to 53
-- digits, stands between two patterns that follow each other, and it is rounded to the nearer.
use Prim.Native.Nat.{ℕ, zero, suc, ◌+◌, ◌-◌, ◌*◌, ◌/◌, ◌%◌, ◌^◌, ◌≤◌, ◌<◌, compare, Ordering}
use native.Mathlib.Nat.{div-add-mod', mod-lt, mul_assoc, mul_comm, mul-pos, suc-mul, zero-add, mul-le-mul_right, div-le_self, mul-lt-mul_of_pos_left, pow-suc, le-div_iff_mul-le, div-div-eq-div-mul, mul-div_cancel, min-eq_left, lt_of_lt_of_le, le_refl, le_trans, zero-mul, mul-zero, zero-lt-suc}
use native.Mathlib.Omega.{arith}
use mathlib.Core.Path.{◌≡◌, refl, sym, ap, ◌∙◌, subst}
use mathlib.Core.Bool.{true, false, not, true≢false}
use lib.Dec.{T, is_le, compare_is_eq, eqb, leb→le, nleb→lt, eqb→eq, eqb_refl}
use lib.Arith.{lt_of_le-ne}
use lib.Pow.{pow_pos, pow-add, pow_mono, shl_lt}
use lib.IntN.{ℤ}
use lib.Ieee.{Float, nan, inf, fin, binary64, size, nearest, units as in_units, round, to_bits, up, down}
use lib.Ieee.Digits.{size-lt, size_reaches, size-le}
use lib.Ieee.Scale.{round_same}
use lib.Ieee.Fits.{core, round_is, kept-lt, down_pos, nearest-le}
use lib.Ieee.Nearest.{nearest-ge}
use lib.Ieee.Exact.{HasValue, units_val}
use Rattle.real.specs.Patterns.{units, double_magnitude, double_infinity}
use Rattle.real.specs.Narrowing.{Nearest}
use Rattle.real.proofs.Nearness.{split, Rounds, nearest-unique, nearest-exact, nearest-rounded}
use Rattle.real.proofs.PatternLaws.{units-at, units-rising}
use Rattle.mean.specs.Mean.{quotient}
use Rattle.mean.specs.Claims.{units_of_one, NearestQuotient, NearestUnique}
use Rattle.mean.proofs.marks.Division.{exact, quotient-rounds}

-- ---- how `nearest` rounds

abbrev Compared : Ordering → ℕ → ℕ → Type 0
Compared Prim.Native.Nat.Ordering.lt a b = a < b
Compared Prim.Native.Nat.Ordering.eq a b = a ≡ b
Compared Prim.Native.Nat.Ordering.gt a b = b < a

compared : (a b : ℕ) → Compared (compare a b) a b
compared a b = go (compare a b) (leb→le a b) (nleb→lt a b) (eqb→eq a b) (λ (e : a ≡ b). subst (λ (x : ℕ). T (eqb a x)) e (eqb_refl a))
  where
    go : (o : Ordering) → (T (is_le o) → a ≤ b) → (T (not (is_le o)) → b < a) → (T (compare_is_eq o) → a ≡ b) → (a ≡ b → T (compare_is_eq o)) → Compared o a b
    go Prim.Native.Nat.Ordering.lt h k e n = lt_of_le-ne (h tt) n
    go Prim.Native.Nat.Ordering.eq h k e n = e tt
    go Prim.Native.Nat.Ordering.gt h k e n = k tt

rounds : (h q r c : ℕ) (o : Ordering) → c % 2 ≡ 0 → Compared o (r * 2) (h + h) → Rounds h (c + q) r (c + nearest q o)
rounds h q r c Prim.Native.Nat.Ordering.lt even l = Rounds.down (omega arith) (omega arith) (λ e. omega arith)
rounds h q r c Prim.Native.Nat.Ordering.eq even l = split (q % 2) 0
    (λ z. Rounds.down (omega arith) (omega arith) (λ e. omega arith))
    (λ z. Rounds.up (omega arith) (omega arith) (λ e. omega arith))
rounds h q r c Prim.Native.Nat.Ordering.gt even l = Rounds.up (omega arith) (omega arith) (λ e. omega arith)

-- ---- a quotient between two patterns

-- a number N that is q whole steps and r more, a step being n times 2 ^ k, where q has 53 digits
module _ (n N k q r : ℕ) (pos : 0 < n) (some : 0 < k) (is : N ≡ q * (n * 2 ^ k) + r) (small : r < n * 2 ^ k) (leading : 2 ^ 52 ≤ q) (held : q < 2 ^ 53) where
  abbrev half : ℕ
  half = n * 2 ^ (k - 1)

  abbrev scaled : ℕ → ℕ
  scaled p = n * units 52 p

  twice : n * 2 ^ k ≡ half + half
  twice = halved k some
    where
      halved : (j : ℕ) → 0 < j → n * 2 ^ j ≡ n * 2 ^ (j - 1) + n * 2 ^ (j - 1)
      halved zero h = absurd (omega arith)
      halved (suc j) h = let e : suc j - 1 ≡ j = omega arith in rw (e, pow-suc) (omega arith)

  rising : (a b : ℕ) → a < b → scaled a < scaled b
  rising a b h = mul-lt-mul_of_pos_left (units-rising 52 a b h) pos

  moved : (p : ℕ) → n * (p * 2 ^ k) ≡ p * (n * 2 ^ k)
  moved p = sym (mul_assoc n p (2 ^ k)) ∙ ap (λ (x : ℕ). x * 2 ^ k) (mul_comm n p) ∙ mul_assoc p n (2 ^ k)

  here : scaled (k * 2 ^ 52 + q) ≡ q * (n * 2 ^ k)
  here = ap (λ (x : ℕ). n * x) (units-at 52 k q (record { leading = λ l. leading; held = omega arith })) ∙ moved q

  there : scaled (suc (k * 2 ^ 52 + q)) ≡ suc q * (n * 2 ^ k)
  there =
      let e : suc (k * 2 ^ 52 + q) ≡ k * 2 ^ 52 + suc q = omega arith in
      ap scaled e ∙ ap (λ (x : ℕ). n * x) (units-at 52 k (suc q) (record { leading = λ l. omega arith; held = omega arith })) ∙ moved (suc q)

  nearest-at : (o : Ordering) → Compared o (r * 2) (n * 2 ^ k) → k * 2 ^ 52 + nearest q o ≤ double_infinity - 1 → Nearest scaled double_infinity N (k * 2 ^ 52 + nearest q o)
  nearest-at o c low =
      let step : scaled (suc (k * 2 ^ 52 + q)) ≡ scaled (k * 2 ^ 52 + q) + (half + half) = omega (arith, here, there, twice, suc-mul q (n * 2 ^ k)) in
      let from : N ≡ scaled (k * 2 ^ 52 + q) + r = rw here is in
      let even : k * 2 ^ 52 % 2 ≡ 0 = omega arith in
      rw (min-eq_left low) at
      (nearest-rounded scaled rising (double_infinity - 1) N (k * 2 ^ 52 + q) half r from step (omega (arith, twice)) (k * 2 ^ 52 + nearest q o)
      (rounds half q r (k * 2 ^ 52) o even (subst (Compared o (r * 2)) twice c)))

-- ---- the pattern of a value

reaches : (n j : ℕ) → 2 ^ j ≤ n → j < size n
reaches n j h = split (size n) j (λ l. let m : 2 ^ size n ≤ 2 ^ j = pow_mono l in absurd (omega (arith, size-lt n))) (λ l. l)

digits_of : (q k : ℕ) → 2 ^ 52 ≤ q → q < 2 ^ 53 → size (q * 2 ^ k) ≡ 53 + k
digits_of q k lo hi =
    let most : size (q * 2 ^ k) ≤ 53 + k = size-le (q * 2 ^ k) (53 + k) (shl_lt 53 k hi) in
    let far : 2 ^ (52 + k) ≤ q * 2 ^ k = rw (pow-add 2 52 k) (mul-le-mul_right (2 ^ k) lo) in
    let least : 52 + k < size (q * 2 ^ k) = reaches (q * 2 ^ k) (52 + k) far in
    omega arith

bits_is : (m : ℕ) (e : ℤ) (w : ℕ) → m * up e * 2 ^ 1074 / down e ≡ w → to_bits binary64 (fin false m e) ≡ (size w - 53) * 2 ^ 52 + w / 2 ^ (size w - 53)
unfolding to_bits
bits_is m e w h = rw (h, zero-add)

bits_at : (q k : ℕ) → 2 ^ 52 ≤ q → q < 2 ^ 53 → (x : Float) → HasValue x false (q * 2 ^ k) (2 ^ 1074) → to_bits binary64 x ≡ k * 2 ^ 52 + q
bits_at q k lo hi nan v = absurd v
bits_at q k lo hi (inf s) v = absurd v
bits_at q k lo hi (fin true m e) v = absurd (true≢false v.0)
bits_at q k lo hi (fin false m e) v =
    let w : m * up e * 2 ^ 1074 / down e ≡ q * 2 ^ k = ap (λ (x : ℕ). x / down e) v.1 ∙ mul-div_cancel (q * 2 ^ k) (down_pos e) in
    let cut : size (q * 2 ^ k) - 53 ≡ k = omega (arith, digits_of q k lo hi) in
    bits_is m e (q * 2 ^ k) w ∙ rw (cut, mul-div_cancel q (pow_pos k))

-- also where rounding has carried out of the 53 digits
bits-carried : (y k : ℕ) → 2 ^ 52 ≤ y → y ≤ 2 ^ 53 → (x : Float) → HasValue x false (y * 2 ^ k) (2 ^ 1074) → to_bits binary64 x ≡ k * 2 ^ 52 + y
bits-carried y k lo hi x v =
    split (2 ^ 53) y
    (λ h.
    let e : y ≡ 2 ^ 53 = omega arith in
    let double : y * 2 ^ k ≡ 2 ^ 52 * 2 ^ suc k = rw e (omega (arith, pow-suc 2 k)) in
    let b : to_bits binary64 x ≡ suc k * 2 ^ 52 + 2 ^ 52 = bits_at (2 ^ 52) (suc k) (omega arith) (omega arith) x (subst (λ (z : ℕ). HasValue x false z (2 ^ 1074)) double v) in
    b ∙ omega arith)
    (λ h. bits_at y k lo h x v)

-- ---- the rounded quotient

-- L stands for the 1074 of the smallest double
record Steps (a n L : ℕ) : Type 0 where
  k : ℕ
  is : k ≡ size (a * 2 ^ L / n) - 53
  some : 0 < k
  few : k ≤ suc L
  leading : 2 ^ 52 ≤ a * 2 ^ L / (n * 2 ^ k)
  held : a * 2 ^ L / (n * 2 ^ k) < 2 ^ 53

steps : (a n L : ℕ) → 0 < a → a ≤ exact → 0 < n → n ≤ exact → 106 ≤ L → Steps a n L
steps a n L apos ha pos hn hl =
    let N : ℕ = a * 2 ^ L in
    let w : ℕ = N / n in
    let k : ℕ = size w - 53 in
    let high : N < 2 ^ (54 + L) = shl_lt 54 L (omega arith) in
    let wide : w < 2 ^ (54 + L) = omega (arith, div-le_self N n, high) in
    let long : size w ≤ 54 + L = size-le w (54 + L) wide in
    let base : 2 ^ 106 ≤ 2 ^ L = pow_mono {i = 106} hl in
    let once : 1 * 2 ^ L ≤ a * 2 ^ L = mul-le-mul_right (2 ^ L) apos in
    let reach : 2 ^ 53 * n ≤ N = omega arith in
    let full : 2 ^ 53 ≤ w = (le-div_iff_mul-le pos).1 reach in
    let more : 53 < size w = reaches w 53 full in
    let same : N / n / 2 ^ k ≡ N / (n * 2 ^ k) = div-div-eq-div-mul N n (2 ^ k) in
    let low : 2 ^ (52 + k) ≤ w = size_reaches w (52 + k) (omega arith) in
    let lead : 2 ^ 52 ≤ w / 2 ^ k = (le-div_iff_mul-le (pow_pos k)).1 (rw (← pow-add 2 52 k) low) in
    record {
      k = k;
      is = refl;
      some = omega arith;
      few = omega arith;
      leading = rw (← same) lead;
      held = rw (← same) (kept-lt 53 w);
    }

-- the bounds that a rounded one keeps
rounded-bounds : (q k L : ℕ) (o : Ordering) → q < 2 ^ 53 → k ≤ suc L → L ≤ 1074 → (nearest q o ≤ 2 ^ 53) × (k * 2 ^ 52 + nearest q o ≤ double_infinity - 1) × (nearest q o * 2 ^ k < 2 ^ (1074 + 1024))
rounded-bounds q k L o held few l =
    let most : nearest q o ≤ suc q = nearest-le q o in
    let wide : nearest q o * 2 ^ k < 2 ^ (54 + k) = shl_lt 54 k (omega arith) in
    let far : 2 ^ (54 + k) ≤ 2 ^ (1074 + 1024) = pow_mono {i = 54 + k} {j = 1074 + 1024} (omega arith) in
    (omega arith, omega arith, lt_of_lt_of_le wide far)

quotient-at : (a n : ℕ) → 0 < a → a ≤ exact → 0 < n → n ≤ exact → NearestQuotient a n (to_bits binary64 (round binary64 false a n))
unfolding units_of_one double_magnitude
quotient-at a n apos ha pos hn =
    let s = steps a n 1074 apos ha pos hn (omega arith) in
    let N : ℕ = a * 2 ^ 1074 in
    let k : ℕ = s.k in
    let u : ℕ = n * 2 ^ k in
    let o : Ordering = compare (N % u * 2) u in
    let y : ℕ = nearest (N / u) o in
    let b = rounded-bounds (N / u) k 1074 o s.held s.few (le_refl 1074) in
    let form : round binary64 false a n ≡ in_units binary64 false y k = round_is binary64 false a n ∙ ap (core binary64 false N n) (sym s.is) in
    let bits : to_bits binary64 (round binary64 false a n) ≡ k * 2 ^ 52 + y = ap (to_bits binary64) form
    ∙ bits-carried y k (le_trans s.leading (nearest-ge (N / u) o)) b.0 (in_units binary64 false y k)
    (units_val binary64 false y k b.2) in
    rw bits (nearest-at n N k (N / u) (N % u) pos s.some (sym (div-add-mod' N u)) (mod-lt N (mul-pos pos (pow_pos k))) s.leading s.held o (compared (N % u * 2) u) b.1)

rises : (n : ℕ) → 0 < n → (a b : ℕ) → a < b → n * double_magnitude a < n * double_magnitude b
unfolding double_magnitude
rises n pos a b h = mul-lt-mul_of_pos_left (units-rising 52 a b h) pos

-- no marks at all, or only marks of 0
zero-at : (n : ℕ) → 0 < n → NearestQuotient 0 n (to_bits binary64 (round binary64 false 0 n))
zero-at n pos =
    let same : round binary64 false 0 n ≡ round binary64 false 0 1 = round_same binary64 false 0 n 0 1 pos (zero-lt-suc 0) (rw (zero-mul 1, zero-mul n)) in
    let bits : to_bits binary64 (round binary64 false 0 n) ≡ 0 = ap (to_bits binary64) same ∙ none in
    rw bits (nearest-exact (λ q. n * double_magnitude q) (rises n pos) double_infinity (0 * units_of_one) 0 (omega arith) (zero-mul units_of_one ∙ sym (ap (λ (x : ℕ). n * x) nothing ∙ mul-zero n)))
  where
    none : to_bits binary64 (round binary64 false 0 1) ≡ 0
    none = unfold to_bits round in refl

    nothing : double_magnitude 0 ≡ 0
    nothing = unfold double_magnitude in refl

pub quotient-nearest : (a n : ℕ) → a ≤ exact → 0 < n → n ≤ exact → NearestQuotient a n (to_bits binary64 (quotient a n))
quotient-nearest zero n ha pos hn = rw (quotient-rounds 0 n ha pos hn) (zero-at n pos)
quotient-nearest (suc a) n ha pos hn = rw (quotient-rounds (suc a) n ha pos hn) (quotient-at (suc a) n (omega arith) ha pos hn)

pub nearest-one : NearestUnique
nearest-one sum count p q pos a b = nearest-unique (λ x. count * double_magnitude x) (rises count pos) double_infinity (sum * units_of_one) p q a b
