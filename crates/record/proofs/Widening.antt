-- What code that copies bytes goes by: no number is ever formed.
use Rattle.std.specs.Prelude.{if◌then◌else◌}
use Prim.Native.Nat.{ℕ, zero, suc, ◌+◌, ◌-◌, ◌*◌, ◌^◌, ◌≤◌, ◌<◌}
use native.Mathlib.Nat.{zero-add, add-mul-mod_self_left, add-mul-div_left, div-eq_of_lt, mod-eq_of_lt, pow-suc, pow-zero, not-suc-le-zero, le_of_suc-le-suc, mul-le-mul_left, pow-succ'}
use native.Mathlib.Omega.{arith}
use mathlib.Core.Path.{◌≡◌, refl, sym, ap, ◌∙◌}
use mathlib.Core.Bool.{Bool, true, false, ◌||◌}
use mathlib.Core.List.{List, [], ◌∷◌, ◌++◌}
use lib.ListN.{length, take, replicate, length-append, length-replicate}
use lib.Pow.{pow-add}
use lib.Dec.{ltb}
use borrow.Author.Tests.{lt-ltb, le-ltb}
use Rattle.record.specs.Bytes.{digits, number}
use Rattle.record.specs.Reading.{widened}
use Rattle.record.proofs.Fields.{split}
use Rattle.record.proofs.Bytes.{All, digits_number, all_append, all_replicate}

-- packing: the w lowest digits of a number are the next_slot w of its digits
pub low-digits : (b w : ℕ) (ds : List ℕ) → w ≤ length ds → All (λ d. d < b) ds → digits b w (number b ds) ≡ take w ds
unfolding digits number
low-digits b zero ds h k = refl
low-digits b (suc w) [] h k = absurd (not-suc-le-zero h)
low-digits b (suc w) (d ∷ ds) h k =
    let small : d < b = k.0 in
    let pos : 0 < b = omega arith in
    rw (add-mul-mod_self_left d b (number b ds), mod-eq_of_lt small, add-mul-div_left d (number b ds) pos, div-eq_of_lt small, zero-add, low-digits b w ds (le_of_suc-le-suc h) k.1)

pub number_append : (b : ℕ) (ds es : List ℕ) → number b (ds ++ es) ≡ number b ds + b ^ length ds * number b es
unfolding number
number_append b [] es = rw pow-zero (omega arith)
number_append b (d ∷ ds) es = rw (number_append b ds es, pow-suc) (omega arith)

number-zeros : (b k : ℕ) → number b (replicate k 0) ≡ 0
unfolding number
number-zeros b zero = refl
number-zeros b (suc k) = rw (number-zeros b k) (omega arith)

number-tops : (k : ℕ) → number 256 (replicate k 255) + 1 ≡ 256 ^ k
unfolding number
number-tops zero = refl
number-tops (suc k) = rw pow-suc (omega (arith, number-tops k))

pub number-below : (b : ℕ) (ds : List ℕ) → All (λ d. d < b) ds → number b ds < b ^ length ds
unfolding number
number-below b [] h = rw pow-zero (omega arith)
number-below b (d ∷ ds) h =
    let small : d < b = h.0 in
    rw pow-succ' (omega (arith, mul-le-mul_left b (number-below b ds h.1)))

-- reading: the byte that fills an item up to eight bytes
unfoldable pub filler : ℕ → Bool → List ℕ → ℕ
filler w unsigned ds = if unsigned || ltb (2 * number 256 ds) (256 ^ w) then 0 else 255

-- an item's eight bytes are the field's and then the filler
pub widened-digits : (w : ℕ) (u : Bool) (ds : List ℕ) → length ds ≡ w → w ≤ 8 → All (λ d. d < 256) ds
    → digits 256 8 (widened w u (number 256 ds)) ≡ ds ++ replicate (8 - w) (filler w u ds)
unfolding widened filler
widened-digits w u ds len small all = go (u || ltb (2 * number 256 ds) (256 ^ w))
  where
    eight : (x : ℕ) → length (ds ++ replicate (8 - w) x) ≡ 8
    eight x = rw (length-append, length-replicate, len) (omega arith)

    whole : (x : ℕ) → x < 256 → digits 256 8 (number 256 (ds ++ replicate (8 - w) x)) ≡ ds ++ replicate (8 - w) x
    whole x h =
        ap (λ (k : ℕ). digits 256 k (number 256 (ds ++ replicate (8 - w) x))) (sym (eight x))
        ∙ digits_number 256 (ds ++ replicate (8 - w) x) (all_append (λ d. d < 256) ds (replicate (8 - w) x) all (all_replicate (λ d. d < 256) (8 - w) x h))

    power : 256 ^ w * 256 ^ (8 - w) ≡ 2 ^ 64
    power = sym (pow-add 256 w (8 - w)) ∙ ap (λ (k : ℕ). 256 ^ k) (let e : w + (8 - w) ≡ 8 = omega arith in e)

    zeros : number 256 ds ≡ number 256 (ds ++ replicate (8 - w) 0)
    zeros = rw (number_append 256 ds (replicate (8 - w) 0), number-zeros 256 (8 - w)) (omega arith)

    tops : number 256 ds + (2 ^ 64 - 256 ^ w) ≡ number 256 (ds ++ replicate (8 - w) 255)
    tops = rw (number_append 256 ds (replicate (8 - w) 255), len) (omega (arith, power, ap (λ (k : ℕ). 256 ^ w * k) (number-tops (8 - w))))

    go : (t : Bool) → digits 256 8 (if t then number 256 ds else (number 256 ds + (2 ^ 64 - 256 ^ w))) ≡ ds ++ replicate (8 - w) (if t then 0 else 255)
    go true = ap (digits 256 8) zeros ∙ whole 0 (omega arith)
    go false = ap (digits 256 8) tops ∙ whole 255 (omega arith)

-- the sign is that of the highest byte
pub sign-test : (low : List ℕ) (top : ℕ) → All (λ d. d < 256) low → top < 256 → ltb (2 * number 256 (low ++ (top ∷ []))) (256 ^ suc (length low)) ≡ ltb top 128
unfolding number
sign-test low top all h =
    let n : ℕ = 2 * number 256 (low ++ (top ∷ [])) in
    let parts : number 256 (low ++ (top ∷ [])) ≡ number 256 low + 256 ^ length low * (top + 256 * 0) = number_append 256 low (top ∷ []) in
    let under : number 256 low < 256 ^ length low = number-below 256 low all in
    let power : 256 ^ suc (length low) ≡ 256 ^ length low * 256 = pow-suc 256 (length low) in
    split 128 top
    (λ (k : 128 ≤ top). le-ltb n (256 ^ suc (length low)) (omega (arith, mul-le-mul_left (256 ^ length low) k)) ∙ sym (le-ltb top 128 k))
    (λ (k : top < 128).
    let k' : top ≤ 127 = omega arith in
    lt-ltb n (256 ^ suc (length low)) (omega (arith, mul-le-mul_left (256 ^ length low) k')) ∙ sym (lt-ltb top 128 k))
