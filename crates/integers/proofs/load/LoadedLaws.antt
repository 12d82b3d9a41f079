-- Laws of integers that are read: the bytes of one, and those of many, one after the other.
use Prim.Native.Nat.{ℕ, zero, suc, ◌+◌, ◌-◌, ◌*◌, ◌/◌, ◌%◌, ◌^◌, ◌≤◌, ◌<◌}
use native.Mathlib.Nat.{not-suc-le-zero, pow-suc, add-mul-mod_self_left, add-mul-div_left}
use native.Mathlib.Omega.{arith}
use mathlib.Core.Path.{◌≡◌, refl, sym, ap, ap₂, ◌∙◌}
use mathlib.Core.Bool.{Bool, true, false, not}
use lib.Dec.{ltb}
use Rattle.std.specs.Prelude.{if◌then◌else◌}
use mathlib.Core.List.{List, [], ◌∷◌, ◌++◌, reverse, reverse-cons, reverse-append, reverse-reverse}
use lib.Pow.{pow-add}
use Rattle.std.proofs.lemmas.Nat.{one_shl, pow_pos, pow_below, xor_block}
use lib.Bits.{bit_xor, xor_zero_r}
use borrow.Author.Tests.{lt-ltb, le-ltb}
use Rattle.record.proofs.Fields.{split}
use lib.ListN.{length, drop, get_or, replicate, length-reverse}
use Rattle.layout.specs.declared.Shape.TheVariants.{Integers}
use Rattle.record.specs.Bytes.{part, digits, number, ordered, number_bytes, big_endian}
use Rattle.record.specs.Table.{integer_bytes}
use Rattle.record.specs.Reading.{loaded, widened}
use Rattle.record.proofs.Bytes.{All, all-ordered, length_digits, length-ordered}
use Rattle.record.proofs.NumberLaws.{part_bytes}
use Rattle.record.proofs.Stores.{runs, length_part}
use Rattle.record.proofs.Widening.{filler, widened-digits, sign-test}
use Rattle.integers.specs.inside.Eights.{eights}
use Rattle.integers.specs.inside.load.{Narrow, item_bytes, filler_of}
use Rattle.integers.proofs.IntegerLaws.{runs_same, joined, pieces-take, eight_at, eights-runs}

-- ---- order and parts

ordered-turned : (big : Bool) (xs : List ℕ) → reverse (ordered big xs) ≡ ordered (not big) xs
ordered-turned true xs = reverse-reverse xs
ordered-turned false xs = refl

replicate-snoc : (k x : ℕ) → replicate k x ++ (x ∷ []) ≡ x ∷ replicate k x
replicate-snoc zero x = refl
replicate-snoc (suc k) x = ap (λ (r : List ℕ). x ∷ r) (replicate-snoc k x)

reverse-replicate : (k x : ℕ) → reverse (replicate k x) ≡ replicate k x
reverse-replicate zero x = refl
reverse-replicate (suc k) x = reverse-cons x (replicate k x) ∙ rw (reverse-replicate k x) (replicate-snoc k x)

-- ---- one integer

-- the filler goes by the highest byte
filler-of-top : (w : ℕ) (unsigned : Bool) (hs : List ℕ) → length hs ≡ w → 0 < w → All (λ d. d < 256) hs → filler w unsigned (reverse hs) ≡ filler_of unsigned (get_or hs 0 0)
unfolding filler filler_of
filler-of-top w unsigned [] e h all = absurd (not-suc-le-zero (rw (← e) at h))
filler-of-top w unsigned (top ∷ low) e h all =
    let size : w ≡ suc (length (reverse low)) = rw length-reverse (sym e) in
    rw (reverse-cons, size, sign-test (reverse low) top (all-ordered (λ d. d < 256) true low all.1) all.0)

-- the filler, and then the field's bytes, the highest first
loaded-item : (w : ℕ) (big unsigned : Bool) (bs : List ℕ) → length bs ≡ w → 0 < w → w ≤ 8 → All (λ d. d < 256) bs
    → replicate (8 - w) (filler_of unsigned (get_or (ordered (not big) bs) 0 0)) ++ ordered (not big) bs ≡ item_bytes w big unsigned bs
unfolding item_bytes
loaded-item w big unsigned bs len some narrow all =
    let ds : List ℕ = ordered big bs in
    let hs : List ℕ = ordered (not big) bs in
    let back : ds ≡ reverse hs = sym (reverse-reverse ds) ∙ ap reverse (ordered-turned big bs) in
    let fill : filler w unsigned ds ≡ filler_of unsigned (get_or hs 0 0) =
    ap (filler w unsigned) back ∙ filler-of-top w unsigned hs (length-ordered (not big) bs ∙ len) some (all-ordered (λ d. d < 256) (not big) bs all) in
    let wide : digits 256 8 (widened w unsigned (number 256 ds)) ≡ ds ++ replicate (8 - w) (filler_of unsigned (get_or hs 0 0)) =
    rw (← fill) (widened-digits w unsigned ds (length-ordered big bs ∙ len) narrow (all-ordered (λ d. d < 256) big bs all)) in
    sym (ap reverse wide ∙ reverse-append ds (replicate (8 - w) (filler_of unsigned (get_or hs 0 0))) ∙ rw (reverse-replicate, ordered-turned big bs))

-- eight bytes are read as they are, in their order or turned round: no filler is left to put before them
whole-item : (big unsigned : Bool) (bs : List ℕ) → length bs ≡ 8 → All (λ d. d < 256) bs → ordered (not big) bs ≡ item_bytes 8 big unsigned bs
whole-item big unsigned bs long all = loaded-item 8 big unsigned bs long (omega arith) (omega arith) all

-- a number above another: the digits of both, one run after the other
digits_above : (k w a x : ℕ) → a < 256 ^ k → digits 256 (k + w) (a + 256 ^ k * x) ≡ digits 256 k a ++ digits 256 w x
unfolding digits
digits_above zero w a x h =
    let none : a < 1 = h in
    let is : a + 256 ^ 0 * x ≡ x = omega arith in
    let count : 0 + w ≡ w = omega arith in
    rw (is, count)
digits_above (suc k) w a x h =
    let under : a < 256 ^ k * 256 = rw (pow-suc 256 k) at h in
    let rest : a / 256 < 256 ^ k = omega arith in
    let count : suc k + w ≡ suc (k + w) = omega arith in
    let is : a + 256 ^ suc k * x ≡ a + 256 * (256 ^ k * x) = rw (pow-suc 256 k) (omega arith) in
    let some : 0 < 256 = omega arith in
    rw (count, is, add-mul-mod_self_left a 256 (256 ^ k * x), add-mul-div_left a (256 ^ k * x) some, digits_above k w (a / 256) x rest)

first-digit : (w x : ℕ) → 0 < w → get_or (digits 256 w x) 0 0 ≡ x % 256
unfolding digits
first-digit zero x h = absurd (not-suc-le-zero h)
first-digit (suc w) x h = refl

-- as a number, the field's bytes stand above the filler
pub item-digits : (w : ℕ) (big unsigned : Bool) (bs : List ℕ) (fill x : ℕ) → length bs ≡ w → 0 < w → w ≤ 8 → All (λ d. d < 256) bs → digits 256 w x ≡ ordered (not big) bs
    → fill < 256 ^ (8 - w) → digits 256 (8 - w) fill ≡ replicate (8 - w) (filler_of unsigned (x % 256)) → digits 256 8 (fill + 256 ^ (8 - w) * x) ≡ item_bytes w big unsigned bs
item-digits w big unsigned bs fill x long some narrow all field small filled =
    let eight : 8 ≡ 8 - w + w = omega arith in
    let top : x % 256 ≡ get_or (ordered (not big) bs) 0 0 = sym (first-digit w x some) ∙ ap (λ (l : List ℕ). get_or l 0 0) field in
    ap (λ (k : ℕ). digits 256 k (fill + 256 ^ (8 - w) * x)) eight ∙ digits_above (8 - w) w fill x small ∙ rw (filled, field, top) (loaded-item w big unsigned bs long some narrow all)

-- the four bytes before a field's, as a number: 0 less the sign, which is 0 or 1
four-fillers : (none : Bool) (sign : ℕ) → sign ≡ (if none then 0 else 1)
    → ((0 + (2 ^ 32 - sign)) % 2 ^ 32 < 256 ^ 4) × (digits 256 4 ((0 + (2 ^ 32 - sign)) % 2 ^ 32) ≡ replicate 4 (if none then 0 else 255))
unfolding digits
four-fillers true sign is = rw is (omega arith, refl)
four-fillers false sign is = rw is (omega arith, refl)

pub four-filled : (unsigned : Bool) (top sign : ℕ) → top < 256 → sign ≡ (if unsigned then 0 else (top / 128))
    → ((0 + (2 ^ 32 - sign)) % 2 ^ 32 < 256 ^ 4) × (digits 256 4 ((0 + (2 ^ 32 - sign)) % 2 ^ 32) ≡ replicate 4 (filler_of unsigned top))
unfolding filler_of
four-filled true top sign small is = four-fillers true sign is
four-filled false top sign small is =
    four-fillers (ltb top 128) sign
    (split 128 top (λ (h : 128 ≤ top). rw (le-ltb top 128 h) (omega arith)) (λ (h : top < 128). rw (lt-ltb top 128 h) (omega arith)))

pub length-item_bytes : (w : ℕ) (big unsigned : Bool) (bs : List ℕ) → length (item_bytes w big unsigned bs) ≡ 8
unfolding item_bytes
length-item_bytes w big unsigned bs = simp (length-reverse, length_digits)

-- what has neither two bytes nor four has one
pub one_byte : (w : ℕ) → Narrow w → (w ≡ 2 → ⊥) → (w ≡ 4 → ⊥) → w ≡ 1
one_byte zero h two four = absurd (omega arith)
one_byte (suc zero) h two four = refl
one_byte (suc (suc zero)) h two four = absurd (two refl)
one_byte (suc (suc (suc zero))) h two four = absurd (omega arith)
one_byte (suc (suc (suc (suc zero)))) h two four = absurd (four refl)
one_byte (suc (suc (suc (suc (suc zero))))) h two four = absurd (omega arith)
one_byte (suc (suc (suc (suc (suc (suc zero)))))) h two four = absurd (omega arith)
one_byte (suc (suc (suc (suc (suc (suc (suc w))))))) h two four =
    let none : w ≡ 0 = omega arith in
    let rest : 8 % suc (suc (suc (suc (suc (suc (suc 0)))))) ≡ 0 = rw none at h.2 in
    absurd (omega arith)

-- ---- n integers

-- integer i of those that stand in a record, in the area
abbrev pub loaded_at : List ℕ → ℕ → ℕ → Bool → Bool → ℕ → List ℕ
loaded_at input at w big unsigned i = item_bytes w big unsigned (part input (at + i * w) w)

pub loaded-runs : (input : List ℕ) (at w : ℕ) (big unsigned : Bool) (n : ℕ)
    → runs n (loaded_at input at w big unsigned) ≡ integer_bytes (loaded (Integers w big) unsigned n (part input at (n * w))).items
unfolding big_endian number_bytes loaded item_bytes
loaded-runs input at w big unsigned n =
    rw (pieces-take w n (drop at input)) (sym (joined (λ x. reverse (digits 256 8 x)) (λ p. widened w unsigned (number 256 (ordered big p))) w input n at))

-- runs of eight bytes, as integers that are read
pub eights-loaded : (input : List ℕ) (at : ℕ) (big unsigned : Bool) (n : ℕ) → ((i : ℕ) → get_or input i 0 < 256) → at + n * 8 ≤ length input
    → eights (not big) n (drop at input) ≡ integer_bytes (loaded (Integers 8 big) unsigned n (part input at (n * 8))).items
eights-loaded input at big unsigned n small inside =
    let one : (i : ℕ) → i < n → eight_at (not big) input at i ≡ loaded_at input at 8 big unsigned i =
    λ i h. whole-item big unsigned (part input (at + i * 8) 8) (length_part 8 (at + i * 8) input (omega arith)) (part_bytes input (at + i * 8) 8 small) in
    eights-runs (not big) input at n ∙ runs_same n _ _ one ∙ loaded-runs input at 8 big unsigned n

-- ---- an item that was read as a number

pub number-item : (w : ℕ) (big unsigned : Bool) (bs : List ℕ) (x y : ℕ) → x ≡ number 256 (ordered big bs) → y ≡ widened w unsigned x → number_bytes 8 y ≡ item_bytes w big unsigned bs
unfolding item_bytes number_bytes
number-item w big unsigned bs x y is wide = rw (wide, is)

-- ---- a sign that goes on

half-toggled : (k x : ℕ) → x < 2 ^ k → bit_xor x (2 ^ k) ≡ 2 ^ k + x
half-toggled k x h =
    let this : x ≡ 0 * 2 ^ k + x = omega arith in
    let top : 2 ^ k ≡ 1 * 2 ^ k + 0 = omega arith in
    ap₂ bit_xor this top ∙ xor_block k 0 1 x 0 h (pow_pos k) ∙ rw xor_zero_r (omega arith)

half-cleared : (k x : ℕ) → 2 ^ k ≤ x → x < 2 ^ k * 2 → bit_xor x (2 ^ k) ≡ x - 2 ^ k
half-cleared k x h l =
    let this : x ≡ 1 * 2 ^ k + (x - 2 ^ k) = omega arith in
    let top : 2 ^ k ≡ 1 * 2 ^ k + 0 = omega arith in
    ap₂ bit_xor this top ∙ xor_block k 1 1 (x - 2 ^ k) 0 (omega arith) (pow_pos k) ∙ rw xor_zero_r (omega arith)

bits : (w : ℕ) → 2 ^ (8 * w) ≡ 256 ^ w
bits zero = refl
bits (suc w) = let on : 8 * suc w ≡ 8 * w + 8 = omega arith in rw (on, pow-add 2 (8 * w) 8, bits w, pow-suc 256 w)

pub sign-goes-on : (w x : ℕ) → 0 < w → w < 8 → x < 256 ^ w
    → (bit_xor x (1 * 2 ^ (8 * w - 1) % 2 ^ 64) + (2 ^ 64 - 1 * 2 ^ (8 * w - 1) % 2 ^ 64)) % 2 ^ 64 ≡ widened w false x
unfolding widened
sign-goes-on w x some narrow h =
    let k : ℕ = 8 * w - 1 in
    let on : 8 * w ≡ suc k = omega arith in
    let whole : 256 ^ w ≡ 2 ^ k * 2 = sym (bits w) ∙ ap (λ (n : ℕ). 2 ^ n) on ∙ pow-suc 2 k in
    let small : 256 ^ w < 2 ^ 64 = rw (← bits w) (pow_below (8 * w) 64 (omega arith)) in
    let half : 1 * 2 ^ k % 2 ^ 64 ≡ 2 ^ k = one_shl k 64 (omega arith) in
    split (2 ^ k) x
    (λ (l : 2 ^ k ≤ x). rw (half, half-cleared k x l (omega (arith, whole)), le-ltb (2 * x) (256 ^ w) (omega (arith, whole))) (omega (arith, whole, small)))
    (λ (l : x < 2 ^ k). rw (half, half-toggled k x l, lt-ltb (2 * x) (256 ^ w) (omega (arith, whole))) (omega (arith, whole, small)))
