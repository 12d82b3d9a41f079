-- Numbers as bytes: one number, byte by byte, in both directions and either order; then many, one after the other, the
-- highest byte of each first. All laws are over the width w.
use Prim.Native.Nat.{ℕ, zero, suc, ◌+◌, ◌*◌, ◌/◌, ◌%◌, ◌^◌, ◌≤◌, ◌<◌}
use native.Mathlib.Nat.{add-zero, zero-mul, suc-mul, add_comm, pow-zero, pow-suc, not-suc-le-zero, le_of_suc-le-suc, lt_of_lt_of_le, pow-le-pow_right, mod-eq_of_lt}
use native.Mathlib.Omega.{arith}
use mathlib.Core.Path.{◌≡◌, refl, sym, ap, ap₂, ◌∙◌}
use mathlib.Core.Bool.{Bool, true, false}
use mathlib.Core.List.{List, [], ◌∷◌, ◌++◌, map, reverse, reverse-cons, reverse-append, reverse-reverse, append_assoc}
use lib.ListN.{length, take, drop, get_or, set, length-drop, length-map, length-set, take-append-drop}
use lib.Seq.{take-suc, drop-cons, get_or-drop, drop-nil, drop-drop, drop-append-add, length-take-le, take_at, drop_at}
use Rattle.record.specs.Bytes.{part, store_at, pieces, join, digits, number, ordered, number_bytes, number_at, big_endian, big_endian_in}
use Rattle.record.proofs.Bytes.{All, all_take, all_drop, all-ordered, all-below, length_digits, length-ordered, length-pieces, length-join, join-pieces, number_digits, digits_number, digits_last, digits-below}
use Rattle.record.proofs.Stores.{store-none, store-first, store-last, length_part, runs, runs-first}

-- ---- a number out of its bytes, the first one first

pub number-none : (bs : List ℕ) (at : ℕ) → number_at 0 bs at ≡ 0
unfolding number_at number
number-none bs at = refl

pub number-next : (w : ℕ) (bs : List ℕ) (at : ℕ) → at + w < length bs → number_at (suc w) bs at ≡ get_or bs (at + w) 0 + 256 * number_at w bs at
unfolding number_at number
number-next w bs at h =
    let inside : w < length (drop at bs) = rw length-drop (omega arith) in
    rw (take-suc (drop at bs) w 0 inside, get_or-drop at bs w 0, reverse-append)

-- what a loop keeps that has taken j bytes of a number
pub record Taken (bs : List ℕ) (at j x : ℕ) : Type 0 where
  pub is : x ≡ number_at j bs at
  pub small : x < 256 ^ j

pub taken_none : (bs : List ℕ) (at : ℕ) → Taken bs at 0 0
taken_none bs at = record { is = sym (number-none bs at); small = rw pow-zero (omega arith) }

pub taken_next : {bs : List ℕ} {at j x : ℕ} → Taken bs at j x → at + j < length bs → get_or bs (at + j) 0 < 256 → Taken bs at (j + 1) (x * 256 + get_or bs (at + j) 0)
taken_next {bs} {at} {j} {x} t h small =
    let on : j + 1 ≡ suc j = omega arith in
    rw on (record {
      is = let e : number_at (suc j) bs at ≡ get_or bs (at + j) 0 + 256 * number_at j bs at = number-next j bs at h in omega (arith, t.is);
      small = rw (pow-suc 256 j) (omega (arith, t.small));
    })

-- seven bytes are far from wrapping
pub taken-below : {bs : List ℕ} {at j x : ℕ} → Taken bs at j x → j < 8 → x < 72057594037927936
taken-below {bs} {at} {j} {x} t h =
    let few : j ≤ 7 = omega arith in
    let pos : 0 < 256 = omega arith in
    lt_of_lt_of_le t.small (pow-le-pow_right pos few)

-- ---- a number's bytes

pub length-number_bytes : (w x : ℕ) → length (number_bytes w x) ≡ w
unfolding number_bytes
length-number_bytes w x = length-ordered true (digits 256 w x) ∙ length_digits 256 w x

-- the highest byte stands in front of the others
pub bytes_next : (w x : ℕ) → number_bytes (suc w) x ≡ x / 256 ^ w % 256 ∷ number_bytes w x
unfolding number_bytes
bytes_next w x = ap reverse (digits_last 256 w x) ∙ rw reverse-append

-- ---- bytes put one by one, the lowest first: each behind those before it, or in front of them where the highest is to
-- stand first

-- place i from `at` on, as code spells it
abbrev pub spot : ℕ → ℕ → ℕ
spot at zero = at
spot at (suc i) = at + suc i

spot_is : (at i : ℕ) → spot at i ≡ at + i
spot_is at zero = sym (add-zero at)
spot_is at (suc i) = refl

-- the lowest byte, and then the others
low-put : (d : List ℕ) (at w v : ℕ) → at + suc w ≤ length d → store_at (set d at (v % 256)) (suc at) (digits 256 w (v / 256)) ≡ store_at d at (digits 256 (suc w) v)
unfolding digits
low-put d at w v room = store-first d at (v % 256) (digits 256 w (v / 256)) (rw length_digits room)

pub high-put : (d : List ℕ) (at w v : ℕ) → at + suc w ≤ length d → store_at (set d (at + w) (v % 256)) at (number_bytes w (v / 256)) ≡ store_at d at (number_bytes (suc w) v)
unfolding number_bytes digits
high-put d at w v room = store-last d at (v % 256) (number_bytes w (v / 256)) (length-number_bytes w (v / 256)) (omega arith) ∙ ap (store_at d at) (sym (reverse-cons (v % 256) (digits 256 w (v / 256))))

-- w stores more, one in the other, after i of them
abbrev pub puts : Bool → List ℕ → ℕ → ℕ → ℕ → ℕ → List ℕ
puts high d at i zero v = d
puts true d at i (suc w) v = puts true (set d (spot at w) (v % 256)) at (suc i) w (v / 256)
puts false d at i (suc w) v = puts false (set d (spot at i) (v % 256)) at (suc i) w (v / 256)

-- where the bytes begin that are still to put
abbrev start : Bool → ℕ → ℕ → ℕ
start true at i = at
start false at i = spot at i

putting : (high : Bool) (d : List ℕ) (at i w v : ℕ) → at + i + w ≤ length d → puts high d at i w v ≡ store_at d (start high at i) (ordered high (digits 256 w v))
unfolding digits number_bytes
putting true d at i zero v room = sym (store-none d at)
putting false d at i zero v room = sym (store-none d (spot at i))
putting true d at i (suc w) v room = putting true (set d (spot at w) (v % 256)) at (suc i) w (v / 256) (simp length-set (omega arith)) ∙ rw (spot_is at w) (high-put d at w v (omega arith))
putting false d at i (suc w) v room =
    let on : at + suc i ≡ suc (spot at i) = rw (spot_is at i) (omega arith) in
    putting false (set d (spot at i) (v % 256)) at (suc i) w (v / 256) (simp length-set (omega arith)) ∙ rw on (low-put d (spot at i) w v (rw (spot_is at i) (omega arith)))

-- the w lowest bytes of a number, in either order
pub bytes-put : (high : Bool) (d : List ℕ) (at w v : ℕ) → at + w ≤ length d → puts high d at 0 w v ≡ store_at d at (ordered high (digits 256 w v))
bytes-put true d at w v room = putting true d at 0 w v (rw add-zero room)
bytes-put false d at w v room = putting false d at 0 w v (rw add-zero room)

-- ---- bytes read one by one

-- n elements, from place i on
abbrev pub items : List ℕ → ℕ → ℕ → ℕ → List ℕ
items xs at i zero = []
items xs at i (suc n) = get_or xs (spot at i) 0 ∷ items xs at (suc i) n

taking : (xs : List ℕ) (at i n : ℕ) → at + i + n ≤ length xs → part xs (spot at i) n ≡ items xs at i n
taking xs at i zero inside = refl
taking xs at i (suc n) inside =
    let on : suc (spot at i) ≡ at + suc i = rw (spot_is at i) (omega arith) in
    rw (drop-cons xs (spot at i) 0 (rw (spot_is at i) (omega arith)), on) (ap (λ (ys : List ℕ). get_or xs (spot at i) 0 ∷ ys) (taking xs at (suc i) n (omega arith)))

pub part-items : (xs : List ℕ) (at n : ℕ) → at + n ≤ length xs → part xs at n ≡ items xs at 0 n
part-items xs at n inside = taking xs at 0 n (rw add-zero inside)

-- a number has those digits that make it: the bytes read, or another number's, in either order
digits_are : (ds : List ℕ) (w x : ℕ) → length ds ≡ w → All (λ d. d < 256) ds → x ≡ number 256 ds → digits 256 w x ≡ ds
digits_are ds w x e h is = rw (is, ← e) (digits_number 256 ds h)

pub part_bytes : (xs : List ℕ) (start n : ℕ) → ((i : ℕ) → get_or xs i 0 < 256) → All (λ d. d < 256) (part xs start n)
part_bytes xs start n small = all_take (λ d. d < 256) n (drop start xs) (all_drop (λ d. d < 256) start xs (all-below xs small))

pub bytes_of : (high : Bool) (bs : List ℕ) (at w x : ℕ) → ((i : ℕ) → get_or bs i 0 < 256) → at + w ≤ length bs
    → x ≡ number 256 (ordered high (part bs at w)) → digits 256 w x ≡ ordered high (part bs at w)
bytes_of high bs at w x small inside =
    digits_are (ordered high (part bs at w)) w x (length-ordered high (part bs at w) ∙ length_part w at bs inside) (all-ordered (λ d. d < 256) high (part bs at w) (part_bytes bs at w small))

pub bytes_read : (high : Bool) (bs : List ℕ) (at w x : ℕ) → ((i : ℕ) → get_or bs i 0 < 256) → at + w ≤ length bs
    → x ≡ number 256 (ordered high (items bs at 0 w)) → digits 256 w x ≡ ordered high (part bs at w)
bytes_read high bs at w x small inside is = bytes_of high bs at w x small inside (rw (part-items bs at w inside) is)

pub bytes-turned : (high : Bool) (w v x : ℕ) → x ≡ number 256 (ordered high (digits 256 w v)) → digits 256 w x ≡ ordered high (digits 256 w v)
bytes-turned high w v x =
    digits_are (ordered high (digits 256 w v)) w x (length-ordered high (digits 256 w v) ∙ length_digits 256 w v)
    (all-ordered (λ d. d < 256) high (digits 256 w v) (digits-below 256 w v (omega arith)))

-- ---- many numbers

join_runs : (g : ℕ → List ℕ) (xs : List ℕ) → runs (length xs) (λ i. g (get_or xs i 0)) ≡ join (map g xs)
unfolding join runs
join_runs g [] = refl
join_runs g (x ∷ xs) = runs-first (length xs) (λ i. g (get_or (x ∷ xs) i 0)) ∙ ap (λ (r : List ℕ). g x ++ r) (join_runs g xs)

-- the numbers' bytes, one number after the other
pub big-endian-runs : (w : ℕ) (xs : List ℕ) → runs (length xs) (λ i. number_bytes w (get_or xs i 0)) ≡ big_endian w xs
unfolding big_endian
big-endian-runs w xs = join_runs (number_bytes w) xs

pub length-big_endian : (w : ℕ) (xs : List ℕ) → length (big_endian w xs) ≡ length xs * w
unfolding big_endian
length-big_endian w xs = length-join (number_bytes w) w (length-number_bytes w) xs

pub length-big_endian_in : (w n : ℕ) (bs : List ℕ) → length (big_endian_in w n bs) ≡ n
unfolding big_endian_in
length-big_endian_in w n bs = length-map (pieces w n bs) _ ∙ length-pieces w n bs

-- number i stands where i numbers end
pub number_in : (w n : ℕ) (bs : List ℕ) (i : ℕ) → i < n → get_or (big_endian_in w n bs) i 0 ≡ number_at w bs (i * w)
unfolding big_endian_in pieces number_at
number_in w zero bs i h = absurd (not-suc-le-zero h)
number_in w (suc n) bs zero h = rw zero-mul
number_in w (suc n) bs (suc i) h = number_in w n (drop w bs) i (le_of_suc-le-suc h) ∙ rw (drop-drop (i * w) w bs, suc-mul i w, add_comm (i * w) w)

-- ---- parts of many numbers

pub big-endian-append : (w : ℕ) (xs ys : List ℕ) → big_endian w (xs ++ ys) ≡ big_endian w xs ++ big_endian w ys
unfolding big_endian join
big-endian-append w [] ys = refl
big-endian-append w (x ∷ xs) ys = ap (λ (r : List ℕ). number_bytes w x ++ r) (big-endian-append w xs ys) ∙ sym (append_assoc (number_bytes w x) (big_endian w xs) (big_endian w ys))

after_one : (w n x : ℕ) → suc n * w ≡ length (number_bytes w x) + n * w
after_one w n x = rw (length-number_bytes, suc-mul) (add_comm (n * w) w)

pub big-endian-drop : (w n : ℕ) (xs : List ℕ) → big_endian w (drop n xs) ≡ drop (n * w) (big_endian w xs)
unfolding big_endian join
big-endian-drop w zero xs = rw zero-mul
big-endian-drop w (suc n) [] = sym (drop-nil (suc n * w))
big-endian-drop w (suc n) (x ∷ xs) =
    big-endian-drop w n xs ∙ sym (ap (λ (k : ℕ). drop k (big_endian w (x ∷ xs))) (after_one w n x) ∙ drop-append-add (number_bytes w x) (big_endian w xs) (n * w))

pub big-endian-take : (w n : ℕ) (xs : List ℕ) → n ≤ length xs → big_endian w (take n xs) ≡ take (n * w) (big_endian w xs)
big-endian-take w n xs h =
    let whole : big_endian w xs ≡ big_endian w (take n xs) ++ big_endian w (drop n xs) = ap (big_endian w) (sym (take-append-drop n xs)) ∙ big-endian-append w (take n xs) (drop n xs) in
    let long : length (big_endian w (take n xs)) ≡ n * w = length-big_endian w (take n xs) ∙ rw (length-take-le n xs h) in
    rw whole (sym (take_at (big_endian w (take n xs)) (big_endian w (drop n xs)) (n * w) long))

pub big-endian-part : (w : ℕ) (xs : List ℕ) (from n : ℕ) → from + n ≤ length xs → big_endian w (part xs from n) ≡ part (big_endian w xs) (from * w) (n * w)
big-endian-part w xs from n h = big-endian-take w n (drop from xs) (rw length-drop (omega arith)) ∙ ap (take (n * w)) (big-endian-drop w from xs)

-- ---- bytes come back from their numbers, and numbers from their bytes

number-back : (w : ℕ) (p : List ℕ) → length p ≡ w → All (λ b. b < 256) p → number_bytes w (number 256 (reverse p)) ≡ p
unfolding number_bytes
number-back w p e h = ap reverse (digits_are (reverse p) w _ (length-ordered true p ∙ e) (all-ordered (λ b. b < 256) true p h) refl) ∙ reverse-reverse p

pub big-endian-back : (w n : ℕ) (bs : List ℕ) → length bs ≡ n * w → All (λ b. b < 256) bs → big_endian w (big_endian_in w n bs) ≡ bs
unfolding big_endian big_endian_in join pieces
big-endian-back w zero bs e h = join-pieces w zero bs e
big-endian-back w (suc n) bs e h =
    let long : length bs ≡ n * w + w = e ∙ suc-mul n w in
    let here : length (take w bs) ≡ w = length-take-le w bs (omega arith) in
    let rest : length (drop w bs) ≡ n * w = length-drop w bs ∙ (omega arith) in
    ap₂ (λ (p r : List ℕ). p ++ r) (number-back w (take w bs) here (all_take (λ b. b < 256) w bs h)) (big-endian-back w n (drop w bs) rest (all_drop (λ b. b < 256) w bs h))
    ∙ take-append-drop w bs

bytes_back : (w x : ℕ) → x < 256 ^ w → number 256 (reverse (number_bytes w x)) ≡ x
unfolding number_bytes
bytes_back w x h = ap (number 256) (reverse-reverse (digits 256 w x)) ∙ number_digits 256 w x (omega arith) ∙ mod-eq_of_lt h

pub numbers-back : (w : ℕ) (xs rest : List ℕ) → All (λ x. x < 256 ^ w) xs → big_endian_in w (length xs) (big_endian w xs ++ rest) ≡ xs
unfolding big_endian big_endian_in join pieces
numbers-back w [] rest h = refl
numbers-back w (x ∷ xs) rest h =
    let tail : List ℕ = big_endian w xs ++ rest in
    let split : big_endian w (x ∷ xs) ++ rest ≡ number_bytes w x ++ tail = append_assoc (number_bytes w x) (big_endian w xs) rest in
    ap (big_endian_in w (suc (length xs))) split
    ∙ ap₂ (λ (a : ℕ) (r : List ℕ). a ∷ r)
    (ap (λ (p : List ℕ). number 256 (reverse p)) (take_at (number_bytes w x) tail w (length-number_bytes w x)) ∙ bytes_back w x h.0)
    (ap (big_endian_in w (length xs)) (drop_at (number_bytes w x) tail w (length-number_bytes w x)) ∙ numbers-back w xs rest h.1)
