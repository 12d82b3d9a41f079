-- Laws of binary digits stored in steps: a field may be cut after whole bytes, for no byte has digits of two parts; and
-- each digit of a last byte that is not full adds a bit to it.
use Prim.Native.Nat.{ℕ, zero, suc, ◌+◌, ◌-◌, ◌*◌, ◌^◌, ◌≤◌, ◌<◌}
use native.Mathlib.Omega.{arith}
use native.Mathlib.Numerals.{add-one}
use mathlib.Core.Path.{◌≡◌, refl, sym, ap, ◌∙◌}
use mathlib.Core.Bool.{Bool, true, false}
use mathlib.Core.List.{List, [], ◌∷◌, ◌++◌, map, reverse, reverse-cons, reverse-append, append_assoc}
use lib.ListN.{length, take, drop, get_or, set, replicate, length-append, length-take, length-replicate, length-reverse, get_or-append, get_or-eq_default, get_or-replicate}
use lib.Seq.{drop-drop, take-suc, length-take-le, ext_get_or, get_or-take, get_or-append-add, set-set}
use Rattle.layout.specs.declared.Shape.TheVariants.{Digits}
use Rattle.record.specs.Bytes.{part, store_at, fit, ceil_div, number, ordered}
use Rattle.record.specs.Packing.{digit_value, stored}
use Rattle.record.proofs.Bytes.{length-fit, length-ordered, drop-take, all-below}
use Rattle.record.proofs.Stores.{store-none}
use Rattle.record.proofs.Widening.{number_append, number-below}
use Rattle.record.proofs.Fields.{split}
use Rattle.digits.specs.inside.Numerals.{place_of}
use Rattle.digits.specs.inside.bytes.{byte_of}
use Rattle.byte_runs.proofs.ByteLaws.{part-take}
use Rattle.digits.proofs.DigitLaws.{ordered_at, place-lt}
use Rattle.digits.proofs.StepLaws.{one_set}
use Rattle.digits.proofs.bytes.DigitBytes.{fit-zero, byte-first}
use Rattle.digits.proofs.store.FieldBytes.{map-take, stored_at, length-stored}

-- ---- a field cut after whole bytes

pub map-drop : (f : ℕ → ℕ) (k : ℕ) (l : List ℕ) → map f (drop k l) ≡ drop k (map f l)
map-drop f zero l = refl
map-drop f (suc k) [] = refl
map-drop f (suc k) (x ∷ xs) = map-drop f k xs

module _ (high : Bool) (cs : List ℕ) (n m : ℕ) (h : 8 * m ≤ n) where
  abbrev whole : List ℕ
  whole = stored (Digits false high) n cs

  abbrev front : List ℕ
  front = stored (Digits false high) (8 * m) cs

  abbrev back : List ℕ
  back = stored (Digits false high) (n - 8 * m) (drop (8 * m) cs)

  pub front_long : length front ≡ m
  front_long = length-stored false high (8 * m) cs ∙ (omega arith)

  in-front : (k : ℕ) → k < m → get_or (front ++ back) k 0 ≡ get_or whole k 0
  in-front k l =
      let eight : (j : ℕ) → k * 8 + 8 ≤ j → byte_of false high (drop (k * 8) (map digit_value (take j cs))) ≡ byte_of false high (part (map digit_value cs) (k * 8) 8) =
      λ j i. sym (byte-first false high (drop (k * 8) (map digit_value (take j cs))) 8 (omega arith)) ∙ rw (map-take digit_value j cs, part-take j (k * 8) 8 (map digit_value cs) i) in
      get_or-append front back 0 k (omega (arith, front_long)) ∙ stored_at false high (8 * m) cs k (omega arith) ∙ eight (8 * m) (omega arith)
      ∙ sym (stored_at false high n cs k (omega arith) ∙ eight n (omega arith))

  in-back : (k : ℕ) → m ≤ k → k < ceil_div n 8 → get_or (front ++ back) k 0 ≡ get_or whole k 0
  in-back k l i =
      let past : k ≡ length front + (k - m) = omega (arith, front_long) in
      let place : 8 * m + (k - m) * 8 ≡ k * 8 = omega arith in
      let rest : drop ((k - m) * 8) (map digit_value (take (n - 8 * m) (drop (8 * m) cs))) ≡ drop (k * 8) (map digit_value (take n cs)) =
      rw (← drop-take (8 * m) n cs, map-drop digit_value (8 * m) (take n cs), drop-drop ((k - m) * 8) (8 * m) (map digit_value (take n cs)), place) in
      ap (λ (i : ℕ). get_or (front ++ back) i 0) past ∙ get_or-append-add front back (k - m) 0 ∙ stored_at false high (n - 8 * m) (drop (8 * m) cs) (k - m) (omega arith)
      ∙ ap (byte_of false high) rest ∙ sym (stored_at false high n cs k i)

  pub stored_cut : front ++ back ≡ whole
  stored_cut =
      let lb : length back ≡ ceil_div (n - 8 * m) 8 = length-stored false high (n - 8 * m) (drop (8 * m) cs) in
      let lw : length whole ≡ ceil_div n 8 = length-stored false high n cs in
      let lab : length (front ++ back) ≡ length front + length back = length-append front back in
      let same : length (front ++ back) ≡ length whole = omega (arith, front_long) in
      ext_get_or 0 (front ++ back) whole same (λ k h. split (suc k) m (λ l. in-front k l) (λ l. in-back k (omega arith) (omega arith)))

-- ---- a byte that is not full, digit by digit

-- a digit in the middle of a numeral adds what its place is worth
number-mid : (xs zs : List ℕ) (d : ℕ) → number 2 (xs ++ d ∷ zs) ≡ number 2 (xs ++ 0 ∷ zs) + d * 2 ^ length xs
unfolding number
number-mid xs zs d = rw (number_append 2 xs (d ∷ zs), number_append 2 xs (0 ∷ zs)) (omega arith)

turned : (xs zs : List ℕ) (d : ℕ) → reverse (xs ++ d ∷ zs) ≡ reverse zs ++ d ∷ reverse xs
turned xs zs d = rw (reverse-append xs (d ∷ zs), reverse-cons d zs, append_assoc)

ordered-mid : (high : Bool) (xs zs : List ℕ) (d j : ℕ) → length xs ≡ j → j + length zs ≡ 7 → number 2 (ordered high (xs ++ d ∷ zs)) ≡ number 2 (ordered high (xs ++ 0 ∷ zs)) + d * 2 ^ place_of high 8 j
ordered-mid true xs zs d j e f =
    let place : length (reverse zs) ≡ 8 - 1 - j = length-reverse zs ∙ (omega arith) in
    rw (turned xs zs d, turned xs zs 0, ← place) (number-mid (reverse zs) (reverse xs) d)
ordered-mid false xs zs d j e f = rw (← e) (number-mid xs zs d)

-- the first j of eight digits, and 0 for the others
fit-first : (ds : List ℕ) (j : ℕ) → j ≤ 8 → fit 8 0 (take j ds) ≡ take j (fit 8 0 ds) ++ replicate (8 - j) 0
fit-first ds j h =
    let all : List ℕ = fit 8 0 ds in
    let first : List ℕ = take j all in
    let lf : length first ≡ j = length-take-le j all (omega (arith, length-fit 8 0 ds)) in
    let zeros : List ℕ = replicate (8 - j) 0 in
    let lr : length zeros ≡ 8 - j = length-replicate (8 - j) 0 in
    let long : length (fit 8 0 (take j ds)) ≡ 8 = length-fit 8 0 (take j ds) in
    let same : length (fit 8 0 (take j ds)) ≡ length (first ++ zeros) = rw length-append (omega arith) in
    ext_get_or 0 (fit 8 0 (take j ds)) (first ++ zeros) same
    (λ q k. fit-zero 8 (take j ds) q (omega arith)
    ∙ split (suc q) j
    (λ l. get_or-take j ds q 0 l ∙ sym (get_or-append first zeros 0 q (omega arith) ∙ get_or-take j all q 0 l ∙ fit-zero 8 ds q (omega arith)))
    (λ l. let past : q ≡ length first + (q - j) = omega arith in
    get_or-eq_default (take j ds) 0 {n = q} (simp length-take (omega arith))
    ∙ sym (ap (λ (i : ℕ). get_or (first ++ zeros) i 0) past ∙ get_or-append-add first zeros (q - j) 0 ∙ get_or-replicate (8 - j) (q - j) 0 0 (omega arith))))

-- one digit more
pub byte_more : (high : Bool) (ds : List ℕ) (j : ℕ) → j < 8 → byte_of false high (take (j + 1) ds) ≡ byte_of false high (take j ds) + get_or ds j 0 * 2 ^ place_of high 8 j
unfolding byte_of
byte_more high ds j h =
    let all : List ℕ = fit 8 0 ds in
    let la : length all ≡ 8 = length-fit 8 0 ds in
    let rest : 8 - j ≡ suc (7 - j) = omega arith in
    let less : 8 - suc j ≡ 7 - j = omega arith in
    let zeros : length (replicate {A = ℕ} (7 - j) 0) ≡ 7 - j = length-replicate (7 - j) 0 in
    let now : fit 8 0 (take j ds) ≡ take j all ++ 0 ∷ replicate (7 - j) 0 = fit-first ds j (omega arith) ∙ rw rest in
    let then : fit 8 0 (take (suc j) ds) ≡ take j all ++ get_or ds j 0 ∷ replicate (7 - j) 0 =
    fit-first ds (suc j) h ∙ rw (less, take-suc all j 0 (omega arith), append_assoc, fit-zero 8 ds j h) in
    rw (add-one, now, then) (ordered-mid high (take j all) (replicate (7 - j) 0) (get_or ds j 0) j (length-take-le j all (omega arith)) (omega arith))

-- digits that are 0 or 1 make a byte
pub byte_small : (high : Bool) (ds : List ℕ) → ((i : ℕ) → get_or ds i 0 < 2) → byte_of false high ds < 256
unfolding byte_of
byte_small high ds small =
    let eight : List ℕ = fit 8 0 ds in
    let le : length eight ≡ 8 = length-fit 8 0 ds in
    let long : length (ordered high eight) ≡ 8 = length-ordered high eight ∙ le in
    let each : (i : ℕ) → get_or (ordered high eight) i 0 < 2 =
    λ i. split (suc i) 8
    (λ h. rw (ordered_at high 8 eight i le h, fit-zero 8 ds (place_of high 8 i) (place-lt high 8 i h)) (small (place_of high 8 i)))
    (λ h. rw (get_or-eq_default (ordered high eight) 0 {n = i} (omega arith)) (omega arith)) in
    rw long at (number-below 2 (ordered high eight) (all-below (ordered high eight) each))

-- ---- one byte

pub single : (l : List ℕ) → length l ≡ 1 → l ≡ get_or l 0 0 ∷ []
single [] e = absurd (omega arith)
single (x ∷ []) e = refl
single (x ∷ y ∷ l) e = absurd (omega arith)

-- a byte stored over one that is stored there, or over none
pub set-over : (d : List ℕ) (at b : ℕ) (s : List ℕ) → at < length d → length s ≤ 1 → set (store_at d at s) at b ≡ store_at d at (b ∷ [])
set-over d at b [] h k = rw (store-none d at) (one_set d at b h)
set-over d at b (x ∷ []) h k = rw (← one_set d at x h, set-set) (one_set d at b h)
set-over d at b (x ∷ y ∷ s) h k = absurd (omega arith)
