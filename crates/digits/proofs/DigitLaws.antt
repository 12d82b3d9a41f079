-- Laws of binary and hex digits.
use Prim.Native.Nat.{ℕ, zero, suc, ◌+◌, ◌-◌, ◌*◌, ◌%◌, ◌/◌, ◌≤◌, ◌<◌, min}
use native.Mathlib.Nat.{not-suc-le-zero, le_of_suc-le-suc}
use native.Mathlib.Omega.{arith}
use mathlib.Core.Path.{◌≡◌, refl, sym, ◌∙◌, ap}
use mathlib.Core.Bool.{Bool, true, false, ◌&&◌, ◌||◌, and-true, and_assoc}
use mathlib.Core.List.{List, [], ◌∷◌, map, map-append, reverse, reverse-cons}
use lib.ListN.{length, take, drop, get_or, length-drop, length-take}
use lib.Seq.{get_or-drop, get_or-take, take-take, take_all}
use Rattle.record.specs.Bytes.{part, ordered}
use Rattle.record.proofs.Stores.{get_d_reverse}
use Rattle.std.specs.Char.{is_ascii_hexdigit}
use Rattle.digits.specs.inside.Numerals.{place_of, AreDigits}
use lib.Dec.{leb, ltb, eqb}
use borrow.Author.Tests.{eq-eqb, ne_eqb, lt-ltb, le-ltb, le-leb, lt-leb, leb-false, ltb-true}
use Rattle.record.specs.Geometry.{base}
use Rattle.record.specs.Packing.{digit_value, all_digits}
use Rattle.record.proofs.Fields.{split}

-- ---- the value of a digit's character

-- c stands between a and b, or not
within : {X : Type 0} (a c b : ℕ) → (a ≤ c → c ≤ b → (leb a c && leb c b) ≡ true → X) → ((leb a c && leb c b) ≡ false → X) → X
within a c b f g =
    split a c
    (λ h. split c b (λ k. f h k (rw (le-leb a c h, le-leb c b k))) (λ k. g (rw (le-leb a c h, lt-leb c b k))))
    (λ k. g (rw (lt-leb a c k)))

-- what holds of the values in each of the three ranges, and of 16 outside them, holds of a character's value
module _ (P : ℕ → Type 0) (c : ℕ) where
  pub digit-cases : (48 ≤ c → c ≤ 57 → P (c - 48)) → (65 ≤ c → c ≤ 70 → P (c - 55)) → (97 ≤ c → c ≤ 102 → P (c - 87)) → P 16 → P (digit_value c)
  unfolding digit_value
  digit-cases p q r s =
      within 48 c 57 (λ h k e. rw e (p h k)) (λ e. within 65 c 70 (λ h k e2. rw (e, e2) (q h k)) (λ e2. within 97 c 102 (λ h k e3. rw (e, e2, e3) (r h k)) (λ e3. rw (e, e2, e3) s)))

decimal-value : (c : ℕ) → 48 ≤ c → c ≤ 57 → digit_value c ≡ c - 48
unfolding digit_value
decimal-value c h k = rw (le-leb 48 c h, le-leb c 57 k)

pub hex-digit : (c : ℕ) → ltb (digit_value c) 16 ≡ is_ascii_hexdigit c
unfolding digit_value
hex-digit c =
    within 48 c 57 (λ h k e. rw (e, lt-ltb (c - 48) 16 (omega arith)))
    (λ e. within 65 c 70 (λ h k e2. rw (e, e2, lt-ltb (c - 55) 16 (omega arith)))
    (λ e2. within 97 c 102 (λ h k e3. rw (e, e2, e3, lt-ltb (c - 87) 16 (omega arith))) (λ e3. rw (e, e2, e3))))

pub binary-digit : (c : ℕ) → (eqb c 48 || eqb c 49) ≡ ltb (digit_value c) 2
binary-digit c =
    within 48 c 49
    (λ h k e. rw (decimal-value c h (omega arith), lt-ltb (c - 48) 2 (omega arith))
    (split 49 c (λ l. rw (ne_eqb c 48 (λ q. omega arith), eq-eqb c 49 (omega arith))) (λ l. rw (eq-eqb c 48 (omega arith)))))
    (λ e. let out : 48 ≤ c → c ≤ 49 → ⊥ = λ h k. let past : leb c 49 ≡ false = rw (le-leb 48 c h) at e in omega (arith, leb-false c 49 past) in
    rw (
      ne_eqb c 48 (λ q. out (omega arith) (omega arith)),
      ne_eqb c 49 (λ q. out (omega arith) (omega arith)),
      le-ltb (digit_value c) 2
          (digit-cases (λ v. 2 ≤ v) c (λ h k. split c 49 (λ l. absurd (out h l)) (λ l. omega arith)) (λ h k. omega arith) (λ h k. omega arith) (omega arith)),
    ))

-- the low bits of a digit's character, and 9 more for a letter
pub hex-value : (c : ℕ) → digit_value c < 16 → c % 16 + 9 * (c / 64) ≡ digit_value c
hex-value c = digit-cases (λ v. v < 16 → c % 16 + 9 * (c / 64) ≡ v) c (λ h k l. omega arith) (λ h k l. omega arith) (λ h k l. omega arith) (λ l. omega arith)

pub binary-value : (c : ℕ) → digit_value c < 2 → c % 2 ≡ digit_value c
binary-value c = digit-cases (λ v. v < 2 → c % 2 ≡ v) c (λ h k l. omega arith) (λ h k l. omega arith) (λ h k l. omega arith) (λ l. omega arith)

-- ---- a run of digits

-- one character more
pub all_more : (hex : Bool) (cs : List ℕ) (i : ℕ) → i < length cs → all_digits hex (take (suc i) cs) ≡ (all_digits hex (take i cs) && ltb (digit_value (get_or cs i 0)) (base hex))
unfolding all_digits
all_more hex [] i h = absurd (not-suc-le-zero h)
all_more hex (c ∷ cs) zero h = and-true (ltb (digit_value c) (base hex))
all_more hex (c ∷ cs) (suc i) h = rw (all_more hex cs i (le_of_suc-le-suc h), and_assoc)

and_both : (a b : Bool) → (a && b) ≡ true → (a ≡ true) × (b ≡ true)
and_both true b h = (refl, h)
and_both false b h = absurd (let z : ◌≡◌ {A = ℕ} 0 1 = cc in omega arith)

pub all-at : (hex : Bool) (cs : List ℕ) → all_digits hex cs ≡ true → AreDigits hex cs
unfolding all_digits
all-at hex [] e i h = absurd (not-suc-le-zero h)
all-at hex (c ∷ cs) e zero h = ltb-true (digit_value c) (base hex) (and_both (ltb (digit_value c) (base hex)) (all_digits hex cs) e).0
all-at hex (c ∷ cs) e (suc i) h = all-at hex cs (and_both (ltb (digit_value c) (base hex)) (all_digits hex cs) e).1 i (le_of_suc-le-suc h)

pub take_min : (n m : ℕ) (l : List ℕ) → take n (take m l) ≡ take (min n m) l
take_min n m l =
    split n m (λ h. let e : min n m ≡ n = omega arith in rw e (take-take n m l h))
    (λ h. let e : min n m ≡ m = omega arith in rw e (take_all n (take m l) (simp length-take (omega arith))))

-- those of n digits that are there
pub take-there : (n : ℕ) (cs : List ℕ) → take (min n (length cs)) cs ≡ take n cs
take-there n cs = sym (take_min n (length cs) cs) ∙ ap (take n) (take_all (length cs) cs (omega arith))

-- what the check of n digits says of them
pub checked : (hex : Bool) (n : ℕ) (cs : List ℕ) → all_digits hex (take n cs) ≡ true → AreDigits hex (take (min n (length cs)) cs)
checked hex n cs e = rw (take-there n cs) (all-at hex (take n cs) e)

-- a part of digits
pub part-digits : (hex : Bool) (cs : List ℕ) (j count : ℕ) → AreDigits hex cs → AreDigits hex (part cs j count)
part-digits hex cs j count d i h =
    let inside : i < min count (length cs - j) = rw (length-take, length-drop) at h in
    rw (get_or-take count (drop j cs) i 0 (omega arith), get_or-drop j cs i 0) (d (j + i) (omega arith))

-- ---- the digits of a byte

pub place-lt : (high : Bool) (n j : ℕ) → j < n → place_of high n j < n
place-lt true n j h = omega arith
place-lt false n j h = h

pub ordered_at : (high : Bool) (n : ℕ) (l : List ℕ) (j : ℕ) → length l ≡ n → j < n → get_or (ordered high l) j 0 ≡ get_or l (place_of high n j) 0
ordered_at true n l j e h = rw (← e) (get_d_reverse l j (omega arith))
ordered_at false n l j e h = refl

pub map_at : (f : ℕ → ℕ) (l : List ℕ) (j : ℕ) → j < length l → get_or (map f l) j 0 ≡ f (get_or l j 0)
map_at f [] j h = absurd (not-suc-le-zero h)
map_at f (x ∷ xs) zero h = refl
map_at f (x ∷ xs) (suc j) h = map_at f xs j (le_of_suc-le-suc h)

pub map_turned : (f : ℕ → ℕ) (xs : List ℕ) → map f (reverse xs) ≡ reverse (map f xs)
map_turned f [] = refl
map_turned f (x ∷ xs) = rw (reverse-cons x xs, map-append, map_turned f xs) (sym (reverse-cons (f x) (map f xs)))
