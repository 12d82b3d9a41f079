-- Laws of `fit`, `pieces`, `join`, `digits` and `number`.
use Prim.Native.Nat.{ℕ, zero, suc, ◌+◌, ◌-◌, ◌*◌, ◌/◌, ◌%◌, ◌^◌, ◌<◌}
use native.Mathlib.Nat.{sub-zero, zero-sub, suc-sub-suc, mod-one, mod-lt, zero-add, zero-mul, suc-mul, add-mul-mod_self_left, add-mul-div_left, div-eq_of_lt, mod-eq_of_lt, pow-suc, pow-zero, mul-pos, suc-ne-zero, div-one, div-div-eq-div-mul, pow-succ'}
use native.Mathlib.Omega.{arith}
use mathlib.Core.Path.{◌≡◌, refl, sym, ap, ap₂, ◌∙◌}
use mathlib.Core.Bool.{Bool, true, false, ◌&&◌}
use mathlib.Core.List.{List, [], ◌∷◌, ◌++◌, map, reverse_aux, reverse-reverse}
use lib.ListN.{length, get_or, take, drop, replicate, length-append, length-replicate, length-take, length-reverse, length-drop, take-append-drop}
use lib.Seq.{get_or-take, get_or-drop, take-nil, take_at, drop_at}
use lib.Arith.{mod-mul}
use lib.Dec.{T}
use Rattle.record.specs.Bytes.{part, fit, pieces, join, digits, number, ordered}

pub length-fit : (n pad : ℕ) (xs : List ℕ) → length (fit n pad xs) ≡ n
unfolding fit
length-fit n pad xs = simp (length-append, length-take, length-replicate) (omega arith)

pub length_digits : (b k n : ℕ) → length (digits b k n) ≡ k
unfolding digits
length_digits b zero n = refl
length_digits b (suc k) n = ap suc (length_digits b k (n / b))

pub ordered-ordered : (h : Bool) (ds : List ℕ) → ordered h (ordered h ds) ≡ ds
ordered-ordered true ds = reverse-reverse ds
ordered-ordered false ds = refl

pub length-ordered : (h : Bool) (ds : List ℕ) → length (ordered h ds) ≡ length ds
length-ordered true ds = length-reverse ds
length-ordered false ds = refl

-- the highest digit stands last
pub digits_last : (b k n : ℕ) → digits b (suc k) n ≡ digits b k n ++ (n / b ^ k % b ∷ [])
unfolding digits
digits_last b zero n = rw (pow-zero, div-one)
digits_last b (suc k) n = ap (λ (ds : List ℕ). n % b ∷ ds) (digits_last b k (n / b) ∙ rw (div-div-eq-div-mul n b (b ^ k), pow-succ' b k))

-- every element has a property
abbrev pub All : (ℕ → Type 0) → List ℕ → Type 0
All P [] = Unit {0}
All P (x ∷ xs) = P x × All P xs

module _ (P : ℕ → Type 0) where
  pub all_take : (n : ℕ) (xs : List ℕ) → All P xs → All P (take n xs)
  all_take zero xs h = tt
  all_take (suc n) [] h = tt
  all_take (suc n) (x ∷ xs) h = (h.0, all_take n xs h.1)

  pub all_drop : (n : ℕ) (xs : List ℕ) → All P xs → All P (drop n xs)
  all_drop zero xs h = h
  all_drop (suc n) [] h = tt
  all_drop (suc n) (x ∷ xs) h = all_drop n xs h.1

  pub all_append : (xs ys : List ℕ) → All P xs → All P ys → All P (xs ++ ys)
  all_append [] ys h k = k
  all_append (x ∷ xs) ys h k = (h.0, all_append xs ys h.1 k)

  pub all_replicate : (n x : ℕ) → P x → All P (replicate n x)
  all_replicate zero x h = tt
  all_replicate (suc n) x h = (h, all_replicate n x h)

  all-turn : (xs ys : List ℕ) → All P xs → All P ys → All P (reverse_aux xs ys)
  all-turn [] ys h k = k
  all-turn (x ∷ xs) ys h k = all-turn xs (x ∷ ys) h.1 (h.0, k)

  pub all-ordered : (o : Bool) (xs : List ℕ) → All P xs → All P (ordered o xs)
  all-ordered true xs h = all-turn xs [] h tt
  all-ordered false xs h = h

pub both : (a b : Bool) → T (a && b) → T a × T b
both true b h = (tt, h)
both false b h = absurd h

power_pos : (b k : ℕ) → 0 < b → 0 < b ^ k
power_pos b zero h = rw pow-zero (omega arith)
power_pos b (suc k) h = rw pow-suc (mul-pos (power_pos b k h) h)

no_items : (xs : List ℕ) → length xs ≡ 0 → [] ≡ xs
no_items [] h = refl
no_items (x ∷ xs) h = absurd (suc-ne-zero _ h)

-- the number of the k lowest digits
pub number_digits : (b k n : ℕ) → 0 < b → number b (digits b k n) ≡ n % b ^ k
unfolding digits number
number_digits b zero n h = rw (pow-zero, mod-one)
number_digits b (suc k) n h = rw (number_digits b k (n / b) h, pow-suc, mod-mul n (power_pos b k h) h) (omega arith)

pub digits-below : (b k n : ℕ) → 0 < b → All (λ d. d < b) (digits b k n)
unfolding digits
digits-below b zero n h = tt
digits-below b (suc k) n h = (mod-lt n h, digits-below b k (n / b) h)

-- digits below the base come back from their number
pub digits_number : (b : ℕ) (ds : List ℕ) → All (λ d. d < b) ds → digits b (length ds) (number b ds) ≡ ds
unfolding digits number
digits_number b [] h = refl
digits_number b (d ∷ ds) h =
    let small : d < b = h.0 in
    let pos : 0 < b = omega arith in
    rw (add-mul-mod_self_left d b (number b ds), mod-eq_of_lt small, add-mul-div_left d (number b ds) pos, div-eq_of_lt small, zero-add, digits_number b ds h.1)

module _ (f : ℕ → List ℕ) (k : ℕ) (all : (x : ℕ) → length (f x) ≡ k) where
  pub length-join : (xs : List ℕ) → length (join (map f xs)) ≡ length xs * k
  unfolding join
  length-join [] = sym (zero-mul k)
  length-join (x ∷ xs) = simp (length-append, all, length-join xs, suc-mul) (omega arith)

  pub pieces-join : (xs : List ℕ) → pieces k (length xs) (join (map f xs)) ≡ map f xs
  unfolding pieces join
  pieces-join [] = refl
  pieces-join (x ∷ xs) = ap₂ (λ (a : List ℕ) (r : List (List ℕ)). a ∷ r) (take_at (f x) _ k (all x)) (ap (pieces k (length xs)) (drop_at (f x) _ k (all x)) ∙ pieces-join xs)

pub length-pieces : (k n : ℕ) (xs : List ℕ) → length (pieces k n xs) ≡ n
unfolding pieces
length-pieces k zero xs = refl
length-pieces k (suc n) xs = ap suc (length-pieces k n (drop k xs))

pub join-pieces : (k n : ℕ) (xs : List ℕ) → length xs ≡ n * k → join (pieces k n xs) ≡ xs
unfolding pieces join
join-pieces k zero xs h = no_items xs (h ∙ zero-mul k)
join-pieces k (suc n) xs h = ap (λ (r : List ℕ). take k xs ++ r) (join-pieces k n (drop k xs) (length-drop k xs ∙ rw (h, suc-mul) (omega arith))) ∙ take-append-drop k xs

-- what a slice's elements are known to be, as `All`
pub all-below : {b : ℕ} (xs : List ℕ) → ((i : ℕ) → get_or xs i 0 < b) → All (λ d. d < b) xs
all-below [] h = tt
all-below (x ∷ xs) h = (h 0, all-below xs (λ i. h (suc i)))

pub and-true : (a b : Bool) → a && b ≡ true → (a ≡ true) × (b ≡ true)
and-true true b h = (refl, h)
and-true false b h = let z : ◌≡◌ {A = ℕ} 0 1 = cc in absurd (omega arith)

pub part_at : (xs : List ℕ) (start n j : ℕ) → j < n → get_or (part xs start n) j 0 ≡ get_or xs (start + j) 0
part_at xs start n j h = get_or-take n (drop start xs) j 0 h ∙ get_or-drop start xs j 0

pub drop-take : (a k : ℕ) (l : List ℕ) → drop a (take k l) ≡ take (k - a) (drop a l)
drop-take zero k l = rw sub-zero
drop-take (suc a) zero l = rw zero-sub
drop-take (suc a) (suc k) [] = sym (take-nil (suc k - suc a))
drop-take (suc a) (suc k) (x ∷ l) = drop-take a k l ∙ ap (λ (i : ℕ). take i (drop a l)) (sym (suc-sub-suc k a))
