-- Laws of two runs of bytes: where they part, and whether they are the same.
use Rattle.std.specs.Prelude.{if◌then◌else◌}
use Prim.Native.Nat.{ℕ, zero, suc, ◌+◌, ◌≤◌, ◌<◌, min}
use native.Mathlib.Nat.{zero-add}
use native.Mathlib.Numerals.{add-one}
use native.Mathlib.Omega.{arith}
use mathlib.Core.Path.{◌≡◌, refl, sym, ap, ap₂, ◌∙◌}
use mathlib.Core.Bool.{Bool, true, false, ◌&&◌, true≢false}
use mathlib.Core.List.{List, [], ◌∷◌, ◌++◌}
use borrow.Author.Tests.{eq-eqb, ne_eqb}
use lib.Dec.{eqb}
use lib.ListN.{length, take, drop, get_or, length-take, take-append-drop, drop_of_length-le}
use lib.Seq.{drop-cons, take-add, take-suc, length-take-le}
use Rattle.record.specs.Bytes.{part}
use Rattle.record.proofs.Bytes.{and-true}
use Rattle.compare.specs.Difference.{same_bytes, first_difference}

-- ---- the front of a run

pub front-more : (l : List ℕ) (n : ℕ) → n < length l → take (n + 1) l ≡ take n l ++ (get_or l n 0 ∷ [])
front-more l n h = rw (add-one, take-suc l n 0 h)

pub fronts-long : (n : ℕ) (xs ys : List ℕ) → length xs ≡ length ys → length (take n xs) ≡ length (take n ys)
fronts-long n xs ys e = simp length-take (omega arith)

-- ---- where they part

pub difference-common : (m : ℕ) (xs ys : List ℕ) → min (length xs) (length ys) ≤ m → first_difference (take m xs) (take m ys) ≡ first_difference xs ys
unfolding first_difference
difference-common m [] ys h = first m
  where
    first : (m : ℕ) → first_difference (take m []) (take m ys) ≡ 0
    first zero = refl
    first (suc m) = refl
difference-common m (x ∷ xs) [] h = second m
  where
    second : (m : ℕ) → first_difference (take m (x ∷ xs)) (take m []) ≡ 0
    second zero = refl
    second (suc m) = refl
difference-common zero (x ∷ xs) (y ∷ ys) h = absurd (omega arith)
difference-common (suc m) (x ∷ xs) (y ∷ ys) h =
    let l : min (length xs) (length ys) ≤ m = omega arith in
    ap (λ (n : ℕ). if eqb x y then suc n else 0) (difference-common m xs ys l)

-- what the search keeps: the first i bytes are the same
abbrev pub Alike : List ℕ → List ℕ → ℕ → Type 0
Alike xs ys i = first_difference xs ys ≡ i + first_difference (drop i xs) (drop i ys)

module _ (xs ys : List ℕ) (i : ℕ) (a : Alike xs ys i) where
  pub alike-done : length xs ≤ i → i ≡ first_difference xs ys
  unfolding first_difference
  alike-done h = let none : drop i xs ≡ [] = drop_of_length-le xs {i = i} h in sym (a ∙ rw none (omega arith))

  module _ (h : i < length xs) (k : i < length ys) where
    step : first_difference (drop i xs) (drop i ys) ≡ (if eqb (get_or xs i 0) (get_or ys i 0) then suc (first_difference (drop (suc i) xs) (drop (suc i) ys)) else 0)
    unfolding first_difference
    step = rw (drop-cons xs i 0 h, drop-cons ys i 0 k)

    pub alike-more : get_or xs i 0 ≡ get_or ys i 0 → Alike xs ys (i + 1)
    alike-more e =
        let t : first_difference (drop i xs) (drop i ys) ≡ suc (first_difference (drop (suc i) xs) (drop (suc i) ys)) = step ∙ rw (eq-eqb _ _ e) in
        rw add-one (omega (arith, a, t))

    pub alike-parts : (get_or xs i 0 ≡ get_or ys i 0 → ⊥) → i ≡ first_difference xs ys
    alike-parts e =
        let t : first_difference (drop i xs) (drop i ys) ≡ 0 = step ∙ rw (ne_eqb _ _ e) in
        omega (arith, a, t)

-- the place lies in both
pub difference-few : (xs ys : List ℕ) → first_difference xs ys ≤ length xs
unfolding first_difference
difference-few [] ys = omega arith
difference-few (x ∷ xs) [] = omega arith
difference-few (x ∷ xs) (y ∷ ys) = step (eqb x y) (difference-few xs ys)
  where
    step : (t : Bool) → first_difference xs ys ≤ length xs → (if t then suc (first_difference xs ys) else 0) ≤ suc (length xs)
    step true h = omega arith
    step false h = omega arith

-- ---- whether they are the same

and_assoc : (a b c : Bool) → (a && b) && c ≡ a && (b && c)
and_assoc true b c = refl
and_assoc false b c = refl

-- run by run
same-append : (xs ys us vs : List ℕ) → length xs ≡ length ys → same_bytes (xs ++ us) (ys ++ vs) ≡ same_bytes xs ys && same_bytes us vs
unfolding same_bytes
same-append [] [] us vs e = refl
same-append [] (b ∷ ys) us vs e = absurd (omega arith)
same-append (a ∷ xs) [] us vs e = absurd (omega arith)
same-append (a ∷ xs) (b ∷ ys) us vs e =
    let l : length xs ≡ length ys = omega arith in
    rw (same-append xs ys us vs l) (sym (and_assoc (eqb a b) (same_bytes xs ys) (same_bytes us vs)))

-- a byte more at the end
same_more : (xs ys : List ℕ) (x y : ℕ) → length xs ≡ length ys → same_bytes (xs ++ (x ∷ [])) (ys ++ (y ∷ [])) ≡ same_bytes xs ys && eqb x y
unfolding same_bytes
same_more xs ys x y e = same-append xs ys (x ∷ []) (y ∷ []) e ∙ ap (λ (b : Bool). same_bytes xs ys && b) (and-end (eqb x y))
  where
    and-end : (b : Bool) → b && true ≡ b
    and-end true = refl
    and-end false = refl

pub front_same : (xs ys : List ℕ) (i : ℕ) → length xs ≡ length ys → i < length xs
    → same_bytes (take (i + 1) xs) (take (i + 1) ys) ≡ same_bytes (take i xs) (take i ys) && eqb (get_or xs i 0) (get_or ys i 0)
front_same xs ys i e h =
    rw (front-more xs i h, front-more ys i (omega arith)) (same_more (take i xs) (take i ys) (get_or xs i 0) (get_or ys i 0) (fronts-long i xs ys e))

-- a block more
pub block_same : (xs ys : List ℕ) (i m : ℕ) → length xs ≡ length ys → same_bytes (take i xs) (take i ys) ≡ true → same_bytes (part xs i m) (part ys i m) ≡ true
    → same_bytes (take (i + m) xs) (take (i + m) ys) ≡ true
block_same xs ys i m e p q =
    rw (take-add i m xs, take-add i m ys, same-append (take i xs) (take i ys) (part xs i m) (part ys i m) (fronts-long i xs ys e), p, q)

-- two runs part no sooner than after what is the same at their fronts
difference-past : (xs ys us vs : List ℕ) → same_bytes xs ys ≡ true → first_difference (xs ++ us) (ys ++ vs) ≡ length xs + first_difference us vs
unfolding same_bytes first_difference
difference-past [] [] us vs h = sym (zero-add (first_difference us vs))
difference-past [] (y ∷ ys) us vs h = absurd (true≢false (sym h))
difference-past (x ∷ xs) [] us vs h = absurd (true≢false (sym h))
difference-past (x ∷ xs) (y ∷ ys) us vs h =
    let p = and-true (eqb x y) (same_bytes xs ys) h in
    let e : first_difference (xs ++ us) (ys ++ vs) ≡ length xs + first_difference us vs = difference-past xs ys us vs p.1 in
    rw p.0 (omega (arith, e))

pub alike_from : (xs ys : List ℕ) (i : ℕ) → i ≤ length xs → same_bytes (take i xs) (take i ys) ≡ true → Alike xs ys i
alike_from xs ys i h e =
    ap₂ first_difference (sym (take-append-drop i xs)) (sym (take-append-drop i ys)) ∙ difference-past (take i xs) (take i ys) (drop i xs) (drop i ys) e
    ∙ ap (λ (m : ℕ). m + first_difference (drop i xs) (drop i ys)) (length-take-le i xs h)

-- runs of different lengths are not the same
pub same-long : (xs ys : List ℕ) → (length xs ≡ length ys → ⊥) → same_bytes xs ys ≡ false
unfolding same_bytes
same-long [] [] h = absurd (h refl)
same-long [] (y ∷ ys) h = refl
same-long (x ∷ xs) [] h = refl
same-long (x ∷ xs) (y ∷ ys) h = rw (same-long xs ys (λ e. h (ap suc e))) (and_none (eqb x y))
  where
    and_none : (b : Bool) → b && false ≡ false
    and_none true = refl
    and_none false = refl
