-- Laws of the bytes of a field of digits, and of the byte that a turn stores.
use Prim.Native.Nat.{ℕ, zero, suc, ◌+◌, ◌*◌, ◌≤◌, ◌<◌, min}
use native.Mathlib.Nat.{not-suc-le-zero, le_of_suc-le-suc, add_comm, zero-mul, suc-mul}
use native.Mathlib.Omega.{arith}
use mathlib.Core.Path.{◌≡◌, refl, sym, ap, ◌∙◌}
use mathlib.Core.Bool.{Bool}
use mathlib.Core.List.{List, [], ◌∷◌, map, map-append}
use lib.ListN.{length, take, drop, get_or, replicate, length-map}
use lib.Seq.{get_or-drop, get_or-take, drop-drop, ext_get_or}
use Rattle.layout.specs.declared.Shape.TheVariants.{Digits}
use Rattle.record.specs.Bytes.{fit, ceil_div, pieces, number, ordered}
use Rattle.record.specs.Geometry.{base, per_byte}
use Rattle.record.specs.Packing.{digit_value, digit_bytes, stored}
use Rattle.record.proofs.Bytes.{length-fit, length-pieces}
use Rattle.record.proofs.Stores.{length_part, next-run}
use Rattle.digits.specs.inside.bytes.{byte_of}
use Rattle.digits.proofs.DigitLaws.{take-there}
use Rattle.digits.proofs.bytes.DigitBytes.{fit-zero}

-- ---- the bytes of a field

pub map-take : (f : ℕ → ℕ) (n : ℕ) (l : List ℕ) → map f (take n l) ≡ take n (map f l)
map-take f zero l = refl
map-take f (suc n) [] = refl
map-take f (suc n) (x ∷ xs) = ap (λ (r : List ℕ). f x ∷ r) (map-take f n xs)

map-replicate : (f : ℕ → ℕ) (n x : ℕ) → map f (replicate n x) ≡ replicate n (f x)
map-replicate f zero x = refl
map-replicate f (suc n) x = ap (λ (r : List ℕ). f x ∷ r) (map-replicate f n x)

map-fit : (f : ℕ → ℕ) (n pad : ℕ) (l : List ℕ) → map f (fit n pad l) ≡ fit n (f pad) (map f l)
unfolding fit
map-fit f n pad l = rw (map-append, map-take, map-replicate, length-map)

fit-piece : (p n a : ℕ) (l : List ℕ) → a + p ≤ n → take p (drop a (fit n 0 l)) ≡ fit p 0 (drop a l)
fit-piece p n a l h =
    let long : length (take p (drop a (fit n 0 l))) ≡ p = length_part p a (fit n 0 l) (rw length-fit h) in
    ext_get_or 0 (take p (drop a (fit n 0 l))) (fit p 0 (drop a l)) (long ∙ sym (length-fit p 0 (drop a l)))
    (λ q k. get_or-take p (drop a (fit n 0 l)) q 0 (omega arith) ∙ get_or-drop a (fit n 0 l) q 0 ∙ fit-zero n l (a + q) (omega arith)
    ∙ sym (fit-zero p (drop a l) q (omega arith) ∙ get_or-drop a l q 0))

map-pieces-at : (f : List ℕ → ℕ) (k m : ℕ) (xs : List ℕ) (j : ℕ) → j < m → get_or (map f (pieces k m xs)) j 0 ≡ f (take k (drop (j * k) xs))
unfolding pieces
map-pieces-at f k zero xs j h = absurd (not-suc-le-zero h)
map-pieces-at f k (suc m) xs zero h = rw zero-mul
map-pieces-at f k (suc m) xs (suc j) h = map-pieces-at f k m (drop k xs) j (le_of_suc-le-suc h) ∙ rw (drop-drop, suc-mul, add_comm k (j * k))

pub length-stored : (hex high : Bool) (n : ℕ) (cs : List ℕ) → length (stored (Digits hex high) n cs) ≡ ceil_div n (per_byte hex)
unfolding stored digit_bytes
length-stored hex high n cs = simp (length-map, length-pieces)

pub stored_at : (hex high : Bool) (n : ℕ) (cs : List ℕ) (k : ℕ) → k < ceil_div n (per_byte hex)
    → get_or (stored (Digits hex high) n cs) k 0 ≡ byte_of hex high (drop (k * per_byte hex) (map digit_value (take n cs)))
unfolding stored digit_bytes byte_of digit_value
stored_at hex high n cs k h =
    let per : ℕ = per_byte hex in
    let m : ℕ = ceil_div n per in
    map-pieces-at (λ p. number (base hex) (ordered high p)) per m (map digit_value (fit (m * per) 48 (take n cs))) k h
    ∙ ap (λ (p : List ℕ). number (base hex) (ordered high p))
    (ap (λ (l : List ℕ). take per (drop (k * per) l)) (map-fit digit_value (m * per) 48 (take n cs)) ∙ fit-piece per (m * per) (k * per) (map digit_value (take n cs)) (next-run per h))

-- the byte that a turn stores
pub byte-turn : (hex high : Bool) (cs : List ℕ) (n i k b : ℕ) → k < ceil_div n (per_byte hex) → i ≡ k * per_byte hex
    → b ≡ byte_of hex high (drop i (map digit_value (take (min n (length cs)) cs))) → b ≡ get_or (stored (Digits hex high) n cs) k 0
byte-turn hex high cs n i k b h ei eb = rw (stored_at hex high n cs k h, ← take-there n cs, ← ei) eb
