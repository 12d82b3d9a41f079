-- Laws of bytes in their order or turned round, and of runs of bytes, one after the other.
use Prim.Native.Nat.{ℕ, zero, suc, ◌+◌, ◌*◌, ◌≤◌, ◌<◌}
use native.Mathlib.Nat.{suc-mul, zero-mul, add-sub_cancel}
use native.Mathlib.Omega.{arith}
use mathlib.Core.Path.{◌≡◌, refl, sym, ap, ◌∙◌}
use mathlib.Core.Bool.{Bool, true, false}
use mathlib.Core.List.{List, map, map-id, map-map}
use lib.ListN.{length, take, drop}
use lib.Seq.{take-take, drop-drop}
use Rattle.record.specs.Bytes.{part, store_at, pieces, join, ordered}
use Rattle.record.proofs.Bytes.{length-ordered, join-pieces, drop-take}
use Rattle.record.proofs.Stores.{runs, runs-first, length_runs, length_part, Wrote, wrote-next}
use Rattle.integers.specs.inside.Eights.{eights}

-- ---- runs

pub runs_same : (n : ℕ) (f g : ℕ → List ℕ) → ((i : ℕ) → i < n → f i ≡ g i) → runs n f ≡ runs n g
unfolding runs
runs_same zero f g h = refl
runs_same (suc n) f g h = rw (runs_same n f g (λ i l. h i (omega arith)), h n (omega arith))

-- what is made of the pieces of a run, one after the other
module _ (f : List ℕ → List ℕ) (k : ℕ) (xs : List ℕ) where
  pub pieces-runs : (n start : ℕ) → join (map f (pieces k n (drop start xs))) ≡ runs n (λ i. f (part xs (start + i * k) k))
  unfolding join pieces runs
  pieces-runs zero start = refl
  pieces-runs (suc n) start =
      let here : start + 0 * k ≡ start = rw zero-mul (omega arith) in
      let next : (i : ℕ) → f (part xs (start + k + i * k) k) ≡ f (part xs (start + suc i * k) k) =
      λ i. let e : start + k + i * k ≡ start + suc i * k = rw suc-mul (omega arith) in rw e in
      rw (drop-drop k start xs, pieces-runs n (start + k), runs_same n _ _ (λ i _. next i))
      (sym (runs-first n (λ i. f (part xs (start + i * k) k)) ∙ rw here))

pub joined : (g : ℕ → List ℕ) (h : List ℕ → ℕ) (k : ℕ) (xs : List ℕ) (n start : ℕ)
    → join (map g (map h (pieces k n (drop start xs)))) ≡ runs n (λ i. g (h (part xs (start + i * k) k)))
joined g h k xs n start = ap join (map-map g h (pieces k n (drop start xs))) ∙ pieces-runs (λ p. g (h p)) k xs n start

pub pieces-take : (k n : ℕ) (xs : List ℕ) → pieces k n (take (n * k) xs) ≡ pieces k n xs
unfolding pieces
pieces-take k zero xs = refl
pieces-take k (suc n) xs =
    let less : k ≤ n * k + k = omega arith in
    rw (suc-mul, take-take k (n * k + k) xs, drop-take k (n * k + k) xs, add-sub_cancel, pieces-take k n (drop k xs))

-- ---- runs of eight bytes

-- run i
abbrev pub eight_at : Bool → List ℕ → ℕ → ℕ → List ℕ
eight_at turn xs start i = ordered turn (part xs (start + i * 8) 8)

length-eight_at : (turn : Bool) (xs : List ℕ) (start n i : ℕ) → start + n * 8 ≤ length xs → i < n → length (eight_at turn xs start i) ≡ 8
length-eight_at turn xs start n i inside h = length-ordered turn (part xs (start + i * 8) 8) ∙ length_part 8 (start + i * 8) xs (omega arith)

length-eights : (turn : Bool) (xs : List ℕ) (start n i : ℕ) → start + n * 8 ≤ length xs → i ≤ n → length (runs i (eight_at turn xs start)) ≡ i * 8
length-eights turn xs start n i inside h = length_runs 8 i (eight_at turn xs start) (λ k l. length-eight_at turn xs start n k inside (omega arith))

pub eights-runs : (turn : Bool) (xs : List ℕ) (start n : ℕ) → eights turn n (drop start xs) ≡ runs n (eight_at turn xs start)
unfolding eights
eights-runs turn xs start n = pieces-runs (ordered turn) 8 xs n start

pub eights-kept : (xs : List ℕ) (start n : ℕ) → start + n * 8 ≤ length xs → part xs start (n * 8) ≡ eights false n (drop start xs)
unfolding eights
eights-kept xs start n inside =
    let kept : map (ordered false) (pieces 8 n (drop start xs)) ≡ pieces 8 n (drop start xs) = map-id (pieces 8 n (drop start xs)) in
    sym (rw (kept, ← pieces-take 8 n (drop start xs)) (join-pieces 8 n (part xs start (n * 8)) (length_part (n * 8) start xs inside)))

-- one more run stored after those before it
pub eight-more : {d₀ d d' : List ℕ} {at i n : ℕ} (xs : List ℕ) (start : ℕ) → Wrote d₀ at (eight_at true xs start) d i → i < n → at + n * 8 ≤ length d₀ → start + n * 8 ≤ length xs
    → d' ≡ store_at d (at + i * 8) (eight_at true xs start i) → Wrote d₀ at (eight_at true xs start) d' (i + 1)
eight-more {d₀} {d} {d'} {at} {i} {n} xs start w h room inside e =
    let front : length (runs i (eight_at true xs start)) ≡ i * 8 = length-eights true xs start n i inside (omega arith) in
    wrote-next {to = at + i * 8} w (omega arith) (omega (arith, length-eight_at true xs start n i inside h)) e
