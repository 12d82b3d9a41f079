-- Laws of `store_at`, and what a loop keeps that stores a run: byte by byte (`Put`), some a turn (`Front`), or one piece
-- a turn (`Wrote`).
use mathlib.Core.Path.{◌≡◌, refl, sym, ap, ◌∙◌}
use mathlib.Core.List.{List, [], ◌∷◌, ◌++◌, reverse, reverse-cons, append_assoc, append-nil}
use mathlib.Core.Logic.{⊎_elim}
use Prim.Native.Nat.{ℕ, zero, suc, ◌+◌, ◌-◌, ◌*◌, ◌≤◌, ◌<◌}
use native.Mathlib.Nat.{add_assoc, add-zero, zero-mul, suc-mul, le_of_suc-le-suc, not-suc-le-zero, eq-or-lt_of_le, mul-le-mul_right}
use native.Mathlib.Numerals.{add-one}
use native.Mathlib.Omega.{arith}
use lib.ListN.{length, take, drop, get_or, set, length-take, length-drop, length-append, length-set, length-reverse, take-append-drop, drop_of_length-le, get_or-append}
use lib.Seq.{take-suc-set, take-set-le, drop-set-lt, set_split, take_at, drop_at, take-add, drop-drop, length-take-le, drop-append-add, get_or_at, paste, paste-zero, paste-suc, take_all}
use Rattle.record.specs.Bytes.{part, store_at}

pub length-store_at : (d : List ℕ) (at : ℕ) (s : List ℕ) → at + length s ≤ length d → length (store_at d at s) ≡ length d
length-store_at d at s h = simp (length-append, length-take, length-drop) (omega arith)

pub store-none : (d : List ℕ) (at : ℕ) → store_at d at [] ≡ d
store-none d at = rw (add-zero, append-nil) (take-append-drop at d)

-- two runs stored side by side are one
pub store-store : (d : List ℕ) (at : ℕ) (s t : List ℕ) → at + length s + length t ≤ length d → store_at (store_at d at s) (at + length s) t ≡ store_at d at (s ++ t)
store-store d at s t h =
    let head : List ℕ = take at d ++ s in
    let rest : List ℕ = drop (at + length s) d in
    let long : length head ≡ at + length s = length-append (take at d) s ∙ ap (λ (n : ℕ). n + length s) (length-take-le at d (omega arith)) in
    let sum : at + length s + length t ≡ at + length (s ++ t) = rw length-append (add_assoc at (length s) (length t)) in
    let past : drop (at + length s + length t) (head ++ rest) ≡ drop (at + length (s ++ t)) d =
    ap (λ (n : ℕ). drop (n + length t) (head ++ rest)) (sym long) ∙ drop-append-add head rest (length t) ∙ drop-drop (length t) (at + length s) d
    ∙ ap (λ (n : ℕ). drop n d) sum in
    rw (take_at head rest (at + length s) long, past, append_assoc (take at d) s t)

-- an element, and then the run after it or before it
pub store-first : (d : List ℕ) (at v : ℕ) (s : List ℕ) → at + suc (length s) ≤ length d → store_at (set d at v) (suc at) s ≡ store_at d at (v ∷ s)
store-first d at v s h =
    let on : suc at + length s ≡ at + suc (length s) = omega arith in
    rw (take-suc-set d at v (omega arith), on, drop-set-lt (at + suc (length s)) d at v (omega arith), append_assoc (take at d) (v ∷ []) s)

pub store-last : (d : List ℕ) (at v : ℕ) (s : List ℕ) {k : ℕ} → length s ≡ k → at + k < length d → store_at (set d (at + k) v) at s ≡ store_at d at (s ++ (v ∷ []))
store-last d at v s {k} e h =
    let rest : List ℕ = drop (suc (at + k)) d in
    let past : drop (at + length s) (set d (at + k) v) ≡ v ∷ rest = rw (e, set_split d (at + k) v h) (drop_at (take (at + k) d) (v ∷ rest) (at + k) (length-take-le (at + k) d (omega arith))) in
    let on : at + length (s ++ (v ∷ [])) ≡ suc (at + k) = rw (length-append, e) (omega arith) in
    rw (take-set-le at d (at + k) v (omega arith), past, on, ← append_assoc (take at d) s (v ∷ [])) (sym (append_assoc (take at d ++ s) (v ∷ []) rest))

-- one more run stored at the end of those before it
pub store-next : {d d' u : List ℕ} {to : ℕ} (d₀ : List ℕ) (at : ℕ) (s t : List ℕ) → d ≡ store_at d₀ at s → to ≡ at + length s → d' ≡ store_at d to t → u ≡ s ++ t → at + length u ≤ length d₀
    → d' ≡ store_at d₀ at u
store-next {d} {d'} {u} {to} d₀ at s t p q r e h =
    let l : length u ≡ length s + length t = ap length e ∙ length-append s t in
    r ∙ rw (p, q, e) (store-store d₀ at s t (omega arith))

-- a run as long as what it is put over
pub store-whole : (d s : List ℕ) → length s ≡ length d → store_at d 0 s ≡ s
store-whole d s e = let none : drop (0 + length s) d ≡ [] = let past : length d ≤ 0 + length s = omega arith in drop_of_length-le d past in rw none (append-nil s)

pub length_part : (n at : ℕ) (l : List ℕ) → at + n ≤ length l → length (part l at n) ≡ n
length_part n at l h = simp (length-take, length-drop) (omega arith)

pub get_d_reverse : (l : List ℕ) (j : ℕ) → j < length l → get_or (reverse l) j 0 ≡ get_or l (length l - 1 - j) 0
get_d_reverse [] j h = absurd (not-suc-le-zero h)
get_d_reverse (x ∷ xs) j h =
    rw reverse-cons
    (⊎_elim
    (λ e. let z : suc (length xs) - 1 - j ≡ 0 = omega arith in
    rw z (get_or_at (reverse xs) x [] 0 j (length-reverse xs ∙ sym e)))
    (λ l. let z : suc (length xs) - 1 - j ≡ suc (length xs - 1 - j) = omega arith in
    rw z (get_or-append (reverse xs) (x ∷ []) 0 j (rw length-reverse l) ∙ get_d_reverse xs j l))
    (eq-or-lt_of_le (le_of_suc-le-suc h)))

-- ---- byte by byte: d is d₀ with the first j bytes of s put in from the place `at`

pub record Put (d₀ : List ℕ) (at : ℕ) (s d : List ℕ) (j : ℕ) : Type 0 where
  pub long : length d ≡ length d₀
  pub is : d ≡ paste d₀ at s j

pub put-none : {d s : List ℕ} {at : ℕ} → Put d at s d 0
put-none {d} {s} {at} = record { long = refl; is = paste-zero d at s }

pub put-more : {d₀ d s : List ℕ} {at j v : ℕ} → Put d₀ at s d j → at + j < length d₀ → j < length s → v ≡ get_or s j 0 → Put d₀ at s (set d (at + j) v) (j + 1)
put-more {d₀} {d} {s} {at} {j} {v} p h k f = record {
  long = length-set d (at + j) v ∙ p.long;
  is = rw (p.is, f, add-one) (paste-suc d₀ at s j 0 h k);
}

pub put-done : {d₀ d s : List ℕ} {at j : ℕ} → Put d₀ at s d j → length s ≡ j → d ≡ store_at d₀ at s
put-done {d₀} {d} {s} {at} {j} p e =
    p.is ∙ (rw (← e) (ap (λ (r : List ℕ). take at d₀ ++ r ++ drop (at + length s) d₀) (take_all (length s) s (omega arith))))

-- ---- a front that grows: d is d₀ with the first i elements of s put in

pub record Front (d₀ s d : List ℕ) (i : ℕ) : Type 0 where
  pub long : length d ≡ length d₀
  pub is : d ≡ store_at d₀ 0 (take i s)

pub front-none : {d s : List ℕ} → Front d s d 0
front-none {d} = record { long = refl; is = sym (store-none d 0) }

pub front-more : {d₀ s d d' : List ℕ} {i : ℕ} (n : ℕ) → Front d₀ s d i → i + n ≤ length s → i + n ≤ length d₀ → d' ≡ store_at d i (part s i n) → Front d₀ s d' (i + n)
front-more {d₀} {s} {d} {d'} {i} n f h k e =
    let front : length (take i s) ≡ i = length-take-le i s (omega arith) in
    let next : length (take (i + n) s) ≡ i + n = length-take-le (i + n) s h in
    let is : d' ≡ store_at d₀ 0 (take (i + n) s) = store-next {to = i} d₀ 0 (take i s) (part s i n) f.is (omega arith) e (take-add i n s) (omega arith) in
    record { long = ap length is ∙ length-store_at d₀ 0 (take (i + n) s) (omega arith); is = is }

pub front-whole : {d₀ s d : List ℕ} {i : ℕ} → Front d₀ s d i → i ≡ length d₀ → length s ≡ length d₀ → d ≡ s
front-whole {d₀} {s} {d} {i} f e l = f.is ∙ ap (store_at d₀ 0) (take_all i s (omega arith)) ∙ store-whole d₀ s l

-- ---- piece by piece: f 0, f 1, .. up to f (n - 1), one after the other

unfoldable pub runs : ℕ → (ℕ → List ℕ) → List ℕ
runs zero f = []
runs (suc n) f = runs n f ++ f n

pub length_runs : (k n : ℕ) (f : ℕ → List ℕ) → ((i : ℕ) → i < n → length (f i) ≡ k) → length (runs n f) ≡ n * k
unfolding runs
length_runs k zero f h = sym (zero-mul k)
length_runs k (suc n) f h = length-append (runs n f) (f n) ∙ rw (suc-mul, length_runs k n f (λ i l. h i (omega arith)), h n (omega arith))

pub runs-first : (n : ℕ) (f : ℕ → List ℕ) → runs (suc n) f ≡ f 0 ++ runs n (λ i. f (suc i))
unfolding runs
runs-first zero f = sym (append-nil (f 0))
runs-first (suc n) f = rw (runs-first n f, append_assoc (f 0) (runs n (λ i. f (suc i))) (f (suc n)))

-- d is d₀ with the first i runs put in from the place `at`
pub record Wrote (d₀ : List ℕ) (at : ℕ) (f : ℕ → List ℕ) (d : List ℕ) (i : ℕ) : Type 0 where
  pub long : length d ≡ length d₀
  pub is : d ≡ store_at d₀ at (runs i f)

pub wrote_none : {d : List ℕ} {at : ℕ} {f : ℕ → List ℕ} → Wrote d at f d 0
unfolding runs
wrote_none {d} {at} = record { long = refl; is = sym (store-none d at) }

pub wrote-next : {d₀ d d' : List ℕ} {at : ℕ} {f : ℕ → List ℕ} {i to : ℕ} → Wrote d₀ at f d i → to ≡ at + length (runs i f) → to + length (f i) ≤ length d₀
    → d' ≡ store_at d to (f i) → Wrote d₀ at f d' (i + 1)
unfolding runs
wrote-next {d₀} {d} {d'} {at} {f} {i} {to} w e h q =
    let step : d' ≡ store_at d₀ at (runs i f ++ f i) = q ∙ rw (w.is, e) (store-store d₀ at (runs i f) (f i) (omega arith)) in
    record {
      long = ap length q ∙ length-store_at d to (f i) (omega (arith, w.long)) ∙ w.long;
      is = rw add-one step;
    }

-- the same where all runs are k long
pub wrote-more : {d₀ d d' : List ℕ} {at : ℕ} {f : ℕ → List ℕ} {i to : ℕ} → (k : ℕ) → ((j : ℕ) → length (f j) ≡ k) → Wrote d₀ at f d i → to ≡ at + i * k → to + k ≤ length d₀
    → d' ≡ store_at d to (f i) → Wrote d₀ at f d' (i + 1)
wrote-more {f} {i} {to} k each w e h q =
    let l : length (runs i f) ≡ i * k = length_runs k i f (λ j _. each j) in
    wrote-next {to = to} w (omega arith) (omega (arith, each i)) q

pub wrote-done : {d₀ d : List ℕ} {at : ℕ} {f : ℕ → List ℕ} {i n : ℕ} → Wrote d₀ at f d i → i ≤ n → n ≤ i → d ≡ store_at d₀ at (runs n f)
wrote-done {d₀} {d} {at} {f} {i} {n} w h k = let e : n ≡ i = omega arith in rw e w.is

pub next-run : (k : ℕ) {i n : ℕ} → i < n → i * k + k ≤ n * k
next-run k {i} {n} h = rw (suc-mul i k) at (mul-le-mul_right k h)

pub add-run : (i k : ℕ) → (i + 1) * k ≡ i * k + k
add-run i k = rw (add-one, suc-mul)
