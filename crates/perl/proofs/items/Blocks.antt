-- What is stored in the block, on plain values: nothing, one text after the other, and one text again and again.
use Rattle.std.specs.declared.option.Option.{Option}
use Rattle.std.specs.declared.option.Option.TheVariants.{Some, None}
use Prim.Native.Nat.{ℕ, zero, suc, ◌+◌, ◌-◌, ◌*◌, ◌≤◌, ◌<◌, min}
use native.Mathlib.Nat.{add-zero, mul-zero, suc-mul}
use native.Mathlib.Numerals.{add-one}
use native.Mathlib.Omega.{arith}
use mathlib.Core.Path.{◌≡◌, refl, sym, ap, ◌∙◌, subst}
use mathlib.Core.Bool.{Bool, true, false}
use mathlib.Core.List.{List, [], ◌∷◌, ◌++◌}
use borrow.Author.Tests.{le-leb, lt-leb}
use mir.Val.{bool_byte}
use lib.ListN.{length, take, drop, get_or, set, length-append, length-set, get_or-append}
use lib.Seq.{length-take-le, length_paste_head, take-append-le, take-length, get_or-take, get_or-append-add}
use Rattle.layout.specs.Layout.{max_layout}
use Rattle.record.specs.Bytes.{store_at}
use Rattle.record.proofs.Fields.{split}
use Rattle.record.proofs.Stores.{Put, put-more, put-done, store-none, store-first, store-store, length-store_at}
use Rattle.perl.specs.Writing.{repeated, flag_text}
use Rattle.perl.specs.inside.Readers.{placed, held, Inside, Stored}
use Rattle.perl.proofs.items.Texts.{length-repeated, repeated-last}

-- ---- ends of a text

pub placed-within : (n : ℕ) → n ≤ max_layout → placed n ≡ Some n
placed-within n h = rw (le-leb n max_layout h)

pub placed-over : (n : ℕ) → max_layout < n → placed n ≡ None
placed-over n h = rw (lt-leb n max_layout h)

pub held-placed : (n : ℕ) → held (placed n) ≡ min (suc max_layout) n
held-placed n = split n max_layout (λ h. ap held (placed-within n h) ∙ omega arith) (λ h. ap held (placed-over n h) ∙ omega arith)

pub held-small : (o : Option ℕ) → Inside o → held o ≤ suc max_layout
held-small (Some n) h = omega arith
held-small None h = omega arith

pub inside-placed : (n : ℕ) → Inside (placed n)
inside-placed n = split n max_layout (λ h. subst Inside (sym (placed-within n h)) h) (λ h. subst Inside (sym (placed-over n h)) tt)

pub placed-held : (o : Option ℕ) → Inside o → placed (held o) ≡ o
placed-held (Some n) h = placed-within n h
placed-held None h = refl

placed-more : (n m : ℕ) → placed (held (placed n) + m) ≡ placed (n + m)
placed-more n m =
    split n max_layout (λ h. ap (λ (o : Option ℕ). placed (held o + m)) (placed-within n h))
    (λ h. ap (λ (o : Option ℕ). placed (held o + m)) (placed-over n h) ∙ placed-over (suc max_layout + m) (omega arith) ∙ sym (placed-over (n + m) (omega arith)))

-- ---- one text after the other

pub stored-none : (d : List ℕ) (to : Option ℕ) → Inside to → Stored [] to d to d
stored-none d to h = record { place = rw add-zero (sym (placed-held to h)); long = refl; bytes = λ k. sym (store-none d (held to)) }

pub inside-end : {s d d' : List ℕ} {to end : Option ℕ} → Stored s to d end d' → Inside end
inside-end {s} {to = to} h = subst Inside (sym h.place) (inside-placed (held to + length s))

pub stored-append : {s t d d₁ d₂ : List ℕ} {to end end₂ : Option ℕ} → length d ≡ max_layout → Stored s to d end d₁ → Stored t end d₁ end₂ d₂ → Stored (s ++ t) to d end₂ d₂
stored-append {s} {t} {d} {d₁} {d₂} {to} {end} {end₂} room a b =
    let l : held to + length s + length t ≡ held to + length (s ++ t) = omega (arith, length-append s t) in
    record {
      place = b.place ∙ ap (λ (o : Option ℕ). placed (held o + length t)) a.place ∙ placed-more (held to + length s) (length t) ∙ ap placed l;
      long = b.long ∙ a.long;
      bytes = λ k.
          let e : held end ≡ held to + length s = ap held (a.place ∙ placed-within (held to + length s) (omega arith)) in
          b.bytes (omega arith) ∙ (rw (a.bytes (omega arith), e) (store-store d (held to) s t (omega arith)));
    }

-- ---- a letter, its flag and its count

module _ (d : List ℕ) (to b : ℕ) where
  pub one_byte : to < length d → set d to b ≡ store_at d to (b ∷ [])
  one_byte h = sym (store-none (set d to b) (suc to)) ∙ store-first d to b [] (omega arith)

  pub two_bytes : (c : ℕ) → to + 1 < length d → set (set d to b) (to + 1) c ≡ store_at d to (b ∷ c ∷ [])
  two_bytes c h =
      let second : set (set d to b) (suc to) c ≡ store_at (set d to b) (suc to) (c ∷ []) =
      sym (store-none (set (set d to b) (suc to) c) (suc (suc to))) ∙ store-first (set d to b) (suc to) c [] (rw length-set (omega arith)) in
      rw add-one (second ∙ store-first d to b (c ∷ []) (omega arith))

bit-byte : (u : Bool) → bool_byte u ≡ length (flag_text u)
bit-byte true = refl
bit-byte false = refl

module _ (d digits : List ℕ) (to b : ℕ) (u : Bool) (room : length d ≡ max_layout) where
  pub put_whole : (f : ℕ) {d₁ d₂ : List ℕ} → f ≡ bool_byte u → to + 1 + f + length digits ≤ max_layout
      → d₁ ≡ store_at d to (b ∷ flag_text u) → d₂ ≡ store_at d₁ (to + 1 + f) digits
      → Stored ((b ∷ flag_text u) ++ digits) (Some to) d (Some (to + 1 + f + length digits)) d₂
  put_whole f {d₁} {d₂} m fits e₁ e₂ =
      let long : f ≡ length (flag_text u) = m ∙ bit-byte u in
      let next : to + length (b ∷ flag_text u) ≡ to + 1 + f = omega arith in
      let whole : d₂ ≡ store_at d to ((b ∷ flag_text u) ++ digits) = e₂ ∙ (rw (e₁, ← next) (store-store d to (b ∷ flag_text u) digits (omega arith))) in
      let end : to + length ((b ∷ flag_text u) ++ digits) ≡ to + 1 + f + length digits = omega (arith, length-append (b ∷ flag_text u) digits) in
      record { place = rw end (sym (placed-within (to + 1 + f + length digits) fits)); long = ap length whole ∙ length-store_at d to ((b ∷ flag_text u) ++ digits) (omega arith); bytes = λ k. whole }

-- ---- a text again and again

at_least_one : (n m : ℕ) → 0 < n → m ≤ n * m
at_least_one zero m h = absurd (omega arith)
at_least_one (suc n) m h = rw (suc-mul n m) (omega arith)

some_bytes : (n m : ℕ) {j : ℕ} → j < n * m → 0 < m
some_bytes n zero h = let e : n * 0 ≡ 0 = mul-zero n in absurd (omega arith)
some_bytes n (suc m) h = omega arith

-- of a text that has run over every repetition runs over
pub again-none : (s d : List ℕ) (to : Option ℕ) (times : ℕ) (old : List ℕ) → 0 < times → Stored s to d None old → Stored (repeated times s) to d None old
again-none s d to times old some st =
    let over : max_layout < held to + length s = omega (arith, held-placed (held to + length s), ap held st.place) in
    let l : length s ≤ length (repeated times s) = rw (length-repeated times s) (at_least_one times (length s) some) in
    record { place = sym (placed-over (held to + length (repeated times s)) (omega arith)); long = st.long; bytes = λ k. absurd (omega arith) }

-- byte k of what was put in
put-at : (d₀ : List ℕ) (to : ℕ) (s d : List ℕ) (j k : ℕ) → Put d₀ to s d j → to ≤ length d₀ → j ≤ length s → k < j → get_or d (to + k) 0 ≡ get_or s k 0
put-at d₀ to s d j k p h l m =
    let front : length (take to d₀) ≡ to = length-take-le to d₀ h in
    let head : List ℕ = take to d₀ ++ take j s in
    let long : length head ≡ to + j = length_paste_head d₀ to s j h l in
    ap (λ (x : List ℕ). get_or x (to + k) 0) p.is
    ∙ get_or-append head (drop (to + j) d₀) 0 (to + k) (omega arith)
    ∙ ap (λ (n : ℕ). get_or head (n + k) 0) (sym front)
    ∙ get_or-append-add (take to d₀) (take j s) k 0
    ∙ get_or-take j s k 0 m

-- a repeated text is the same one text further on
period : (n : ℕ) (s : List ℕ) (j : ℕ) → length s ≤ j → j < n * length s → get_or (repeated n s) (j - length s) 0 ≡ get_or (repeated n s) j 0
unfolding repeated
period zero s j h k = absurd (omega arith)
period (suc n) s j h k =
    let e : length s + (j - length s) ≡ j = omega arith in
    let m : suc n * length s ≡ n * length s + length s = suc-mul n (length s) in
    let front : get_or (repeated n s ++ s) (j - length s) 0 ≡ get_or (repeated n s) (j - length s) 0 = get_or-append (repeated n s) s 0 (j - length s) (omega (arith, length-repeated n s)) in
    ap (λ (x : List ℕ). get_or x (j - length s) 0) (repeated-last n s) ∙ front ∙ sym (get_or-append-add s (repeated n s) (j - length s) 0) ∙ ap (λ (i : ℕ). get_or (s ++ repeated n s) i 0) e

module _ (s d : List ℕ) (to end : ℕ) (old : List ℕ) (within : end ≤ max_layout) (st : Stored s (Some to) d (Some end) old) where
  size_is : end ≡ to + length s
  size_is = omega (arith, held-placed (to + length s), ap held st.place)

  total : (times : ℕ) → length (repeated times s) ≡ times * (end - to)
  total times = length-repeated times s ∙ ap (λ (n : ℕ). times * n) (omega (arith, size_is))

  pub again-over : (times : ℕ) → max_layout < to + times * (end - to) → Stored (repeated times s) (Some to) d None old
  again-over times h =
      record { place = sym (placed-over (to + length (repeated times s)) (omega (arith, total times))); long = st.long; bytes = λ k. absurd (omega (arith, total times)) }

  module _ (times : ℕ) (some : 0 < times) (room : length d ≡ max_layout) (fits : to + times * (end - to) ≤ max_layout) where
    size : end - to ≡ length s
    size = omega (arith, size_is)

    first : take (end - to) (repeated times s) ≡ s
    unfolding repeated
    first = rw size (go times some)
      where
        go : (n : ℕ) → 0 < n → take (length s) (repeated n s) ≡ s
        go zero h = absurd (omega arith)
        go (suc n) h = take-append-le (length s) s (repeated n s) (omega arith) ∙ take-length s

    pub again-once : Put d to (repeated times s) old (end - to)
    again-once =
        let o : old ≡ store_at d to s = st.bytes (omega (arith, size_is)) in
        record { long = st.long; is = o ∙ (rw (first, size)) }

    module _ (out : List ℕ) (j : ℕ) (on : end ≤ j) (p : Put d to (repeated times s) out (j - to)) where
      pub again-more : j < to + times * (end - to) → Put d to (repeated times s) (set out j (get_or out (j - (end - to)) 0)) (j + 1 - to)
      again-more k =
          let m : times * length s ≡ times * (end - to) = rw size in
          let here : to + (j - to) ≡ j = omega (arith, size_is) in
          let more : j - to + 1 ≡ j + 1 - to = omega (arith, size_is) in
          let back : to + (j - to - (end - to)) ≡ j - (end - to) = omega (arith, size_is) in
          let b : get_or out (to + (j - to - (end - to))) 0 ≡ get_or (repeated times s) (j - to) 0 = put-at d to (repeated times s) out
          (j - to) (j - to - (end - to)) p (omega (arith, size_is)) (omega (arith, total times)) (omega (arith, some_bytes times (end - to) {j = j - to} (omega (arith, size_is)), size_is))
          ∙ (rw size (period times s (j - to) (omega (arith, size_is)) (omega (arith, size_is, m)))) in
          rw (here, more, back) at (put-more p (omega (arith, size_is)) (omega (arith, total times, size_is)) b)

      pub again-done : (end ≤ to + times * (end - to) → j ≤ to + times * (end - to)) → to + times * (end - to) ≤ j → Stored (repeated times s) (Some to) d (Some (to + times * (end - to))) out
      again-done h k =
          let e : j ≤ to + times * (end - to) = h (omega (arith, size_is, at_least_one times (end - to) some)) in
          let l : length (repeated times s) ≡ j - to = omega (arith, total times) in
          record { place = rw (total times) (sym (placed-within (to + times * (end - to)) fits)); long = p.long; bytes = λ k. put-done p l }
