-- Two slots of one kind show the same exactly where their bytes in the area are the same: a string is its bytes, and
-- eight bytes and the number that they make determine each other.
use Rattle.std.specs.Prelude.{if◌then◌else◌}
use Prim.Native.Nat.{ℕ, zero, suc, ◌*◌, ◌/◌, ◌^◌, ◌≤◌, ◌<◌}
use native.Mathlib.Nat.{mod-lt, mul-one}
use native.Mathlib.Omega.{arith}
use mathlib.Core.Path.{◌≡◌, refl, sym, ap, ap₂, ◌∙◌, subst}
use mathlib.Core.Bool.{Bool, true, false}
use mathlib.Core.Logic.{◌↔◌}
use mathlib.Core.List.{List, [], ◌∷◌}
use lib.ListN.{length, take, drop, length-drop}
use lib.Seq.{take-take, length-take-le}
use lib.Dec.{eqb}
use Rattle.record.specs.declared.slots.Slot.{Slot}
use Rattle.record.specs.Bytes.{part, join, digits, number_bytes, big_endian}
use Rattle.record.specs.Table.{string, integer_size, item_size, Value, integers_in, shown}
use Rattle.record.specs.Slots.{value_end}
use Rattle.record.proofs.Bytes.{All, all_append}
use Rattle.record.proofs.NumberLaws.{bytes_next, big-endian-back}
use Rattle.runs.proofs.OldValues.{integers-stay}

-- ---- numbers are stored as bytes

number-bytes : (w x : ℕ) → All (λ b. b < 256) (number_bytes w x)
unfolding number_bytes digits
number-bytes zero x = tt
number-bytes (suc w) x = rw bytes_next (mod-lt (x / 256 ^ w) (omega arith), number-bytes w x)

pub numbers-bytes : (w : ℕ) (xs : List ℕ) → All (λ b. b < 256) (big_endian w xs)
unfolding big_endian join
numbers-bytes w [] = tt
numbers-bytes w (x ∷ xs) =
    all_append (λ b. b < 256) (number_bytes w x) (big_endian w xs) (number-bytes w x) (numbers-bytes w xs)

-- ---- a value and its bytes

-- the n items of a value that lies at the front of bs are those of its bytes
cut-items : (n : ℕ) (bs : List ℕ) → integers_in n bs ≡ integers_in n (take (n * integer_size) bs)
cut-items n bs =
    integers-stay bs (take (n * integer_size) bs) (n * integer_size)
    (sym (take-take (n * integer_size) (n * integer_size) bs (omega arith))) 0 n (omega arith)

-- by the kind: a string or numbers
abbrev size_by : Bool → ℕ
size_by t = if t then 1 else integer_size

abbrev items_by : Bool → ℕ → List ℕ → List ℕ
items_by t n bs = if t then take n bs else integers_in n bs

module _ (xs ys : List ℕ) (m n : ℕ) where
  numbers-same : m * integer_size ≤ length xs → n * integer_size ≤ length ys
      → take (m * integer_size) xs ≡ take (n * integer_size) ys → integers_in m xs ≡ integers_in n ys
  numbers-same inside inside' e =
      let long : length (take (m * integer_size) xs) ≡ m * integer_size = length-take-le (m * integer_size) xs inside in
      let long' : length (take (n * integer_size) ys) ≡ n * integer_size = length-take-le (n * integer_size) ys inside' in
      let many : m ≡ n = omega (arith, ap length e) in
      cut-items m xs ∙ ap₂ (λ (k : ℕ) (bs : List ℕ). integers_in k bs) many e ∙ sym (cut-items n ys)

  bytes_same : m * integer_size ≤ length xs → n * integer_size ≤ length ys
      → All (λ b. b < 256) (take (m * integer_size) xs) → All (λ b. b < 256) (take (n * integer_size) ys)
      → integers_in m xs ≡ integers_in n ys → take (m * integer_size) xs ≡ take (n * integer_size) ys
  bytes_same inside inside' below below' e =
      sym (back m xs inside below) ∙ ap (big_endian integer_size) e ∙ back n ys inside' below'
    where
      back : (k : ℕ) (bs : List ℕ) → k * integer_size ≤ length bs → All (λ b. b < 256) (take (k * integer_size) bs)
          → big_endian integer_size (integers_in k bs) ≡ take (k * integer_size) bs
      back k bs fits all =
          ap (big_endian integer_size) (cut-items k bs)
          ∙ big-endian-back integer_size k (take (k * integer_size) bs) (length-take-le (k * integer_size) bs fits) all

  told-by : (t : Bool) → m * size_by t ≤ length xs → n * size_by t ≤ length ys
      → (t ≡ false → All (λ b. b < 256) (take (m * integer_size) xs))
      → (t ≡ false → All (λ b. b < 256) (take (n * integer_size) ys))
      → (take (m * size_by t) xs ≡ take (n * size_by t) ys) ↔ (items_by t m xs ≡ items_by t n ys)
  told-by true inside inside' below below' = rw (mul-one m, mul-one n) ((λ e. e), (λ e. e))
  told-by false inside inside' below below' =
      (numbers-same inside inside', bytes_same inside inside' (below refl) (below' refl))

-- where a slot's value lies
abbrev pub bytes_in : List ℕ → Slot → List ℕ
bytes_in area s = part area s.start (s.len * item_size s.kind)

-- its bytes are bytes, where it is no string
abbrev pub InBytes : List ℕ → Slot → Type 0
InBytes area s = eqb s.kind string ≡ false → All (λ b. b < 256) (part area s.start (s.len * integer_size))

abbrev pub Told : List ℕ → List ℕ → Slot → Slot → Type 0
Told area area' s t =
    value_end s ≤ length area → value_end t ≤ length area' → InBytes area s → InBytes area' t
    → (bytes_in area s ≡ bytes_in area' t) ↔ (shown area s ≡ shown area' t)

-- two slots of the kind k
of-kind : (area area' : List ℕ) (k a m p b n q : ℕ)
    → Told area area' (record { kind = k; start = a; len = m; position = p })
    (record { kind = k; start = b; len = n; position = q })
unfolding shown
of-kind area area' k a m p b n q inside inside' below below' =
    let fits : m * item_size k ≤ length (drop a area) = rw length-drop (omega arith) in
    let fits' : n * item_size k ≤ length (drop b area') = rw length-drop (omega arith) in
    let both = told-by (drop a area) (drop b area') m n (eqb k string) fits fits' below below' in (
      (λ e. ap (λ (items : List ℕ). record { kind = k; items = items }) (both.0 e)),
      (λ e. both.1 (ap (λ (v : Value). v.items) e)),
    )

pub shown-told : (area area' : List ℕ) (s t : Slot) → s.kind ≡ t.kind → Told area area' s t
shown-told area area' s t kinds =
    subst (λ (k : ℕ). Told area area' (record { kind = k; start = s.start; len = s.len; position = s.position }) t)
    (sym kinds)
    (of-kind area area' t.kind s.start s.len s.position t.start t.len t.position)
