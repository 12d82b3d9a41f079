-- Storing step by step: after any number of steps the record holds a field of the digits that are done, since each step
-- sets the byte in which its digits stand to what a field that ends with them has there. And the step that the code
-- does is the defined one.
use Prim.Native.Nat.{ℕ, zero, suc, ◌+◌, ◌-◌, ◌*◌, ◌/◌, ◌%◌, ◌^◌, ◌≤◌, ◌<◌, min}
use native.Mathlib.Nat.{mod-eq_of_lt}
use native.Mathlib.Numerals.{add-one}
use native.Mathlib.Omega.{arith}
use mathlib.Core.Path.{◌≡◌, refl, sym, ap, ◌∙◌}
use mathlib.Core.Bool.{Bool, false}
use mathlib.Core.List.{List, [], ◌∷◌, ◌++◌, map}
use lib.ListN.{length, take, drop, get_or, set, length-set, length-take, length-map, get_or-eq_default}
use lib.Seq.{get_or-drop, get_or-take, get_or-set_same}
use Rattle.layout.specs.declared.Shape.TheVariants.{Digits}
use Rattle.record.specs.Bytes.{part, store_at, ceil_div}
use Rattle.record.specs.Packing.{digit_value, digit_bytes, stored}
use Rattle.record.proofs.Stores.{store-none, length-store_at}
use Rattle.record.proofs.Fields.{split}
use Rattle.byte_runs.proofs.ByteLaws.{store_both}
use Rattle.digits.specs.inside.Numerals.{place_of, AreDigits}
use Rattle.digits.specs.Steps.{Writing, storing, steps, Advanced, binary_budget, StoredWithin}
use Rattle.digits.proofs.DigitLaws.{take_min, take-there, map_at}
use Rattle.digits.proofs.StepLaws.{done_after, over-steps, whole-step, digit-step}
use Rattle.digits.specs.inside.bytes.{byte_of}
use Rattle.digits.proofs.bytes.DigitBytes.{zero-byte, byte-first}
use Rattle.digits.specs.inside.store.{so_far}
use Rattle.digits.proofs.store.FieldBytes.{map-take, length-stored, stored_at}
use Rattle.digits.proofs.store.StripLaws.{map-drop, front_long, stored_cut, byte_more, byte_small, single, set-over}

module _ (high : Bool) (cs : List ℕ) where
  -- the bytes of a field of d digits
  abbrev field : ℕ → List ℕ
  field d = stored (Digits false high) d cs

  -- what they are after the whole ones number 0 to k
  abbrev behind : ℕ → ℕ → List ℕ
  behind k d = stored (Digits false high) (d - 8 * k) (drop (8 * k) cs)

  -- of up to eight digits they are one byte
  one_byte : (k e : ℕ) → 8 * k < e → e ≤ 8 * k + 8 → behind k e ≡ byte_of false high (map digit_value (part cs (8 * k) (e - 8 * k))) ∷ []
  one_byte k e h l =
      let first : get_or (behind k e) 0 0 ≡ byte_of false high (map digit_value (part cs (8 * k) (e - 8 * k))) = stored_at false high (e - 8 * k) (drop (8 * k) cs) 0 (omega arith) in
      single (behind k e) (length-stored false high (e - 8 * k) (drop (8 * k) cs) ∙ (omega arith)) ∙ rw first

  -- a step from d digits to e
  one_more : (at : ℕ) (bytes : List ℕ) (d e : ℕ) → at + ceil_div e 8 ≤ length bytes → d < e → e ≤ 8 * (d / 8) + 8
      → set (store_at bytes at (field d)) (at + d / 8) (byte_of false high (map digit_value (part cs (8 * (d / 8)) (e - 8 * (d / 8))))) ≡ store_at bytes at (field e)
  one_more at bytes d e room h l =
      let k : ℕ = d / 8 in
      let byte : ℕ = byte_of false high (map digit_value (part cs (8 * k) (e - 8 * k))) in
      let front : List ℕ = field (8 * k) in
      let lf : length front ≡ k = front_long high cs d k (omega arith) in
      let lb : length (behind k d) ≡ ceil_div (d - 8 * k) 8 = length-stored false high (d - 8 * k) (drop (8 * k) cs) in
      let next : (t : List ℕ) → at + k + length t ≤ length bytes → store_at (store_at bytes at front) (at + k) t ≡ store_at bytes at (front ++ t) = λ t i. store_both bytes at k front t lf i refl refl in
      let now : store_at bytes at (field d) ≡ store_at (store_at bytes at front) (at + k) (behind k d) = ap (store_at bytes
      at) (sym (stored_cut high cs d k (omega arith))) ∙ sym (next (behind k d) (omega arith)) in
      let then : store_at bytes at (field e) ≡ store_at (store_at bytes at front) (at + k) (byte ∷ []) =
      ap (store_at bytes at) (sym (stored_cut high cs e k (omega arith)) ∙ ap (λ (b : List ℕ). front ++ b) (one_byte k e (omega arith) l)) ∙ sym (next (byte ∷ []) (omega arith)) in
      let over : set (store_at (store_at bytes at front) (at + k) (behind k d)) (at + k) byte ≡ store_at (store_at bytes at front) (at + k) (byte ∷ []) =
      set-over (store_at bytes at front) (at + k) byte (behind k d) (omega (arith, length-store_at bytes at front (omega arith))) (omega arith) in
      rw now (over ∙ sym then)

  module _ (at n : ℕ) (bytes : List ℕ) (room : at + ceil_div n 8 ≤ length bytes) where
    nothing : bytes ≡ store_at bytes at (field 0)
    unfolding stored digit_bytes
    nothing = sym (store-none bytes at)

    pub stored-run : (k : ℕ) → (steps (storing high cs at) n bytes k).bytes ≡ store_at bytes at (field (done_after n k))
    unfolding byte_of
    stored-run =
        over-steps (λ d r. r ≡ store_at bytes at (field d)) (storing high cs at) n bytes nothing
        (λ d e r h k l g. let same : storing high cs at r d e ≡ storing high cs at (store_at bytes at (field d)) d e = ap (λ (b : List ℕ). storing high cs at b d e) g in
        same ∙ one_more at bytes d e (omega arith) h l)

-- only the first n characters count
pub first-stored : (high : Bool) (cs : List ℕ) (at n : ℕ) (bytes : List ℕ) (k : ℕ) → at + ceil_div n 8 ≤ length bytes
    → (steps (storing high (take (min n (length cs)) cs) at) n bytes k).bytes ≡ (steps (storing high cs at) n bytes k).bytes
unfolding stored digit_bytes
first-stored high cs at n bytes k room =
    let first : List ℕ = take (min n (length cs)) cs in
    let d : ℕ = done_after n k in
    let less : min d (min n (length cs)) ≡ min d (length cs) = omega arith in
    let same : stored (Digits false high) d first ≡ stored (Digits false high) d cs = rw (take_min d (min n (length cs)) cs, less, take-there d cs) in
    stored-run high first at n bytes room k ∙ ap (store_at bytes at) same ∙ sym (stored-run high cs at n bytes room k)

-- the first j values from the number m on are 0 or 1, and 0 past those that are there
bits : (cs : List ℕ) → AreDigits false cs → (m j i : ℕ) → get_or (take j (drop m (map digit_value cs))) i 0 < 2
bits cs checked m j i =
    let values : List ℕ = map digit_value cs in
    let all : get_or values (m + i) 0 < 2 =
    split (suc (m + i)) (length cs) (λ h. rw (map_at digit_value cs (m + i) h) (checked (m + i) h))
    (λ h. rw (get_or-eq_default values 0 {n = m + i} (simp length-map (omega arith))) (omega arith)) in
    split (suc i) j (λ h. rw (get_or-take j (drop m values) i 0 h, get_or-drop m values i 0) all)
    (λ h. rw (get_or-eq_default (take j (drop m values)) 0 {n = i} (simp length-take (omega arith))) (omega arith))

-- ---- the step that the code does

module _ (high : Bool) (cs : List ℕ) (at n : ℕ) where
  abbrev writing : Writing
  writing = storing high cs at

  -- over a whole byte
  pub whole-stored : (k : ℕ) {out out' : List ℕ} {b : ℕ} → k < n / 8
      → b ≡ byte_of false high (drop (8 * k) (map digit_value cs)) → out' ≡ set out (at + k) b
      → Advanced writing n k (k + 1) out out'
  unfolding byte_of
  whole-stored k {out} {b = b} h eb e bytes same =
      let byte : 8 * k / 8 ≡ k = omega arith in
      let count : 8 * k + 8 - 8 * k ≡ 8 = omega arith in
      let eight : byte_of false high (map digit_value (part cs (8 * k) 8)) ≡ b =
      rw (map-take digit_value 8 (drop (8 * k) cs), map-drop digit_value (8 * k) cs) (byte-first false high (drop (8 * k) (map digit_value cs)) 8 (omega arith) ∙ sym eb) in
      let here : writing out (8 * k) (8 * k + 8) ≡ set out (at + k) b = rw (byte, count) (ap (set out (at + k)) eight) in
      e ∙ sym (whole-step writing n k bytes h ∙ ap (λ (r : List ℕ). writing r (8 * k) (8 * k + 8)) (sym same) ∙ here)

  -- the values of the digits of the last byte
  abbrev last : List ℕ
  last = drop (8 * (n / 8)) (map digit_value cs)

  last_set : (r : List ℕ) (j : ℕ) → j < 8 → writing r (8 * (n / 8) + j) (8 * (n / 8) + j + 1) ≡ set r (at + n / 8) (byte_of false high (take (j + 1) last))
  unfolding byte_of
  last_set r j h =
      let byte : (8 * (n / 8) + j) / 8 ≡ n / 8 = omega arith in
      let count : 8 * (n / 8) + j + 1 - 8 * (n / 8) ≡ j + 1 = omega arith in
      rw (byte, count, map-take digit_value (j + 1) (drop (8 * (n / 8)) cs), map-drop digit_value (8 * (n / 8)) cs)

  -- where j of them are stored, the byte is what they make
  so-far : (k : ℕ) (out bytes : List ℕ) (j : ℕ) → k ≡ n / 8 + j → j < n % 8 → at + n / 8 < length out
      → out ≡ (steps writing n bytes k).bytes → so_far j out (at + n / 8) ≡ byte_of false high (take j last)
  so-far k out bytes zero ek h inside same = sym (zero-byte false high)
  so-far k out bytes (suc j) ek h inside same =
      let k₁ : ℕ = n / 8 + j in
      let r : List ℕ = (steps writing n bytes k₁).bytes in
      let next : k ≡ k₁ + 1 = omega arith in
      let byte : ℕ = byte_of false high (take (j + 1) last) in
      let was : out ≡ set r (at + n / 8) byte = same ∙ ap (λ (i : ℕ). (steps writing n bytes i).bytes) next ∙ digit-step writing n k₁ bytes j refl (omega arith) ∙ last_set r j (omega arith) in
      let long : length out ≡ length r = ap length was ∙ length-set r (at + n / 8) byte in
      let one : j + 1 ≡ suc j = add-one j in
      ap (λ (l : List ℕ). get_or l (at + n / 8) 0) was ∙ get_or-set_same r (at + n / 8) byte 0 (omega arith) ∙ ap (λ (i : ℕ). byte_of false high (take i last)) one

  -- over the digit number j of the last byte
  pub digit-stored : (k j : ℕ) {out out' : List ℕ} {bit : ℕ} → AreDigits false cs → k ≡ n / 8 + j → j < n % 8 → at + n / 8 < length out
      → bit ≡ get_or (map digit_value cs) (8 * (n / 8) + j) 0 * 2 ^ place_of high 8 j → out' ≡ set out (at + n / 8) ((so_far j out (at + n / 8) + bit) % 256) → Advanced writing n k (k + 1) out out'
  digit-stored k j {out} {bit = bit} checked ek h inside eb e bytes same =
      let d : ℕ = 8 * (n / 8) + j in
      let digit : get_or last j 0 ≡ get_or (map digit_value cs) d 0 = get_or-drop (8 * (n / 8)) (map digit_value cs) j 0 in
      let sum : so_far j out (at + n / 8) + bit ≡ byte_of false high (take (j + 1) last) = rw (so-far k out bytes j ek h inside same, eb, ← digit) (sym (byte_more high last j (omega arith))) in
      let small : so_far j out (at + n / 8) + bit < 256 = rw sum (byte_small high (take (j + 1) last) (bits cs checked (8 * (n / 8)) (j + 1))) in
      let here : set out (at + n / 8) ((so_far j out (at + n / 8) + bit) % 256) ≡ writing out d (d + 1) = rw (mod-eq_of_lt small, sum) (sym (last_set out j (omega arith))) in
      e ∙ here ∙ ap (λ (r : List ℕ). writing r d (d + 1)) same ∙ sym (digit-step writing n k bytes j ek h)

pub stored-within : StoredWithin
stored-within high cs at n bytes room =
    let all : done_after n (binary_budget n) ≡ n = omega arith in
    stored-run high cs at n bytes room (binary_budget n) ∙ rw all
