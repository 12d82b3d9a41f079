-- Laws of eight binary digits at a time: the number that four of them make, and the byte of eight.
use Prim.Native.Nat.{ℕ, zero, suc, ◌+◌, ◌-◌, ◌*◌, ◌/◌, ◌%◌, ◌≤◌, ◌<◌}
use native.Mathlib.Omega.{arith}
use mathlib.Core.Path.{◌≡◌, refl, sym, ap, ◌∙◌}
use mathlib.Core.Bool.{Bool, true, false}
use mathlib.Core.List.{List, [], ◌∷◌, ◌++◌, map, map-append, append-nil}
use lib.ListN.{length, take, drop, length-map}
use lib.Seq.{take-add, take_all}
use Rattle.record.specs.Bytes.{fit, number, ordered}
use Rattle.record.specs.Packing.{digit_value}
use Rattle.record.proofs.Stores.{length_part}
use Rattle.std.specs.Int.{from_le_bytes, w32}
use Rattle.digits.specs.inside.Numerals.{AreDigits}
use Rattle.digits.specs.inside.bytes.{byte_of}
use Rattle.digits.proofs.DigitLaws.{digit-cases}
use Rattle.digits.proofs.bytes.DigitBytes.{two-halves}

-- ---- the number that four binary digits make

binary-char : (c : ℕ) → digit_value c < 2 → (48 ≤ c) × (c ≤ 49) × (digit_value c ≡ c - 48)
binary-char c =
    digit-cases (λ v. v < 2 → (48 ≤ c) × (c ≤ 49) × (v ≡ c - 48)) c (λ h k l. (h, omega arith, refl)) (λ h k l. (omega arith, omega arith, omega arith))
    (λ h k l. (omega arith, omega arith, omega arith)) (λ l. (omega arith, omega arith, omega arith))

-- what holds of 0 and of 1 holds of a bit
pub bit : (P : ℕ → Type 0) (b : ℕ) → b < 2 → P 0 → P 1 → P b
bit P zero h p q = p
bit P (suc zero) h p q = q
bit P (suc (suc b)) h p q = absurd (omega arith)

-- what holds of the sixteen rows of four bits holds of any
module _ (P : ℕ → ℕ → ℕ → ℕ → Type 0) where
  four-bits : P 0 0 0 0 → P 0 0 0 1 → P 0 0 1 0 → P 0 0 1 1 → P 0 1 0 0 → P 0 1 0 1 → P 0 1 1 0 → P 0 1 1 1
      → P 1 0 0 0 → P 1 0 0 1 → P 1 0 1 0 → P 1 0 1 1 → P 1 1 0 0 → P 1 1 0 1 → P 1 1 1 0 → P 1 1 1 1
      → (a b c d : ℕ) → a < 2 → b < 2 → c < 2 → d < 2 → P a b c d
  four-bits p₀ p₁ p₂ p₃ p₄ p₅ p₆ p₇ p₈ p₉ pₐ p₁₁ p₁₂ p₁₃ p₁₄ p₁₅ a b c d ha hb hc hd =
      bit (λ a. P a b c d) a ha
      (bit (λ b. P 0 b c d) b hb (bit (λ c. P 0 0 c d) c hc (bit (λ d. P 0 0 0 d) d hd p₀ p₁) (bit (λ d. P 0 0 1 d) d hd
      p₂ p₃)) (bit (λ c. P 0 1 c d) c hc (bit (λ d. P 0 1 0 d) d hd p₄ p₅) (bit (λ d. P 0 1 1 d) d hd p₆ p₇)))
      (bit (λ b. P 1 b c d) b hb (bit (λ c. P 1 0 c d) c hc (bit (λ d. P 1 0 0 d) d hd p₈ p₉) (bit (λ d. P 1 0 1 d) d hd
      pₐ p₁₁)) (bit (λ c. P 1 1 c d) c hc (bit (λ d. P 1 1 0 d) d hd p₁₂ p₁₃) (bit (λ d. P 1 1 1 d) d hd p₁₄ p₁₅)))

-- the factor that moves four digits to their places, for either order
abbrev pub mover : Bool → ℕ
mover true = 134480385
mover false = 16909320

abbrev Gathers : Bool → ℕ → ℕ → ℕ → ℕ → Type 0
Gathers high a b c d = ((a + b * 256 + c * 65536 + d * 16777216) * mover high / 16777216) % 16 ≡ number 2 (ordered high (a ∷ b ∷ c ∷ d ∷ []))

-- the product has the digits at the bits 24 to 27, each at its place, and nothing else there
gathers : (high : Bool) (a b c d : ℕ) → a < 2 → b < 2 → c < 2 → d < 2 → Gathers high a b c d
unfolding number
gathers true = four-bits (Gathers true) refl refl refl refl refl refl refl refl refl refl refl refl refl refl refl refl
gathers false = four-bits (Gathers false) refl refl refl refl refl refl refl refl refl refl refl refl refl refl refl refl

four-gathered : (high : Bool) (x a b c d : ℕ) → x ≡ a + b * 256 + c * 65536 + d * 16777216 → digit_value a < 2 → digit_value b < 2 → digit_value c < 2 → digit_value d < 2
    → (808464432 ≤ x) × (((x - 808464432) * mover high / 16777216) % 16 ≡ number 2 (ordered high (map digit_value (a ∷ b ∷ c ∷ d ∷ []))))
four-gathered high x a b c d e ha hb hc hd =
    let ca : (48 ≤ a) × (a ≤ 49) × (digit_value a ≡ a - 48) = binary-char a ha in
    let cb : (48 ≤ b) × (b ≤ 49) × (digit_value b ≡ b - 48) = binary-char b hb in
    let cc : (48 ≤ c) × (c ≤ 49) × (digit_value c ≡ c - 48) = binary-char c hc in
    let cd : (48 ≤ d) × (d ≤ 49) × (digit_value d ≡ d - 48) = binary-char d hd in
    let less : x - 808464432 ≡ (a - 48) + (b - 48) * 256 + (c - 48) * 65536 + (d - 48) * 16777216 = omega arith in
    (omega arith, rw (less, ca.2, cb.2, cc.2, cd.2) (gathers high (a - 48) (b - 48) (c - 48) (d - 48) (omega arith) (omega arith) (omega arith) (omega arith)))

module _ (high : Bool) where
  pub gathered-four : (four : List ℕ) → length four ≡ 4 → AreDigits false four
      → (808464432 ≤ from_le_bytes w32 four) × (((from_le_bytes w32 four - 808464432) * mover high / 16777216) % 16 ≡ number 2 (ordered high (map digit_value four)))
  gathered-four [] e ok = absurd (omega arith)
  gathered-four (a ∷ []) e ok = absurd (omega arith)
  gathered-four (a ∷ b ∷ []) e ok = absurd (omega arith)
  gathered-four (a ∷ b ∷ c ∷ []) e ok = absurd (omega arith)
  gathered-four (a ∷ b ∷ c ∷ d ∷ []) e ok =
      four-gathered high (a + b * 256 + c * 65536 + d * 16777216) a b c d refl (ok 0 (omega arith)) (ok 1 (omega arith)) (ok 2 (omega arith)) (ok 3 (omega arith))
  gathered-four (a ∷ b ∷ c ∷ d ∷ x ∷ l) e ok = absurd (omega arith)

-- ---- the byte of eight binary digits

fit_all : (n : ℕ) (l : List ℕ) → length l ≡ n → fit n 0 l ≡ l
unfolding fit
fit_all n l e = let none : n - length l ≡ 0 = omega arith in rw (none, take_all n l (omega arith), append-nil)

pub eight-byte : (high : Bool) (cs : List ℕ) → length cs ≡ 8 → {a b : ℕ} → a ≡ number 2 (ordered high (map digit_value (take 4 cs)))
    → b ≡ number 2 (ordered high (map digit_value (take (length cs - 4) (drop 4 cs)))) → number 16 (ordered high (a ∷ b ∷ [])) ≡ byte_of false high (map digit_value cs)
unfolding byte_of
eight-byte high cs e {a} {b} ea eb =
    let first : List ℕ = map digit_value (take 4 cs) in
    let second : List ℕ = map digit_value (take (length cs - 4) (drop 4 cs)) in
    let lf : length first ≡ 4 = length-map (take 4 cs) digit_value ∙ length_part 4 0 cs (omega arith) in
    let ls : length second ≡ 4 = length-map (take (length cs - 4) (drop 4 cs)) digit_value ∙ length_part (length cs - 4) 4 cs (omega arith) ∙ (omega arith) in
    let four : length cs - 4 ≡ 4 = omega arith in
    let all : take 4 cs ++ take (length cs - 4) (drop 4 cs) ≡ cs = rw four (sym (take-add 4 4 cs) ∙ take_all 8 cs (omega arith)) in
    let values : first ++ second ≡ fit 8 0 (map digit_value cs) =
    sym (map-append digit_value (take 4 cs) (take (length cs - 4) (drop 4 cs))) ∙ ap (map digit_value) all ∙ sym (fit_all 8 (map digit_value cs) (length-map cs digit_value ∙ e)) in
    rw (ea, eb) (two-halves high first second lf ls ∙ ap (λ (l : List ℕ). number 2 (ordered high l)) values)
