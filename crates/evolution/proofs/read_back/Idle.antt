-- The demand fixes every number and byte that is left, and on the instance these are computed: an idle program leaves
-- others.
use Prim.Native.Nat.{ℕ, zero, suc, ◌≤◌}
use native.Mathlib.Omega.{arith}
use mathlib.Core.Path.{◌≡◌, refl, sym, ap, ◌∙◌}
use mathlib.Core.Bool.{true}
use mathlib.Core.List.{List}
use lib.ListN.{length, get_or, drop, replicate}
use Rattle.layout.specs.Layout.{slot_count}
use Rattle.record.specs.declared.ReadAnswer.{ReadAnswer}
use Rattle.record.specs.Table.{slot_width, slots_of, slot_numbers, value_bytes}
use Rattle.record.specs.Packing.{pack, filled}
use Rattle.record.specs.Reading.{Read, put_into}
use Rattle.evolution.specs.Claim.{Reading, set_by, starts_from, record_bytes, due}
use Rattle.evolution.specs.Pair.{pair_with, pair, other}
use Rattle.evolution.specs.Calls.{PackedAndRead, Meant}
use Rattle.evolution.specs.Idle.{call, Keeps, slots_due, IdleProgramsFail}

-- what holds at each of the seven cuts holds at every one
module _ (P : ℕ → Type 0) (p₀ : P 0) (p₁ : P 1) (p₂ : P 2) (p₃ : P 3) (p₄ : P 4) (p₅ : P 5) (p₆ : P 6) where
  at_each : (k : ℕ) → k ≤ 6 → P k
  at_each zero h = p₀
  at_each (suc zero) h = p₁
  at_each (suc (suc zero)) h = p₂
  at_each (suc (suc (suc zero))) h = p₃
  at_each (suc (suc (suc (suc zero)))) h = p₄
  at_each (suc (suc (suc (suc (suc zero))))) h = p₅
  at_each (suc (suc (suc (suc (suc (suc zero)))))) h = p₆
  at_each (suc (suc (suc (suc (suc (suc (suc k))))))) h = absurd (omega arith)

-- ---- the calls are such as the demand speaks of

reading : (byte k : ℕ) → k ≤ 6 → Reading (pair_with byte) true true k (replicate 8 9) (replicate 12 9) 1
unfolding pair_with pack set_by filled slots_of slot_count value_bytes
reading byte =
    at_each (λ k. Reading (pair_with byte) true true k (replicate 8 9) (replicate 12 9) 1)
    (record { within = omega arith; sizes = tt; enough-slots = omega arith; room = omega arith })
    (record { within = omega arith; sizes = tt; enough-slots = omega arith; room = omega arith })
    (record { within = omega arith; sizes = tt; enough-slots = omega arith; room = omega arith })
    (record { within = omega arith; sizes = tt; enough-slots = omega arith; room = omega arith })
    (record { within = omega arith; sizes = tt; enough-slots = omega arith; room = omega arith })
    (record { within = omega arith; sizes = tt; enough-slots = omega arith; room = omega arith })
    (record { within = omega arith; sizes = tt; enough-slots = omega arith; room = omega arith })

meant : (byte k : ℕ) → k ≤ 6 → Meant (pair_with byte) true true (call (pair_with byte) k)
meant byte k h =
    record { writer = refl; arguments = refl; items = refl; buffer = refl; reader = refl; reading = reading byte k h }

-- ---- what the demand fixes

count-due : (k : ℕ) → k ≤ 6 → length (due pair true k) ≡ slots_due k
unfolding pair set_by filled slots_of
count-due = at_each (λ k. length (due pair true k) ≡ slots_due k) refl refl refl refl refl refl refl

module _ (k : ℕ) (within : k ≤ 6) (x : PackedAndRead) (h : Keeps pair k x) where
  number-left : x.answer.answer.number ≡ 0
  unfolding put_into
  number-left = ap (λ (r : Read). r.answer.number) h.readings

  count_left : x.answer.answer.first ≡ slots_due k
  unfolding put_into
  count_left = ap (λ (r : Read). r.answer.first) h.readings ∙ count-due k within

-- of the whole record: its first byte, and the first numbers of both slots
module _ (x : PackedAndRead) (h : Keeps pair 6 x) where
  first-bytes : (get_or x.output 0 0 ≡ 97) × (get_or x.values 1 0 ≡ 97)
  unfolding pair record_bytes set_by filled slots_of put_into value_bytes
  first-bytes = (ap (λ (bs : List ℕ). get_or bs 0 0) h.output, ap (λ (r : Read). get_or r.area 1 0) h.readings)

  kinds : (get_or x.table 0 0 ≡ 1) × (get_or (drop slot_width x.table) 0 0 ≡ 2)
  unfolding pair set_by filled slots_of starts_from put_into slot_numbers
  kinds = (
    ap (λ (r : Read). get_or r.slots 0 0) h.readings,
    ap (λ (r : Read). get_or (drop slot_width r.slots) 0 0) h.readings,
  )

-- and the integer's last byte, in the record and in the area
last-pair : (x : PackedAndRead) → Keeps pair 6 x → (get_or x.output 5 0 ≡ 254) × (get_or x.values 11 0 ≡ 254)
unfolding pair record_bytes set_by filled slots_of put_into value_bytes
last-pair x h = (ap (λ (bs : List ℕ). get_or bs 5 0) h.output, ap (λ (r : Read). get_or r.area 11 0) h.readings)

last-other : (x : PackedAndRead) → Keeps other 6 x → (get_or x.output 5 0 ≡ 253) × (get_or x.values 11 0 ≡ 253)
unfolding other record_bytes set_by filled slots_of put_into value_bytes
last-other x h = (ap (λ (bs : List ℕ). get_or bs 5 0) h.output, ap (λ (r : Read). get_or r.area 11 0) h.readings)

-- ---- so each of these programs fails

-- a number that would be two
two-numbers : {m n k : ℕ} → k ≡ m → k ≡ n → (m ≡ n → ⊥) → ⊥
two-numbers e f differ = differ (sym e ∙ f)

pub idle-programs-fail : IdleProgramsFail
unfolding pair other
idle-programs-fail = record {
  speaks = λ k h. (meant 254 k h, meant 253 k h);
  refuses = λ k within x bad h. bad (number-left k within x h);
  fixed_answer =
      λ x y same h i.
      two-numbers (count_left _ (omega arith) x h)
      (ap (λ (a : ReadAnswer). a.answer.first) same ∙ count_left _ (omega arith) y i)
      (λ e. omega arith);
  writes-no-record = λ x e h. two-numbers (first-bytes x h).0 (ap (λ (bs : List ℕ). get_or bs 0 0) e) (λ z. omega arith);
  sets-no-slot = λ x e h. two-numbers (kinds x h).0 (ap (λ (ns : List ℕ). get_or ns 0 0) e) (λ z. omega arith);
  stores-no-value = λ x e h. two-numbers (first-bytes x h).1 (ap (λ (bs : List ℕ). get_or bs 1 0) e) (λ z. omega arith);
  invents-bytes =
      λ x y e h i.
      two-numbers (last-pair x h).0 (ap (λ (bs : List ℕ). get_or bs 5 0) e ∙ (last-other y i).0) (λ z. omega arith);
  invents-value =
      λ x y e h i.
      two-numbers (last-pair x h).1 (ap (λ (bs : List ℕ). get_or bs 11 0) e ∙ (last-other y i).1) (λ z. omega arith);
  first-field-only = λ x e h. two-numbers (kinds x h).1 (ap (λ (ns : List ℕ). get_or ns 0 0) e) (λ z. omega arith);
  invented-count = λ k n within wrong x e h. wrong (sym e ∙ count_left k within x h);
}
