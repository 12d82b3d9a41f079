-- What holds of every reading for a C host: the claim of `specs/Claims.antt`.
use Rattle.std.specs.Prelude.{if◌then◌else◌}
use Prim.Native.Nat.{ℕ, ◌*◌, ◌%◌, ◌<◌}
use native.Mathlib.Nat.{mod-eq_of_lt}
use native.Mathlib.Omega.{arith}
use mathlib.Core.Path.{◌≡◌, refl, sym, ap, ◌∙◌}
use mathlib.Core.Bool.{Bool, true, false}
use mathlib.Core.List.{List, [], ◌∷◌, reverse, reverse-reverse}
use borrow.Author.Tests.{eqb-true}
use lib.Dec.{eqb}
use lib.ListN.{length, take, drop}
use lib.Seq.{take_at, drop_at}
use Rattle.record.specs.Bytes.{part, join, digits, number, number_bytes, number_at, big_endian}
use Rattle.record.specs.Table.{slot_width}
use Rattle.record.specs.Reading.{Read, read, read_steps, with_steps}
use Rattle.record.proofs.Bytes.{All, all-below, number_digits}
use Rattle.host.specs.Numbers.{number_size, numbers_bytes, numbers_in}
use Rattle.host.specs.Host.{slot_size, long_reply_size, long_reply, ReadCall, read_call}
use Rattle.host_record.specs.Reading.{steps_call, curlew_read}
use Rattle.host_record.specs.Claims.{Stay, UnsetStay}
use Rattle.record.proofs.NumberLaws.{length-number_bytes}
use Rattle.host.proofs.numbers.NumberLaws.{bytes_drop, bytes_back}
use Rattle.record.proofs.Readings.{read-unset, read-few}

-- a number of 32 bits comes back from its bytes
number-back : (x : ℕ) → x < 4294967296 → number 256 (reverse (number_bytes number_size x)) ≡ x
unfolding number_bytes
number-back x h = rw (reverse-reverse (digits 256 4 x), number_digits 256 4 x (omega arith)) (mod-eq_of_lt h)

-- the second of a reply's numbers
pub second-number : (x y : ℕ) (rest : List ℕ) → y < 4294967296 → number_at number_size (numbers_bytes (x ∷ y ∷ rest)) number_size ≡ y
unfolding number_at numbers_bytes big_endian join
second-number x y rest h =
    let front : drop number_size (numbers_bytes (x ∷ y ∷ rest)) ≡ numbers_bytes (y ∷ rest) = drop_at (number_bytes number_size x) (numbers_bytes (y ∷ rest)) number_size (length-number_bytes number_size x) in
    let here : part (numbers_bytes (x ∷ y ∷ rest)) number_size number_size ≡ number_bytes number_size
    y = ap (take number_size) front ∙ take_at (number_bytes number_size y) (numbers_bytes rest) number_size
    (length-number_bytes number_size y) in
    ap (λ (p : List ℕ). number 256 (reverse p)) here ∙ number-back y h

-- what a call on numbers leaves
module _ (slots : List ℕ) (r : Read) where
  unset-bytes : length slots % number_size ≡ 0 → All (λ b. b < 256) slots → drop (r.answer.first * slot_width) r.slots ≡ drop (r.answer.first * slot_width) (numbers_in slots)
      → drop (slot_size * r.answer.first) (numbers_bytes r.slots) ≡ drop (slot_size * r.answer.first) slots
  unset-bytes whole below same =
      let n : ℕ = r.answer.first * slot_width in
      let at : slot_size * r.answer.first ≡ n * number_size = omega arith in
      rw at (sym (bytes_drop n r.slots) ∙ ap numbers_bytes same ∙ bytes_drop n (numbers_in slots) ∙ ap (drop (n * number_size)) (bytes_back slots whole below))

  stay-by : (k : ℕ) (b : Bool) → eqb r.answer.number 0 ≡ b
      → (r.answer.number ≡ 0 → (r.answer.first < 4294967296)
      × (drop (slot_size * r.answer.first) (numbers_bytes r.slots) ≡ drop (slot_size * r.answer.first) slots))
      → Stay slots (steps_call slots (with_steps r k))
  unfolding steps_call read_call long_reply
  stay-by k true e h =
      let few = h (eqb-true r.answer.number 0 e) in
      record { unset = rw (e, second-number r.answer.number r.answer.first (r.answer.second ∷ k ∷ []) few.0) few.1 }
  stay-by k false e h = record { unset = rw e }

-- what the guard lets through
guarded-stay : (slots : List ℕ) (a b : Bool) {unwritten refused served : ReadCall} → Stay slots unwritten → Stay slots refused → (b ≡ true → Stay slots served)
    → Stay slots (if a then (if b then served else refused) else unwritten)
guarded-stay slots false b u r s = u
guarded-stay slots true false u r s = r
guarded-stay slots true true u r s = s refl

pub unset-stay : UnsetStay
unfolding curlew_read steps_call read_call
unset-stay layout bytes slots area mark reply h =
    guarded-stay slots (eqb (length reply) long_reply_size) (eqb (length slots % slot_size) 0) (record { unset = refl }) (record { unset = refl })
    (λ e.
    let whole : length slots % slot_size ≡ 0 = eqb-true (length slots % slot_size) 0 e in
    let r : Read = read layout bytes (numbers_in slots) area mark in
    stay-by slots r (read_steps layout bytes (numbers_in slots) area mark) (eqb r.answer.number 0) refl
    (λ z. let few = read-few layout bytes area mark (numbers_in slots) z in
    (omega (arith, few.most), unset-bytes slots r (omega arith) (all-below slots h) (read-unset layout bytes area mark (numbers_in slots) z))))
